mod Walks
pub mod Chains
mod Levels
mod Graphs
mod Nearer
mod Distances
mod Pairs
mod Covering
mod Named
