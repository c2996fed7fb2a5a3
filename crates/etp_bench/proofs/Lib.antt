mod Everywhere
mod Pairs
