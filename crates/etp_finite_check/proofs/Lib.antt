pub mod FiniteRights
