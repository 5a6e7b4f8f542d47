pub mod Pairs
pub mod Sweeps
