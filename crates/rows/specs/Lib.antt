pub mod Bounds
pub mod Kinds
pub mod Nests
pub mod Counts
pub mod Orders
pub mod Pairs
pub mod Runs
pub mod Listed
