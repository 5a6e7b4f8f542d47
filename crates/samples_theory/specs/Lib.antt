pub mod Samples
pub mod Second
