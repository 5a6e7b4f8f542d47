pub mod Checks
pub mod Listed
pub mod Calling
pub mod Sampled
pub mod Opens
pub mod Second
