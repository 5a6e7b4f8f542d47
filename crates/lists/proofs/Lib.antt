pub mod Chains
pub mod Tables
pub mod Many
