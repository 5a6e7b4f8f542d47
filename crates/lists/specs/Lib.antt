pub mod Holds
pub mod Rows
pub mod Many
pub mod Table
