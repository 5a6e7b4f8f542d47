pub mod Words
pub mod Meaning
pub mod Walks
pub mod Parts
pub mod Kinds
pub mod Listing
pub mod Told
pub mod History
