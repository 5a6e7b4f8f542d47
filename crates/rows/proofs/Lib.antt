pub mod Counts
pub mod Depths
pub mod Gathers
pub mod Sited
pub mod There
pub mod Nested
