pub mod Bounds
pub mod Named
pub mod Held
