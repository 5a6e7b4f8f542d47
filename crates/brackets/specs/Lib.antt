pub mod Levels
pub mod Live
pub mod Method
pub mod Swept
pub mod Turned
pub mod Handled
