pub mod Answered
pub mod OneFault
pub mod Going
pub mod Rule
pub mod Spelled
pub mod Steps
