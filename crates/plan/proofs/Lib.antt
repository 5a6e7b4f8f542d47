pub mod Answered
pub mod Asked
pub mod Determined
pub mod Drafted
pub mod Ended
pub mod Following
pub mod Told
pub mod Unwritten
