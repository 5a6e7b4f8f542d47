pub mod Decoded
pub mod Digit
pub mod Laws
pub mod Line
pub mod Refused
pub mod Spelling
