pub mod Each
pub mod Tests
pub mod Cuts
pub mod Orders
pub mod Insides
pub mod Listings
pub mod Calls
