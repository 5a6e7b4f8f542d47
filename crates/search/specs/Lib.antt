pub mod Joined
pub mod Numbered
pub mod Spans
pub mod Walks
pub mod Searched
pub mod Shapes
pub mod Laws
