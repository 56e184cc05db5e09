pub mod Passing
pub mod Siding
pub mod Placing
pub mod Ranking
pub mod Extending
