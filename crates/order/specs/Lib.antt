pub mod Ranks
pub mod Trees
pub mod Orders
pub mod Steps
