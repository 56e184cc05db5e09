pub mod Tables
pub mod Moves
pub mod Marked
pub mod Walked
pub mod Rows
