pub mod Moves
pub mod Testing
