pub mod Positions
pub mod Links
pub mod Joining
pub mod Starting
