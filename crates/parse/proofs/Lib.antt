pub mod Shaped
pub mod Arranging
pub mod Meant
pub mod Facts
