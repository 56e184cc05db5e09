pub mod Shaping
pub mod Parsing
pub mod Meanings
