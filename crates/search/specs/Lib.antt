pub mod Places
pub mod Heads
