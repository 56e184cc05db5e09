pub mod Checks
pub mod Verdicts
pub mod Classes
