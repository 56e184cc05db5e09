pub mod Marking
pub mod Halves
pub mod Closure
pub mod Stepping
pub mod Unions
pub mod Layouts
