pub mod Plans
pub mod Sides
pub mod Layouts
pub mod Passes
