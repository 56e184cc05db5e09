pub mod Parsing
pub mod Next
pub mod Rising
pub mod Steps
pub mod Begin
pub mod Texts
