pub mod Numbers
pub mod Records
pub mod Order
pub mod Listing
pub mod Reading
pub mod Surveys
pub mod Lines
