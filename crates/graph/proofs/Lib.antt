pub mod Same
pub mod OneEdge
pub mod Among
pub mod Lowest
pub mod InTable
pub mod Growth
