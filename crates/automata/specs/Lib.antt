pub mod Sets
pub mod Positions
pub mod Parts
pub mod Machines
