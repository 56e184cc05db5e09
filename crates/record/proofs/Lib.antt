pub mod Newness
pub mod Fitness
pub mod Answering
pub mod Going
pub mod Copies
