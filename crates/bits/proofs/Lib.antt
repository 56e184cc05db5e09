pub mod Laws
pub mod Sets
pub mod RowLaws
