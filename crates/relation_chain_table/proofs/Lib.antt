-- The laws of this crate, open to the crates above it.
pub mod SquareLaws
pub mod RowLaws
pub mod PathLaws
pub mod LinkedLaws
pub mod TableLaws
pub mod CallLaws
