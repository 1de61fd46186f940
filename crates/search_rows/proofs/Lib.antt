-- The laws of this crate, open to the crates above it.
pub mod LineLaws
pub mod RowLaws
pub mod TableLaws
