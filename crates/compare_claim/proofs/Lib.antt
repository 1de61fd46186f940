-- The laws of this crate, open to the crates above it.
pub mod Located
pub mod SameLines
pub mod Renumbered
pub mod Orders
pub mod Searches
pub mod EqualMarks
pub mod EqualMarksRow
