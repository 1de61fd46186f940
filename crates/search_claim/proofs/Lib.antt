-- The laws of this crate, open to the crates above it.
pub mod Cut
pub mod Reach
pub mod Orders
pub mod Buffer
pub mod Calls
pub mod Whole
pub mod Next
pub mod NextRow
