-- The laws of this crate, open to the crates above it.
pub mod Greater
pub mod Onward
pub mod ReplayLaws
pub mod Going
