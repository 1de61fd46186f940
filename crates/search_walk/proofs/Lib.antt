-- The laws of this crate, open to the crates above it.
pub mod Gaps
pub mod Levels
pub mod Search
