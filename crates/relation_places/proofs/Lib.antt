-- The laws of this crate, open to the crates above it.
pub mod PlaceLaws
pub mod Ranges
