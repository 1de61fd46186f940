-- The laws of this crate, open to the crates above it.
pub mod Pairs
pub mod Newly
pub mod Links
pub mod Stores
pub mod Releases
pub mod Loads
pub mod Ranks
pub mod Itself
pub mod Reduction
