-- The definitions of this crate.
pub mod Replies
pub mod Squares
pub mod Paths
