-- The definitions of this crate.
pub mod Lexical
pub mod Ordered
pub mod Places
pub mod Sorting
