-- The definitions of this crate.
pub mod Lent
pub mod Puts
