-- The definitions of this crate.
pub mod Totals
pub mod Texts
