-- The definitions of this crate.
pub mod Lists
pub mod Lex
pub mod Below
pub mod Fold
pub mod Bits
pub mod Orders
