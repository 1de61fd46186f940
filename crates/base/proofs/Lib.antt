-- The laws of this crate, open to the crates above it.
pub mod Bools
pub mod Lists
pub mod Lex
pub mod Tests
pub mod Folds
pub mod Chains
pub mod Copies
pub mod Bits
pub mod Entries
pub mod Orders
pub mod Permutations
