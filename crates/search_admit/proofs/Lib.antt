-- The laws of this crate, open to the crates above it.
pub mod FitLaws
pub mod TestLaws
pub mod WordLaws
