-- The laws of this crate, open to the crates above it.
pub mod LatestLaws
pub mod SightLaws
pub mod RuleLaws
