-- The laws of this crate, open to the crates above it.
pub mod LinkMeaning
pub mod PairMeaning
pub mod LowestLaws
pub mod RuleMeaning
