-- The laws of this crate, open to the crates above it.
pub mod SetLaws
pub mod RemoteLaws
pub mod LinkedLaws
pub mod PartnerLaws
pub mod OwnedLaws
