-- The laws of this crate, open to the crates above it.
pub mod Renumbers
pub mod Carries
pub mod Carried
pub mod Sights
pub mod Moves
pub mod Tests
pub mod Demands
pub mod OneMark
