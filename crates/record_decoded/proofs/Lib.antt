-- The laws of this crate, open to the crates above it.
pub mod Counts
pub mod Attributes
pub mod RoleNumbers
pub mod DataBytes
pub mod Items
pub mod Arrays
pub mod InitialBytes
