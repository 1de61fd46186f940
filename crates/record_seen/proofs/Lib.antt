-- The laws of this crate, open to the crates above it.
pub mod Zeroed
pub mod Hiding
pub mod Places
pub mod Within
pub mod SameCopies
pub mod Unseen
pub mod CopyIsRead
pub mod SolversRow
