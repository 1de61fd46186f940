-- The laws of this crate, open to the crates above it.
pub mod Tables
pub mod Owners
pub mod Ready
pub mod Due
pub mod Refusals
pub mod Demands
pub mod OperationRows
pub mod Awaited
pub mod Bytes
pub mod Words
pub mod Sources
pub mod Sees
pub mod Meaning
