-- The laws of this crate, open to the crates above it.
pub mod OperationLaws
pub mod RoleLaws
pub mod LinkLaws
pub mod CompiledLaws
pub mod LinkedLaws
