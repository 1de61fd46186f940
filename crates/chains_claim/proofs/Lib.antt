-- The laws of this crate, open to the crates above it.
pub mod Rules
pub mod Ranks
pub mod LegalOrders
pub mod Extensions
pub mod ChainsBind
pub mod ChainsRow
