-- The table of operations, and the links between them.
pub mod Operations
pub mod Links
pub mod Linked
pub mod Compiled
