-- The laws of this crate, open to the crates above it.
pub mod Sections
pub mod Entries
pub mod Rendered
pub mod Grouping
pub mod Settled
pub mod ReadIsWritten
pub mod WrittenIsRead
pub mod SectionsRow
