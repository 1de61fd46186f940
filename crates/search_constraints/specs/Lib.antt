-- What the sets of operations hold, by the tables.
pub mod Rows
