-- The test of one operation more over compiled rows.
pub mod Rows
pub mod Fits
