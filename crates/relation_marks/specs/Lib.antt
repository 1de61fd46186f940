-- The marks of two instructions.
pub mod Marks
