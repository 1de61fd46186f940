-- The rules as tests of tables: marks of two instructions, operations, places.
pub mod Tests
pub mod Lowest
