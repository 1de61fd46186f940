-- The numbers that the calls return.
pub mod Numbers
