-- What the reader answers.
pub mod Readings
