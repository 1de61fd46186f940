-- What the decoded types mean in the model's terms, and what a function that reads promises.
pub mod Kinds
pub mod Decoded
pub mod Refusals
pub mod Reads
pub mod Positions
