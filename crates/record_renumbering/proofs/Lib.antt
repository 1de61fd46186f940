-- The laws of this crate, open to the crates above it.
pub mod Rising
pub mod Parts
pub mod Words
pub mod Programs
pub mod Slots
pub mod Ascending
pub mod Decoding
pub mod Straight
pub mod Smallest
pub mod FormsDecide
pub mod OwnForm
pub mod Reading
pub mod Taken
pub mod PairsAnew
pub mod FormsAccepted
pub mod CallsOrder
pub mod FormsRow
