-- The definitions of this crate.
pub mod Puts
pub mod Cut
pub mod Replies
