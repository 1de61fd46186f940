-- The definitions of this crate.
pub mod Replies
pub mod Replays
pub mod Outcomes
