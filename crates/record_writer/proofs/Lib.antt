-- The laws of this crate, open to the crates above it.
pub mod PutLaws
pub mod EntryLaws
pub mod WalkLaws
pub mod RecordLaws
pub mod CutLaws
pub mod ReplyLaws
