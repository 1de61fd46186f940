-- The laws of this crate.
pub mod ClearLaws
pub mod SeenLaws
pub mod CopyLaws
