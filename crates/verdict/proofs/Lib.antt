-- The laws of this crate.
pub mod TextLaws
pub mod DigitLaws
pub mod CallLaws
pub mod LineLaws
