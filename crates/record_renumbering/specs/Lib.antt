-- The definitions and claims of this crate.
pub mod Keys
pub mod Forms
pub mod FormsRow
