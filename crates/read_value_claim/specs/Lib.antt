-- The claim of the read-value test, with records and rows that meet its hypotheses.
pub mod ReadValue
pub mod ReadValueRow
