-- The claims that equal records have the same mark, with rows that meet what is asked there.
pub mod EqualMarks
pub mod EqualMarksRow
