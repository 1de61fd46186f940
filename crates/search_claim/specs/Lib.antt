-- The claims of the search: every list of its calls, and its walk, with rows that meet what is asked there.
pub mod PointThree
pub mod NextPrefix
pub mod NextRow
