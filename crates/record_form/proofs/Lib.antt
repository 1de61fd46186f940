-- The laws of this crate.
pub mod LexLaws
pub mod ProcessorLaws
pub mod OwnLaws
pub mod LineLaws
pub mod HeadLaws
pub mod PairLaws
pub mod PieceLaws
pub mod SortLaws
pub mod LocatedLaws
pub mod FormLaws
