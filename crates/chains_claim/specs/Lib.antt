-- The claim about what the chain table says of the orders, with a row that meets what is asked there.
pub mod ChainsBind
pub mod ChainsRow
