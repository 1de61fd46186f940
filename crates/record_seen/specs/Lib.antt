-- The claims about the solvers' copy, with a row that meets what is asked there.
pub mod SolversClaims
pub mod SolversRow
