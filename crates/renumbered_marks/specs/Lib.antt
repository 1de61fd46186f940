-- What a renumbering of the processors makes of an operation.
pub mod Roles
