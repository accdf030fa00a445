-- What recording promises: one step of the machine of crate tape. Read `Outcome` and `Operators`; `Inner` serves the
-- private functions, and no public promise uses it.
pub mod Outcome
pub mod Operators
pub mod Inner
