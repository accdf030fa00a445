-- What reads, clearing and passes promise: one step of the machine of crate tape. Read `Outcome`; `Inner` serves the
-- private functions, and no public promise uses it.
pub mod Outcome
pub mod Inner
