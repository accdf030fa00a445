-- What the listing promises. Read `Outcome`, and `Listing` of crate tape for the bytes themselves; `Rows` has worked
-- rows.
pub mod Outcome
pub mod Rows
