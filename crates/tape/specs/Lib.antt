-- Document 01's machine. Read in this order: `Numbers`, `Machine`, `Admission`, `Handles`, `Operations`, `Walk`,
-- `Listing`, `Answers`, `Calls`, `Refusals`, `Steps`; `Kept`, `Issued`, `Passes` and `Slices` state what is proved of
-- calls and sequences of them, and `Rows` has worked ones, `Pairs` those that fix the order of the refusals.
-- `declared` has the code's own structs and enums, as the checker reads them off src/.
pub mod Numbers
pub mod Machine
pub mod Admission
pub mod Handles
pub mod Operations
pub mod Walk
pub mod Listing
pub mod Answers
pub mod Calls
pub mod Refusals
pub mod Steps
pub mod Kept
pub mod Issued
pub mod Passes
pub mod Slices
pub mod Rows
pub mod Pairs
pub mod Inner
