-- `Reader` has the inverse of the lines' texts, by `Back` and `Only`; `Scans`, `Turns`, `Reported` and `Answered` serve the
-- functions.
mod Scans
mod Turns
mod Reported
mod Bytes
mod Back
mod Made
mod Matches
mod Only
pub mod Reader
pub mod Answered
pub mod Rows
pub mod Proved
