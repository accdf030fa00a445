-- Every promise of the library crates decides the answer and what is left in each lent array. Read `Decided`, then a
-- list for each crate, in which each public function stands once: tools/promises, which the gate runs, compares these
-- lists with every public function. `Aliases` says which types of numbers Fwd1 to Fwd4 are of. `Open` has promises that do
-- not decide.
-- `Tried` says what it is to try a wrong answer on a promise; `WrongNumbers`, `WrongCalls`, `WrongSession`,
-- `WrongText` and `WrongTrack` have two or more for each function.
pub mod Decided
pub mod Root
pub mod Forward
pub mod Aliases
pub mod Tape
pub mod Expr
pub mod Dual
pub mod Listing
pub mod Session
pub mod Text
pub mod Track
pub mod Open
pub mod Tried
pub mod WrongNumbers
pub mod WrongCalls
pub mod WrongSession
pub mod WrongText
pub mod WrongTrack
