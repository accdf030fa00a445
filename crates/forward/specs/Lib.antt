-- What the forward numbers' promises say. Read `Forward`, then `Number`; `Rows`, `Values` and `Tests` state what is
-- proved of `Forward`. `Types` says what a type of numbers is, so that a statement can be made of each; Fwd1 to Fwd4 are
-- such types by crates/decided/specs/Aliases.antt. `OneToOne` has the proof that the trait's law of a struct is.
-- `declared` has the code's own struct and trait, as the checker reads them off src/.
pub mod Forward
pub mod Number
pub mod Tests
pub mod Types
pub mod Inner
pub mod OneToOne
pub mod Rows
pub mod Values
