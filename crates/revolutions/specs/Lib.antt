-- What is proved of whole sequences of calls. `Revolutions` is demand 3, `Trading` its second half, `Folded` both on
-- lists alone, and `Examples` what they say of a session of three revolutions, with rules that do not meet them;
-- `Answered` is demand 1, and `Table` is document 01's proved table.
pub mod Revolutions
pub mod Trading
pub mod Folded
pub mod Examples
pub mod Answered
pub mod Table
