-- Numbers as text. Read `Numerals`, how a number is written; `Written`, how a text goes into lent bytes; `Parsed`, what
-- is read as a number.
-- `Rows` has worked rows, and what holds of all numbers; `Inner` serves the private functions, and no public promise
-- uses it.
pub mod Numerals
pub mod Written
pub mod Parsed
pub mod Rows
pub mod Inner
