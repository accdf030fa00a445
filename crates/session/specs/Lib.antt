-- Session files: read `Lines`, the grammar, and `Session`, what a session answers, from its bytes.
-- `Rows` has worked rows; `Inner` serves the private functions, and no public promise uses it.
pub mod Lines
pub mod Session
pub mod Rows
pub mod Inner
