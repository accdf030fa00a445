pub mod Rows
pub mod OneToOne
pub mod Proved
pub mod Numerals
pub mod Nan
pub mod Lines
pub mod Written
