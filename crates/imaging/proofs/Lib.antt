pub mod Counted
pub mod Text
pub mod Proved
pub mod Searched
