pub mod Spread
pub mod Tally
pub mod Text
