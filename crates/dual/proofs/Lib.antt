pub mod Loops
pub mod OneToOne
pub mod Plans
pub mod Proved
pub mod Readings
