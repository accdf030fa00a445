pub mod Stepped
pub mod Rooms
pub mod OneToOne
pub mod Proved
