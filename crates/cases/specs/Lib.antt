pub mod Turned
pub mod TurnedLaws
