pub mod Plays
pub mod Following
