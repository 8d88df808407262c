pub mod Rows
pub mod Playing
pub mod Following
