pub mod Starts
pub mod Memories
pub mod Acting
pub mod Stacks
pub mod Piles
pub mod States
pub mod Reports
pub mod Pieces
