pub mod First
pub mod Answering
