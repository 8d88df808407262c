pub mod Orders
pub mod Banks
