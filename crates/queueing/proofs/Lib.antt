pub mod Popped
pub mod Pushed
