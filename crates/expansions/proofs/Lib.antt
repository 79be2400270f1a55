-- Laws of expanding a bench sheet.

pub mod Rooms
pub mod Turns
pub mod Lays
pub mod Goods
