-- Laws of reading a slot.

pub mod Reading
pub mod Holding
