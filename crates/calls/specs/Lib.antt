-- The calls on registers: what is asked of them, and what they tell and leave.

pub mod Asked
pub mod Calls
