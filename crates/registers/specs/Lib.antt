-- The state where it lies: numbers that the caller lends, and the controller that they stand for.

pub mod Layout
pub mod Registers
