-- A step on registers.

pub mod Stepping
