-- A round on registers.

pub mod Turns
