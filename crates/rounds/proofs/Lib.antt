-- A round on registers.

pub mod Going
pub mod Served
