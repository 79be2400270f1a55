-- Bench sheets.

pub mod Sheet
pub mod Counts
