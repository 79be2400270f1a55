-- Check 1 of the registers.

pub mod Taken
pub mod Together
