-- Bench sheets: worked cases, and laws.

pub mod Cases
pub mod Forward
pub mod Counting
pub mod Loading
