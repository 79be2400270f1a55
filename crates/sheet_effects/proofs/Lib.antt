-- Running a bench sheet: worked cases, and laws.

pub mod Cases
pub mod Running
