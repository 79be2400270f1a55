-- Numbers in bytes: worked cases, and laws.

pub mod Cases
pub mod Laws
