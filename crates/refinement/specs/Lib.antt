-- The registers stand for what the model's calls leave.

pub mod Refinement
