-- Numbers in bytes.

pub mod Number
