-- What the calls tell.

pub mod Movements
