-- Shuffles of whole operations.

pub mod Shuffle
