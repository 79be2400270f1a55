-- Laws of slots, the waiting list at every cut of a call, and the sentences worked out.

pub mod Order
pub mod Encoding
pub mod Words
pub mod PowerCut
pub mod Cases
