-- The scan queue, in the words of its two pages.

pub mod Payload
pub mod Slots
pub mod Decisions
pub mod Cuts
