-- Laws of the scan queue's calls.

pub mod Jobs
pub mod HandedOut
pub mod Passed
