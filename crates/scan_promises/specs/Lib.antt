-- What is promised of scan calls.

pub mod PowerCut
pub mod Refusals
pub mod ScanIsCalls
pub mod Reboots
pub mod Outlives
