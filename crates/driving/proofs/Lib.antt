-- Laws of whole operations by their calls.

pub mod Turning
pub mod Driving
