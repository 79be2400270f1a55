-- What a bench may rely on, whatever it calls.

pub mod Calls
pub mod Validity
pub mod Refused
pub mod Named
pub mod Confined
pub mod Counted
pub mod Unknown
