pub mod Listed
pub mod Kept
pub mod Written
pub mod Stored
pub mod There
pub mod Cleared
pub mod Lying
