-- A start on registers.

pub mod Starting
