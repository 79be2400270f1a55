-- A whole operation by its calls on registers, for at most so many steps.

pub mod Drives
