-- Whole operations in closed form, by any driver, and for at most so many steps.

pub mod Plan
pub mod Driver
pub mod Limited
