-- Proofs of the statements of specs/.

-- what the model and its plans do
pub mod Union
pub mod Pages
pub mod Places
pub mod Views
-- the theorem, by the laws of one operation
pub mod Commute
pub mod Demand3
-- the pages that an operation touches are the right ones
pub mod Touched
-- the theorem's premises can be met
pub mod Decided
pub mod Applied
