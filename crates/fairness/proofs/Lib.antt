-- Proofs of the statements of specs/.

-- what every call leaves of a step that could move a word
pub mod Kept
-- the theorems
pub mod FairProof
pub mod CountsProof
pub mod TurnsProof
-- their bound is exact, and their premises can be met
pub mod Instances
