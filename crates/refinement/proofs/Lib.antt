-- Proofs of specs/.

pub mod Lengths
pub mod KeepBytes
pub mod KeepRounds
pub mod RefinementProof
