-- Proofs of specs/.

pub mod Lengths
pub mod SheetCallsProof
pub mod Instances
