-- Proofs of the promises of specs/.

-- a valid state stays valid
pub mod Fields
pub mod KeepSettings
pub mod KeepPhases
pub mod KeepQueues
pub mod KeepSteps
pub mod KeepStart
pub mod KeepWholes
pub mod KeepRounds
pub mod Validity
-- the others
pub mod FlashLaws
pub mod Unrecorded
pub mod NamedProof
pub mod RefusedWholes
pub mod RefusedProof
pub mod UnknownProof
pub mod CountedProof
pub mod RisesProof
pub mod ConfinedProof
pub mod OneWayProof
-- their premises can be met
pub mod Instances
