-- Laws of whole operations in closed form, of any driver, and of a limit on steps.

pub mod Holding
pub mod Running
pub mod Firsts
pub mod Moves
pub mod Turns
pub mod Wholes
pub mod ClosedFormProof
pub mod Left
pub mod Cases
pub mod Changes
pub mod Drives
pub mod DrivenReads
pub mod DrivenPrograms
pub mod DrivenErases
pub mod AnyDriverProof
-- their premises can be met
pub mod DriverInstances
pub mod LimitedProof
