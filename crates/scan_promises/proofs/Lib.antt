-- What a scan call leaves, wherever the power is cut; what is found; reset and the same settings; which calls it makes.

pub mod Lengths
pub mod Refining
pub mod Runs
pub mod Jobs
pub mod Placed
pub mod PowerCutProof
pub mod CutCases
pub mod FoundProof
pub mod Instances
pub mod Boots
pub mod RefusalsProof
pub mod ScanIsCallsProof
pub mod RebootsProof
pub mod OutlivesProof
pub mod OutlivesInstance
pub mod CallsInstance
