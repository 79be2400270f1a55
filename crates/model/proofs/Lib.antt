-- Laws about the definitions of specs/.

pub mod Bool
pub mod Geometry
pub mod Words
pub mod Counting
pub mod Places
pub mod QueueLaws
pub mod Rights
pub mod Deciders
pub mod Pages
pub mod Checks
pub mod Answers
pub mod DeniedReads
pub mod Lifecycle
pub mod Flashes
pub mod Valid
pub mod WorkParts
pub mod Order
pub mod Moving
pub mod Starting
pub mod StepLaws
pub mod Accepting
pub mod Free
pub mod Rounds
pub mod Bench
pub mod Parts
