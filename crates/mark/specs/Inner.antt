-- What only the contracts of inner functions cite.
pub mod Graph
pub mod Joining
pub mod Objects
pub mod Queues
pub mod Safepoints
pub mod Scratch
pub mod Told
