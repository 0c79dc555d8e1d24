-- What only the contracts of inner functions cite.
pub mod Collects
pub mod Held
