-- Demand 3 over the public contracts, and the ways out of the calls.
pub mod Refusing
pub mod Theorem
pub mod Entries
