-- The definitions that the public contracts cite, and what demand 3 says over them.
pub mod Calls
pub mod Demand
