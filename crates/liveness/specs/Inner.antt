-- What only the contracts of inner functions cite.
pub mod Scratch
pub mod Chains
pub mod Plans
