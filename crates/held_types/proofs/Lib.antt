-- What the proofs of crate yexwalu cite too.
pub mod Telling
pub mod Once
