-- What the proofs of several functions use.
pub mod TurnsPut
pub mod SideBySide
