-- What only the contracts of inner functions cite.
pub mod Accepting
pub mod Marks
pub mod Rules
