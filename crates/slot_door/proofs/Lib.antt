-- What the proofs of several calls use.
mod SlotCalls
mod TraceCalls
pub mod Once
