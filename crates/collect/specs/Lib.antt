pub mod Collect
pub mod Inner
