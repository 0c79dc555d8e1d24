-- The definitions that the public contracts cite, and those that only inner contracts do.
pub mod Same
pub mod Order
pub mod Inner
