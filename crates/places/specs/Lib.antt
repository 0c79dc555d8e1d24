-- Theorems of handle places: what is claimed.
pub mod StrideZero
pub mod PlacesRise
