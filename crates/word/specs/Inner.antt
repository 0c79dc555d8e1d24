-- What only the contracts of inner functions cite.
pub mod Bit
pub mod Num
pub mod Number
pub mod Ones
