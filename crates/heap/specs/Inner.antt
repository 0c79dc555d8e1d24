-- What only the contracts of inner functions cite.
pub mod Asked
pub mod Columns
pub mod Header
pub mod Loans
pub mod Seen
pub mod Tells
