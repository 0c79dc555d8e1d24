-- A type table as text.
pub mod Table
pub mod Lists
pub mod Reading
pub mod Inner
