pub mod Lists
pub mod Stepping
pub mod Chains
pub mod Histories
pub mod Doing
pub mod Promised
pub mod Joining
pub mod Examples
