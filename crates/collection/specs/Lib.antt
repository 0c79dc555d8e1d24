pub mod Swept
pub mod Shown
pub mod Collected
pub mod Demand
pub mod Joined
pub mod JoinedDemand
pub mod Collecting
pub mod Inner
