pub mod Demand
pub mod Instance
