pub mod Outcomes
pub mod Buffers
pub mod Order
