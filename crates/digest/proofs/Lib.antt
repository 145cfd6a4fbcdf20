pub mod Schedule
pub mod Arrays
pub mod Blocks
pub mod Padding
pub mod Sizes
pub mod Filling
pub mod Standing
