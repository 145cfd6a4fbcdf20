pub mod Steps
pub mod Placing
pub mod Chunks
pub mod Ranking
