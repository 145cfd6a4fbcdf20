pub mod Showing
pub mod Decoding
