pub mod Steps
pub mod Printing
