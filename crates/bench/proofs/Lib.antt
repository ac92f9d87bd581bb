pub mod Reached
pub mod Parts
