pub mod Pixels
pub mod Tables
