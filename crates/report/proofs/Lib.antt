pub mod Claims
pub mod Example
pub mod Parts
pub mod Texts
