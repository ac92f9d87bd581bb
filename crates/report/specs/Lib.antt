pub mod Example
pub mod Parts
pub mod Report
