pub mod Sums
pub mod Columns
pub mod Blocks
pub mod Files
pub mod Turns
pub mod Outcomes
pub mod Checked
pub mod Claims
