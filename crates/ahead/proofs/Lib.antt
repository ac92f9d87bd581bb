pub mod Lines
pub mod Looks
pub mod Marks
pub mod Remaining
pub mod Rows
