pub mod FontFile
pub mod Checked
pub mod Columns
