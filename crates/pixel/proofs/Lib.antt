pub mod Laws
pub mod Lines
pub mod Rounds
pub mod Rows
