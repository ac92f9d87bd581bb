pub mod Claims
pub mod Laws
pub mod Rules
pub mod Slices
pub mod Steps
