pub mod Bounds
pub mod Claims
pub mod Counts
pub mod Laws
pub mod Roles
