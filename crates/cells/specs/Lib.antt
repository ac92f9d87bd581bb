pub mod Reading
pub mod Roles
