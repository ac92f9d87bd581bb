pub mod Calls
pub mod Claims
pub mod Fed
pub mod OnePage
pub mod Pixels
pub mod Quiet
pub mod Reach
pub mod Witnesses
