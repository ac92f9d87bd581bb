pub mod Calls
pub mod Fed
pub mod OnePage
pub mod Pixels
pub mod Reach
pub mod Use
pub mod Witnesses
