pub mod Cuts
pub mod Interface
pub mod OnePage
pub mod Pixels
