pub mod Claims
pub mod Crossing
pub mod Cuts
pub mod Laws
pub mod OnePage
pub mod Pixels
