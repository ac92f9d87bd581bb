pub mod Claims
pub mod Cuts
pub mod Laws
pub mod Outputs
