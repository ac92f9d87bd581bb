pub mod Capture
pub mod Cuts
pub mod Outputs
pub mod Places
