pub mod Ask
pub mod Pixel
pub mod Rounds
