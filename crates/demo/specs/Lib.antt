pub mod Camera
pub mod Picture
