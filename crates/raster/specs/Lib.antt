pub mod Raster
pub mod Rules
pub mod Search
