pub mod Device
pub mod FirstCells
pub mod ReadCount
pub mod ZeroSpacing
