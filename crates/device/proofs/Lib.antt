pub mod Claims
pub mod FirstCells
pub mod Laws
pub mod ReadCount
pub mod ZeroSpacing
