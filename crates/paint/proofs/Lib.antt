pub mod Laws
pub mod Spread
pub mod Tables
