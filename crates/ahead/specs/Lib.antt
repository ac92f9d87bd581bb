pub mod Ahead
pub mod Looking
pub mod Question
pub mod Search
