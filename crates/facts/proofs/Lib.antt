pub mod Choice
pub mod Lists
pub mod Pairs
pub mod Parts
pub mod Tests
pub mod Written
