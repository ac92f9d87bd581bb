pub mod Feeds
pub mod Runs
