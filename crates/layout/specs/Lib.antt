pub mod FeedLayout
pub mod Layout
