pub mod Bus
pub mod Unheard
