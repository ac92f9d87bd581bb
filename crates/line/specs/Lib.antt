pub mod Asked
pub mod Promises
pub mod Edges
pub mod Line
pub mod Rules
pub mod Seams
