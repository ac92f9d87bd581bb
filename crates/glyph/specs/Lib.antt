pub mod Cells
pub mod Glyph
pub mod Words
