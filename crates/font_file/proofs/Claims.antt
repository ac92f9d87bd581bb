-- Each claim of this crate's specs, with its proof.
-- Assumes nothing.
use Rattle.font_file.specs.Checked.{FontFiles, FileExample}
use Rattle.font_file.proofs.Checked as checked

pub font_files : FontFiles
font_files = checked.font_files

pub file_example : FileExample
file_example = checked.file_example
