-- Document 01's printed example (specs/Example.antt): the definition computes it.
-- Assumes nothing.
use mathlib.Core.Path.{refl}
use mathlib.Core.List.{zip_with}
use Rattle.cells.specs.Reading.{bind, fmap, value, cells}
use Rattle.registers.specs.Registers.{loaded, settings_of}
use Rattle.raster.specs.Raster.{before_first, following, is_last, interpolated, slice_number}
use Rattle.walk.specs.Walk.{walk_from, strip_of, over, next_strip, begun, advanced, next_line}
use Rattle.glyph.specs.Glyph.{glyph_of, in_ram, of_bytes}
use Rattle.paint.specs.Pixels.{ink_of, columns, twelve_columns}
use Rattle.line.specs.Line.{codes_by, row_by, shown_by, scan_by, shown_of, character, painted, paint}
use Rattle.device.specs.Device.{fresh_device, in_frame, start_frame, pixels_of, line_on, line_drawn, draw_verdict, draw_by, draw_line}
use Rattle.report.specs.Report as report
use Rattle.report.specs.Report.{bench_device, digits, lines_text, bench_text}
use Rattle.buffers.specs.Buffers.{bytes_of}
use Rattle.report.specs.Example.{example_input, example_output, BenchExample}

pub bench_example : BenchExample
unfolding example_input example_output bytes_of bench_text lines_text report.bench_start bench_device digits fresh_device in_frame start_frame pixels_of line_on line_drawn draw_verdict draw_by draw_line loaded zip_with settings_of scan_by next_line walk_from over next_strip begun advanced strip_of row_by shown_by codes_by glyph_of in_ram bind fmap cells value before_first following is_last interpolated slice_number paint painted character shown_of twelve_columns ink_of columns of_bytes
bench_example = refl
