-- `ScanLine::shows`: the first line that could show the slice decides (`shown_past`, `shown_first`).
use Rattle.std.proofs.Common.{◌+◌, ◌∙◌, arith, rules}
use borrow.Author.Tests.{lt-leb}
use Rattle.raster.proofs.Slices.{rising, shown_past, shown_first, start_bound, last_bound, height_some}
use Rattle.raster.proofs.ScanLine.shows.Goals as goal

pub overflow_cast-unzoom : goal.overflow_cast-unzoom
overflow_cast-unzoom c =
    let a = c.args in
    let le = c.requires.le_count in
    rw (c.unzoom.ensures, c.from-line.ensures)
    (omega (arith, rising a.zoom a.self.0 1 a.count le.0, last_bound a.self a.count a.height a.zoom le.0 le.1))

pub overflow_cast-last : goal.overflow_cast-last
overflow_cast-last c =
    let a = c.args in
    let le = c.requires.le_count in
    rw (c.unzoom-last.ensures, c.from-line.ensures, c.from.ensures) (omega (arith, last_bound a.self a.count a.height a.zoom le.0 le.1))

pub overflow_mul-result : goal.overflow_mul-result
overflow_mul-result c =
    let a = c.args in
    let le = c.requires.le_count in
    let last = rw (c.unzoom-last.ensures, c.from-line.ensures, c.from.ensures) at c.if-n-last.true in
    omega (arith, last, last_bound a.self a.count a.height a.zoom le.0 le.1)

pub overflow_mul-result-then-n-last : goal.overflow_mul-result-then-n-last
overflow_mul-result-then-n-last c =
    let a = c.args in
    let next_start = start_bound (a.slice.0 + 1) a.height (omega (arith, c.requires.in_character)) (search rules) in
    rw (c.heights_to.ensures, c.from-s.ensures, c.from-then-n-last.ensures) (omega (arith, next_start))

pub returns-else-n-last : goal.returns-else-n-last
returns-else-n-last c =
    let a = c.args in
    let le = c.requires.le_count in
    let some = height_some a.self a.count a.height a.zoom le.0 le.1 in
    lt-leb _ _ c.if-n-last.false ∙ shown_past a.self a.count a.height a.zoom a.slice some le.0 (rw (c.max-n.ensures, c.unzoom.ensures, c.first_line.ensures.line, c.from-s.ensures, c.unzoom-last.ensures, c.from-line.ensures, c.from.ensures) at c.if-n-last.false)

pub returns-then-n-last : goal.returns-then-n-last
returns-then-n-last c =
    let a = c.args in
    let le = c.requires.le_count in
    let some = height_some a.self a.count a.height a.zoom le.0 le.1 in
    let n = rw (c.max-n.ensures, c.unzoom.ensures, c.first_line.ensures.line, c.from-s.ensures, c.unzoom-last.ensures, c.from-line.ensures, c.from.ensures) at c.if-n-last.true in
    rw (c.max-n.ensures, c.unzoom.ensures, c.first_line.ensures.line, c.from-line.ensures, c.heights_to.ensures, c.from-s.ensures, c.from-then-n-last.ensures)
    (shown_first a.self a.count a.height a.zoom a.slice some le.0 n)
