-- `first_line`: the product is small (`start_bound`).
use Rattle.std.proofs.Common.{◌*◌, ◌≤◌, arith, rules}
use Rattle.raster.specs.Search.{heights_to}
use Rattle.raster.proofs.Slices.{start_bound}
use Rattle.raster.proofs.first_line.Goals as goal

pub overflow_mul-result : goal.overflow_mul-result
overflow_mul-result c =
    let start : heights_to c.args.slice * c.args.height ≤ 9435 = start_bound c.args.slice c.args.height c.requires (search rules) in
    rw (c.heights_to.ensures, c.from.ensures) (omega (arith, start))

pub overflow_add-result : goal.overflow_add-result
overflow_add-result c =
    let start : heights_to c.args.slice * c.args.height ≤ 9435 = start_bound c.args.slice c.args.height c.requires (search rules) in
    rw (c.heights_to.ensures, c.from.ensures) (omega (arith, start))

pub returns-clause-bound : goal.returns-clause-bound
returns-clause-bound c =
    let start : heights_to c.args.slice * c.args.height ≤ 9435 = start_bound c.args.slice c.args.height c.requires (search rules) in
    rw (c.heights_to.ensures, c.from.ensures) (omega (arith, start))
