-- `Search::look_strip`: the k lines lie in the strip (`lines_in_lem`).
use native.Mathlib.Omega.{arith}
use Rattle.ahead.proofs.Lines.{lines_in_lem}
use Rattle.ahead.proofs.Search.look_strip.Goals as goal

pub user_shown-shown-requires : goal.user_shown-shown-requires
user_shown-shown-requires c = (omega (arith, c.if-k-eq0.false), lines_in_lem c.args.k c.args.strip c.in-Characters.is c.requires)
