-- Each claim of this crate's specs, with its proof.
-- Assumes nothing.
use Rattle.cells.specs.Roles.{ByRole}
use Rattle.cells.proofs.Roles as roles

pub by_role : ByRole
by_role = roles.by_role
