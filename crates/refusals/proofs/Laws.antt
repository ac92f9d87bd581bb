-- A refused call is not accepted: its number is not 0. No two reasons why an event is not acknowledged have one number.
-- Assumes nothing.
use Prim.Native.Nat.{ℕ, ◌≤◌}
use mathlib.Core.Path.{◌≡◌, refl, sym, ap, subst, ◌∙◌}
use mathlib.Core.Bool.{false, cond}
use native.Mathlib.Omega.{arith}
use lib.Dec.{eqb}
use Rattle.refusals.specs.declared.Unheard.{Unheard}
use Rattle.refusals.specs.declared.Unheard.TheVariants.{Idle, NotAddressed, Reading, Writing}
use Rattle.refusals.specs.declared.FileRefusal.{FileRefusal}
use Rattle.refusals.specs.declared.FileRefusal.TheVariants.{Length, Checks, Format}
use Rattle.refusals.specs.declared.Refusal.{Refusal}
use Rattle.refusals.specs.declared.Refusal.TheVariants.{RamLength, FontLength, LineLength, NoLine, NotAcknowledged, FrameLines, BenchLength, CellRange, FeedShut, OutputRoom, PixelRange}
use Rattle.refusals.specs.Refusals.{number_of, file_number_of, Verdict, passed, failed}

IsRefused : Verdict → Type 0
IsRefused passed = ⊥
IsRefused (failed r) = Unit

pub failed-not : (r : Refusal) → failed r ≡ passed → ⊥
unfolding IsRefused
failed-not r e = subst IsRefused e tt

-- no refusal has the number 0
pub not-zero : (r : Refusal) → eqb (number_of r) 0 ≡ false
not-zero RamLength = refl
not-zero FontLength = refl
not-zero LineLength = refl
not-zero NoLine = refl
not-zero (NotAcknowledged Idle) = refl
not-zero (NotAcknowledged NotAddressed) = refl
not-zero (NotAcknowledged Reading) = refl
not-zero (NotAcknowledged Writing) = refl
not-zero FrameLines = refl
not-zero BenchLength = refl
not-zero CellRange = refl
not-zero FeedShut = refl
not-zero OutputRoom = refl
not-zero PixelRange = refl

pub file-not-zero : (r : FileRefusal) → eqb (file_number_of r) 0 ≡ false
file-not-zero Length = refl
file-not-zero (Checks place) = refl
file-not-zero (Format place) = refl

-- ---- why an event is not acknowledged, by the number

pub at_least_five : (why : Unheard) → 5 ≤ number_of (NotAcknowledged why)
at_least_five Idle = omega arith
at_least_five NotAddressed = omega arith
at_least_five Reading = omega arith
at_least_five Writing = omega arith

why_of : ℕ → Unheard
why_of n = cond (eqb n 5) Idle (cond (eqb n 12) NotAddressed (cond (eqb n 13) Reading Writing))

why_of_lem : (why : Unheard) → why_of (number_of (NotAcknowledged why)) ≡ why
unfolding why_of
why_of_lem Idle = refl
why_of_lem NotAddressed = refl
why_of_lem Reading = refl
why_of_lem Writing = refl

-- no two reasons have one number
pub same_number : (why other : Unheard) → number_of (NotAcknowledged why) ≡ number_of (NotAcknowledged other) → why ≡ other
same_number why other e = sym (why_of_lem why) ∙ ap why_of e ∙ why_of_lem other
