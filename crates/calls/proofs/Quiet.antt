-- The proof of what a host can act on (specs/Use.antt).
-- Assumes nothing.
use Prim.Native.Nat.{ℕ, ◌-◌, ◌≤◌, ◌<◌}
use mathlib.Core.Path.{◌≡◌, refl, sym, ap, ◌∙◌, subst}
use mathlib.Core.Bool.{Bool, true, false, not, cond}
use mathlib.Core.List.{List}
use native.Mathlib.Omega.{arith}
use borrow.Author.Tests.{lt-ltb, le-ltb, le-leb, lt-leb, eqb-false, leb-false}
use lib.Dec.{T, eqb, leb}
use lib.ListN.{length, get_or, set}
use lib.Seq.{get_or-set_other, set-get_or}
use Rattle.cells.specs.Reading.{among, Alike}
use Rattle.refusals.specs.declared.Refusal.TheVariants.{RamLength, CellRange}
use Rattle.refusals.specs.Refusals.{Reply, accepted, refused}
use Rattle.registers.specs.declared.Registers.{Registers}
use Rattle.registers.specs.Registers.{stored, settings_of}
use Rattle.registers.proofs.Said.{keeps_ld, keeps_dd, keeps_ch, keeps_control, keeps_others}
use Rattle.bus.specs.declared.Event.{Event}
use Rattle.bus.specs.declared.Event.TheVariants.{Byte}
use Rattle.bus.specs.declared.Effect.{Effect}
use Rattle.bus.specs.declared.Effect.TheVariants.{Acknowledge, Ignore, Store, Load}
use Rattle.bus.specs.declared.BusState.TheVariants.{Write}
use Rattle.bus.specs.declared.Bus.{Bus}
use Rattle.bus.specs.declared.Step.{Step}
use Rattle.bus.specs.Bus.{BusOutcome, step, address, taken, ram_with, registers_with, answer_to, bus_reply}
use Rattle.bus.proofs.Laws.{by_event, byte_at_lem}
use Rattle.device.specs.Device.{hear_event, ask_cell, cells_left}
use Rattle.capture.specs.Capture.{Chip, chip}
use Rattle.calls.specs.Calls.{QuietChange, Kept}
use Rattle.calls.specs.OnePage.{State, chip_of, events, effect_of, Stores, Quiet}
use Rattle.calls.specs.Use.{QuietEvents}

-- ---- an event is quiet if its effect is

-- the effect changes none of the cells and no setting
record Harmless (ram : List ℕ) (r : Registers) (cs : List ℕ) (f : Effect) : Type 0 where
  keeps : Alike cs ram (ram_with f ram)
  same : settings_of (registers_with f r) ≡ settings_of r

same-ram : (cs ram : List ℕ) {ram' : List ℕ} → ram' ≡ ram → Alike cs ram ram'
unfolding Alike
same-ram cs ram e c t = ap (λ (m : List ℕ). get_or m c 0) e

-- what an event leaves of device and RAM, by what it comes to on the bus
abbrev leaves : State → BusOutcome → Chip
leaves s o = chip (record { bus = o.bus; registers = o.registers; frame = s.device.frame; next = s.device.next }) o.ram

quiet_by : (s : State) (e : Event) → Harmless s.ram s.device.registers (cells_left s.device s.ram) (effect_of s e) → Quiet s e
unfolding hear_event taken
quiet_by s e h =
    by_event (λ (o : BusOutcome). QuietChange (chip_of s) (leaves s o)) s.device.bus s.device.registers s.ram e
    (record { cells = same-ram _ s.ram refl; settings = refl }) (record { cells = h.keeps; settings = h.same })

quiet_as : (s : State) (e : Event) (f : Effect) → effect_of s e ≡ f
    → Harmless s.ram s.device.registers (cells_left s.device s.ram) f → Quiet s e
quiet_as s e f q h = quiet_by s e (subst (Harmless s.ram s.device.registers (cells_left s.device s.ram)) (sym q) h)

-- ---- events that leave RAM and registers as they are

-- its effect stores nothing
unstored : (s : State) (f : Effect) → (Stores f → ⊥) → (ram_with f s.ram ≡ s.ram) × (registers_with f s.device.registers ≡ s.device.registers)
unfolding Stores ram_with registers_with
unstored s Acknowledge n = (refl, refl)
unstored s (Ignore why) n = (refl, refl)
unstored s (Store a x) n = absurd (n tt)
unstored s (Load a) n = (refl, refl)

-- it is refused, for whatever reason
taken_refused : (s : State) (f : Effect) → ((bus_reply (answer_to f s.device.registers s.ram)).refusal ≡ 0 → ⊥) → Stores f → ⊥
unfolding answer_to Stores
taken_refused s Acknowledge h t = t
taken_refused s (Ignore why) h t = t
taken_refused s (Store a x) h t = h refl
taken_refused s (Load a) h t = t

module _ (s : State) (e : Event) where
  if_unstored : (Stores (effect_of s e) → ⊥) → Kept (chip_of s) (leaves s (taken (step s.device.bus e) s.device.registers s.ram))
  unfolding taken
  if_unstored n = let u = unstored s (effect_of s e) n in record { ram = u.0; registers = u.1 }

  pub same_unstored : (Stores (effect_of s e) → ⊥) → Kept (chip_of s) (chip_of (events.after s e))
  unfolding hear_event
  same_unstored n =
      by_event (λ (o : BusOutcome). Kept (chip_of s) (leaves s o)) s.device.bus s.device.registers s.ram e
      (record { ram = refl; registers = refl }) (if_unstored n)

  pub same-refused : ((events.answer s e).refusal ≡ 0 → ⊥) → Kept (chip_of s) (chip_of (events.after s e))
  unfolding hear_event
  same-refused =
      by_event (λ (o : BusOutcome). (o.reply.refusal ≡ 0 → ⊥) → Kept (chip_of s) (leaves s o)) s.device.bus s.device.registers s.ram e
      (λ _. record { ram = refl; registers = refl }) (unfold taken in λ k. if_unstored (taken_refused s (effect_of s e) k))

-- what keeps RAM and registers is quiet
pub quiet-kept : {c d : Chip} → Kept c d → QuietChange c d
quiet-kept h = record { cells = same-ram _ _ h.ram; settings = ap settings_of h.registers }

-- an event is quiet if it is so wherever it is a write
pub quiet_if_write : (s : State) (e : Event) → (Stores (effect_of s e) → Quiet s e) → Quiet s e
quiet_if_write s e w = by (effect_of s e) refl
  where
    by : (f : Effect) → effect_of s e ≡ f → Quiet s e
    by Acknowledge p = quiet-kept (same_unstored s e (unfold Stores in λ t. subst Stores p t))
    by (Ignore why) p = quiet-kept (same_unstored s e (unfold Stores in λ t. subst Stores p t))
    by (Store a x) p = w (subst Stores (sym p) (unfold Stores in tt))
    by (Load a) p = quiet-kept (same_unstored s e (unfold Stores in λ t. subst Stores p t))

-- ---- the kinds of events

module _ (ram : List ℕ) (r : Registers) (cs : List ℕ) (a x : ℕ) where
  -- a store below 3FF0 leaves the registers, one from 400 on the RAM
  no_register : a < 0x3FF0 → registers_with (Store a x) r ≡ r
  unfolding registers_with
  no_register h = rw (lt-leb 0x3FF0 a h)

  no_cell : 0x400 ≤ a → ram_with (Store a x) ram ≡ ram
  unfolding ram_with
  no_cell h = rw (le-ltb a 0x400 h)

  cell_set : a < 0x400 → ram_with (Store a x) ram ≡ set ram a x
  unfolding ram_with
  cell_set h = rw (lt-ltb a 0x400 h)

  register_set : 0x3FF0 ≤ a → registers_with (Store a x) r ≡ stored r (a - 0x3FF0) x
  unfolding registers_with
  register_set h = rw (le-leb 0x3FF0 a h)

  -- a cell that none of the lines read
  unread-cell : a < 0x400 → among a cs ≡ false → Harmless ram r cs (Store a x)
  unread-cell h n =
      record {
        keeps = unfold Alike in λ c t. ap (λ (m : List ℕ). get_or m c 0) (cell_set h) ∙ get_or-set_other ram a c x 0 (λ e. apart c t e);
        same = ap settings_of (no_register (omega arith));
      }
    where
      apart : (c : ℕ) → T (among c cs) → c ≡ a → ⊥
      apart c t e = subst T (ap (λ (y : ℕ). among y cs) e ∙ n) t

  same-cell : a < 0x400 → get_or ram a 0 ≡ x → Harmless ram r cs (Store a x)
  same-cell h e =
      record {
        keeps = same-ram cs ram (cell_set h ∙ ap (set ram a) (sym e) ∙ set-get_or ram a 0);
        same = ap settings_of (no_register (omega arith));
      }

  empty-address : 0x400 ≤ a → a < 0x3FF0 → Harmless ram r cs (Store a x)
  empty-address h l = record { keeps = same-ram cs ram (no_cell h); same = ap settings_of (no_register l) }

  register_kept : 0x3FF0 ≤ a → settings_of (stored r (a - 0x3FF0) x) ≡ settings_of r → Harmless ram r cs (Store a x)
  register_kept h e = record { keeps = same-ram cs ram (no_cell (omega arith)); same = ap settings_of (register_set h) ∙ e }

-- ---- the question

-- a reply that is no refusal and no yes
pub says_no : (badRam badCell reads : Bool) → cond badRam (refused RamLength) (cond badCell (refused CellRange) (accepted (cond reads 1 0))) ≡ accepted 0
    → (badRam ≡ false) × (badCell ≡ false) × (reads ≡ false)
says_no true badCell reads e = absurd (eqb-false 1 0 refl (ap (λ (r : Reply). r.refusal) e))
says_no false true reads e = absurd (eqb-false 8 0 refl (ap (λ (r : Reply). r.refusal) e))
says_no false false true e = absurd (eqb-false 1 0 refl (ap (λ (r : Reply). r.value) e))
says_no false false false e = (refl, refl, refl)

-- a data byte goes to the address that the counter holds
data_byte : (b : Bus) (x : ℕ) → b.state ≡ Write → (step b (Byte x)).effect ≡ Store (address b) x
unfolding step
data_byte b x e = ap (λ (t : Step). t.effect) (sym (byte_at_lem b x e))

pub quiet-events : QuietEvents
quiet-events =
    record {
      asked_no = λ s x w q. answered s x w (unfold ask_cell in says_no _ _ _ q);
      refused = λ s e h. quiet-kept (same-refused s e h);
      same_delay = λ s e x q g. quiet_as s e (Store 0x3FF1 x) q (register_kept _ _ _ 0x3FF1 x (omega arith) (keeps_dd s.device.registers x g));
      same_height = λ s e x q g. quiet_as s e (Store 0x3FF2 x) q (register_kept _ _ _ 0x3FF2 x (omega arith) (keeps_ch s.device.registers x g));
      no_store = λ s e n. quiet-kept (same_unstored s e n);
      same_byte = λ s e a x q h g. quiet_as s e (Store a x) q (same-cell _ _ _ a x h g);
      empty = λ s e a x q h l. quiet_as s e (Store a x) q (empty-address _ _ _ a x h l);
      other_register = λ s e a x q h l. quiet_as s e (Store a x) q (register_kept _ _ _ a x (omega arith) (keeps_others _ (a - 0x3FF0) x (omega arith)));
      sync_edges = λ s e x q g. quiet_as s e (Store 0x3FF0 x) q (register_kept _ _ _ 0x3FF0 x (omega arith) (keeps_ld s.device.registers x g));
      page = λ s e x q g. quiet_as s e (Store 0x3FF3 x) q (register_kept _ _ _ 0x3FF3 x (omega arith) (keeps_control s.device.registers x g));
    }
  where
    answered : (s : State) (x : ℕ) → s.device.bus.state ≡ Write
        → (not (eqb (length s.ram) 1024) ≡ false) × (leb 1024 (address s.device.bus) ≡ false)
        × (among (address s.device.bus) (cells_left s.device s.ram) ≡ false)
        → Quiet s (Byte x)
    answered s x w n =
        quiet_as s (Byte x) (Store (address s.device.bus) x) (data_byte s.device.bus x w)
        (unread-cell _ _ _ (address s.device.bus) x (leb-false 1024 (address s.device.bus) n.1) n.2)
