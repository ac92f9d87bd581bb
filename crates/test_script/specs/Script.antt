-- What the contracts of the test programs' library cite: steps of a script, calls, numbers that look random, digests and digits.
-- Assumes nothing.
use Rattle.std.specs.Prelude.{ℕ, zero, suc, ◌+◌, ◌-◌, ◌*◌, ◌/◌, ◌%◌, cond, List, [], ◌∷◌, ◌++◌, eqb, ltb, length, get_or, Result}
use Rattle.buffers.specs.Buffers.{hex_digit}
use Rattle.refusals.specs.declared.Refusal.{Refusal}
use Rattle.refusals.specs.Refusals.{accepted, refused, reply_of}
use Rattle.device.specs.declared.Device.{Device}
use Rattle.device.specs.Device.{fresh_device, EventOutcome, hear_event, start_frame, ask_cell}
use Rattle.test_script.specs.declared.Call.{Call}
use Rattle.test_script.specs.declared.Call.TheVariants.{Hear, Start, Ask, Reset}
use Rattle.test_script.specs.declared.Numbers.{Numbers}
use Rattle.test_script.specs.declared.Step.{Step}

-- step i of a script of four bytes a step; kind 255 where there is none
abbrev pub step_at : List ℕ → ℕ → Step
step_at script i =
    cond (ltb i (length script / 4))
    (record {
      kind = get_or script (4 * i) 0;
      a = get_or script (4 * i + 1) 0;
      b = get_or script (4 * i + 2) 0;
      c = get_or script (4 * i + 3) 0;
    })
    (record { kind = 255; a = 0; b = 0; c = 0 })

-- what a call left and answered, in the form of the device's definitions
abbrev pub outcome_of : Device → List ℕ → Result ℕ Refusal → EventOutcome
outcome_of d ram answer = record { device = d; ram = ram; reply = reply_of (λ n. n) refused answer }

-- each call by the device's definition; the bus alone changes the RAM
unfoldable pub made : Device → List ℕ → Call → EventOutcome
made d ram (Hear e) = hear_event d ram e
made d ram (Start lines) = record { device = (start_frame d lines).device; ram = ram; reply = (start_frame d lines).reply }
made d ram (Ask cell) = record { device = d; ram = ram; reply = ask_cell d ram cell }
made d ram Reset = record { device = fresh_device; ram = ram; reply = accepted 0 }

-- how much of a buffer is lent, by a choice: all, nothing, one byte less, and else one byte more
abbrev pub length_of : ℕ → ℕ → ℕ
length_of own choice = cond (eqb choice 0) own (cond (eqb choice 1) 0 (cond (eqb choice 2) (own - 1) (own + 1)))

-- the next number: times factor, plus a value and more, modulo last + 1
unfoldable pub next_of : ℕ → ℕ → Numbers → ℕ
next_of x value by = (x % (by.last + 1) * by.factor + (value + by.more)) % (by.last + 1)

-- n bytes of noise, one of each number after the seed: the byte at a unit, which is 1, 256, 65,536 or 16,777,216
unfoldable pub noise_of : ℕ → ℕ → Numbers → ℕ → List ℕ
noise_of zero seed by unit = []
noise_of (suc n) seed by unit = next_of seed 0 by / unit % 256 ∷ noise_of n (next_of seed 0 by) by unit

-- a digest that takes in the bytes one after the other
unfoldable pub mixed : ℕ → List ℕ → Numbers → ℕ
mixed sum [] by = sum
mixed sum (x ∷ xs) by = mixed (next_of sum x by) xs by

-- the last k hexadecimal digits of a number
unfoldable pub digits_of : ℕ → ℕ → List ℕ
digits_of zero n = []
digits_of (suc k) n = digits_of k (n / 16) ++ (hex_digit (n % 16) ∷ [])
