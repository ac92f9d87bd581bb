-- Document 01, "Registers". Register i, 0 to 15, stands at address 3FF0 + i; a larger number is taken modulo 16.
-- Assumes nothing.
use Rattle.std.specs.Prelude.{ℕ, ◌/◌, ◌%◌, eqb, get_or, set}
use mathlib.Core.List.{List, [], ◌∷◌, zip_with}
use Rattle.std.specs.Int.Bits.{bit_and}
use Rattle.registers.specs.declared.Registers.{Registers}
use Rattle.registers.specs.declared.Settings.{Settings}

-- the column "Reset"
abbrev pub reset : List ℕ
reset = 0x3F ∷ 0x08 ∷ 0x12 ∷ 0x00 ∷ 0x22 ∷ 0x33 ∷ 0x28 ∷ 0x0A ∷ 0 ∷ 0 ∷ 0 ∷ 0 ∷ 0 ∷ 0 ∷ 0 ∷ 0 ∷ []

-- the column "Kept bits"
abbrev pub kept : List ℕ
kept = 0xFF ∷ 0xFF ∷ 0x3F ∷ 0xF7 ∷ 0xF7 ∷ 0x77 ∷ 0xFF ∷ 0x0F ∷ 0xFF ∷ 0xFF ∷ 0xFF ∷ 0xFF ∷ 0xFF ∷ 0xFF ∷ 0xFF ∷ 0xFF ∷ []

-- a reset sets the sixteen registers to these values
abbrev pub fresh_registers : Registers
fresh_registers = record { bytes = reset }

-- all sixteen from their bytes, in the order of their addresses, each with its kept bits only
unfoldable pub loaded : List ℕ → Registers
loaded bytes = record { bytes = zip_with bit_and bytes kept }

-- a store keeps the kept bits of the byte; unused bits are 0
abbrev pub stored : Registers → ℕ → ℕ → Registers
stored r i byte = record { bytes = set r.bytes (i % 16) (bit_and byte (get_or kept (i % 16) 0)) }

-- a fetch gives the register as it is kept
abbrev pub fetched : Registers → ℕ → ℕ
fetched r i = get_or r.bytes (i % 16) 0

-- the column "Meaning": VSP, HSP, FR, AS, BS, AF, BF, PP, FM and the PWM registers are stored only
-- 3FF0: VSP, HSP, LD[5:0]; 3FF1: DD; 3FF2: CH; 3FF3: OSD, FBK, FL[1:0], unused, P[8:6]
-- the settings LD, DD, CH, OSD, FBK and FL, all that a line reads of the registers
unfoldable pub settings_of : Registers → Settings
settings_of r =
    record {
      ld = get_or r.bytes 0 0 % 64;
      dd = get_or r.bytes 1 0;
      ch = get_or r.bytes 2 0 % 64;
      osd = eqb (get_or r.bytes 3 0 / 128 % 2) 1;
      fbk = get_or r.bytes 3 0 / 64 % 2;
      fl = get_or r.bytes 3 0 / 16 % 4;
    }

-- the page address P, which a frame start takes
abbrev pub page_of : Registers → ℕ
page_of r = get_or r.bytes 3 0 % 8
