-- Document 01, "Walk of a frame": descriptors and strips, line by line, as request K9 mends it: spacing of zero lines is passed over.
-- Assumes nothing.
use Rattle.std.specs.Prelude.{ℕ, zero, suc, ◌+◌, ◌-◌, ◌*◌, ◌/◌, ◌%◌, max, Bool, true, false, cond, ◌&&◌, eqb, length, get_or, List, Option, Some, None}
use Rattle.limits.specs.Limits.{ram_pairs}
use Rattle.cells.specs.Reading.{Role, descriptor, Reading, done, read, fmap, value, cells}
use Rattle.raster.specs.Raster.{before_first, following, InStrip, is_last, lines_after}
use Rattle.walk.specs.declared.Strip.{Strip}
use Rattle.walk.specs.declared.Strip.TheVariants.{Spacing, Characters}
use Rattle.walk.specs.declared.Walk.{Walk}
use Rattle.walk.specs.declared.Walked.{Walked}

-- ---- addresses

-- two bytes at an even address; addresses wrap at 1,024 (H)
abbrev pub even : ℕ → ℕ
even a = a / 2 % ram_pairs * 2

-- the address goes up by 2 and wraps at 1,024 (H)
abbrev pub next : ℕ → ℕ
next a = even (a + 2)

-- a descriptor, or a code: its low byte, then its high byte
abbrev pub read_pair : {A : Type 0} → Role → ℕ → (ℕ → ℕ → Reading A) → Reading A
read_pair r a k = read r (even a) λ low. read r (even a + 1) λ high. k low high

-- a page begins at P times 64
abbrev pub page_address : ℕ → ℕ
page_address p = p * 64

-- ---- the walk

-- the walk in a strip, with the next descriptor at an address
abbrev pub walk_at : ℕ → Strip → Walk
walk_at a t = record { descriptor = a; strip = t; plain = false }

-- the walk where 512 descriptors in a row were passed over (K9): no strip is on screen, and that line and the rest of the frame are plain
abbrev pub plain_rest : ℕ → Walk
plain_rest a = record { descriptor = a; strip = Spacing 0; plain = true }

-- a frame start sets the descriptor address to P times 64; the first line reads the first descriptor
unfoldable pub walk_from : ℕ → Walk
walk_from p = walk_at (page_address p) (Spacing 0)

-- ---- descriptors: two bytes, low byte first

-- high bit 7 clear: spacing. High bit 7 set: characters
abbrev pub is_spacing : ℕ → Bool
is_spacing high = eqb (high / 128 % 2) 0

-- bit 6 is DE
abbrev pub enabled_by : ℕ → Bool
enabled_by high = eqb (high / 64 % 2) 1

-- bit 5 ZY
abbrev pub zoomed_by : ℕ → Bool
zoomed_by high = eqb (high / 32 % 2) 1

-- bits 1 and 0 with the low byte give the code address, its lowest bit taken as 0 (H)
abbrev pub codes_at : ℕ → ℕ → ℕ
codes_at low high = even (high % 4 * 256 + low)

-- the low byte of spacing is SL, the number of lines. A spacing descriptor with SL 0 is passed over (K9)
abbrev pub passed_over : ℕ → ℕ → Bool
passed_over low high = is_spacing high && eqb low 0

-- the height of characters is CH; 0 is taken as 1 (H)
abbrev pub height_of : ℕ → ℕ
height_of ch = max 1 ch

-- codes are read on its lines: characters, with DE
abbrev pub shows_codes : ℕ → Bool
shows_codes high = cond (is_spacing high) false (enabled_by high)

-- its strip, before the first line. CH is the one given
unfoldable pub strip_of : ℕ → ℕ → ℕ → Strip
strip_of ch low high =
    cond (is_spacing high)
    (Spacing low)
    (Characters (codes_at low high) (height_of ch) (zoomed_by high) (enabled_by high) before_first)

-- ---- the strip on screen

-- a strip that has no line left
unfoldable pub over : Strip → Bool
over (Spacing left) = eqb left 0
over (Characters address height zoom enabled line) = is_last line height zoom

-- how many lines it has left
unfoldable pub lines_left : Strip → ℕ
lines_left (Spacing left) = left
lines_left (Characters address height zoom enabled line) = lines_after line height zoom

-- the descriptors from an address on, read at one line: those that are passed over, and the next at once, which begins its strip. CH is taken
-- there. n is how many are read in a row at the most; where all n are passed over, that line and the rest of the frame are plain (K9)
unfoldable pub next_strip : (n ch a : ℕ) → Reading Walk
next_strip zero ch a = done (plain_rest a)
next_strip (suc n) ch a =
    read_pair descriptor a λ low high. cond (passed_over low high) (next_strip n ch (next a)) (done (walk_at (next a) (strip_of ch low high)))

-- the rest of the frame is plain: where a strip has a line left, `plain` does not count
abbrev pub in_plain_rest : Walk → Bool
in_plain_rest w = w.plain && over w.strip

-- a descriptor is read at the first line of its strip: where the strip on screen is over, 512 in a row at the most, and none where the rest of the
-- frame is plain
unfoldable pub begun : ℕ → Walk → Reading Walk
begun ch w =
    cond (over w.strip)
    (cond w.plain (done (plain_rest w.descriptor)) (next_strip ram_pairs ch w.descriptor))
    (done (walk_at w.descriptor w.strip))

-- the strip at its next line
unfoldable pub advanced : Strip → Strip
advanced (Spacing left) = Spacing (left - 1)
advanced (Characters address height zoom enabled line) = Characters address height zoom enabled (following line)

-- the walk with its strip at the next line
abbrev pub onward : Walk → Walk
onward w = record { descriptor = w.descriptor; strip = advanced w.strip; plain = w.plain }

-- the walk at the frame's next line: the strip on screen, and its line
unfoldable pub next_line : ℕ → Walk → Reading Walk
next_line ch w = fmap onward (begun ch w)

-- the strip on screen is at one of its lines
unfoldable pub OnLine : Strip → Type 0
OnLine (Spacing left) = Unit
OnLine (Characters address height zoom enabled line) = InStrip line height zoom

-- what the walk's next line gives and how many cells it reads
unfoldable pub walked : List ℕ → ℕ → Walk → Walked
walked ram ch w = record { walk = value ram (next_line ch w); cells = length (cells ram (next_line ch w)) }

-- where the first descriptor lies that begins a strip, of n in a row from an even address on; nowhere where all are passed over
unfoldable pub begins_at : (n : ℕ) → List ℕ → ℕ → Option ℕ
begins_at zero ram a = None
begins_at (suc n) ram a = cond (passed_over (get_or ram a 0) (get_or ram (a + 1) 0)) (begins_at n ram (next a)) (Some a)
