-- Document 01, "Bench program": its example, the input and the whole output as printed there.
-- Assumes nothing.
use Rattle.std.specs.Prelude.{ℕ, ◌≡◌, List, [], ◌∷◌, ◌++◌, replicate}
use Prim.Native.String.{String}
use Rattle.buffers.specs.Buffers.{bytes_of}
use Rattle.report.specs.Report.{bench_text}

-- cells 0 to 7 = 04 C0 00 00 71 41 00 FF, others 0; registers 04 04 12 80, others 0; font bytes 2340, 2341 = 0F 08, others 0; one line
unfoldable pub example_input : List ℕ
example_input =
    (0x04 ∷ 0xC0 ∷ 0x00 ∷ 0x00 ∷ 0x71 ∷ 0x41 ∷ 0x00 ∷ 0xFF ∷ replicate 1016 0)
    ++ ((0x04 ∷ 0x04 ∷ 0x12 ∷ 0x80 ∷ replicate 12 0)
    ++ ((replicate 2340 0 ++ 0x0F ∷ 0x08 ∷ replicate 2266 0)
    ++ (1 ∷ 0 ∷ [])))

unfoldable pub example_output : String
example_output = "lines 1 width 60\n000000000000000000000000000000000000F9999999FFFF000000000000 6\n"

-- the claim
abbrev pub BenchExample : Type 0
BenchExample = bench_text example_input ≡ bytes_of example_output
