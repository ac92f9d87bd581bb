-- Lengths and limits of document 01, and of document 02's requests, each named once.
-- Assumes nothing.
use Rattle.std.specs.Prelude.{ℕ, ◌*◌, Bool, ◌||◌, eqb, ltb}

-- the lent RAM has 1,024 bytes, which are cells 0 to 1,023
abbrev pub ram_length : ℕ
ram_length = 1024

-- the lent font has 4,608 bytes: 128 characters of 36
abbrev pub font_length : ℕ
font_length = 4608

-- a font file has 5,120 bytes: ten blocks of 512 (document 02, K8)
abbrev pub font_file_length : ℕ
font_file_length = 5120

-- descriptors and codes are pairs of bytes: RAM has 512
abbrev pub ram_pairs : ℕ
ram_pairs = 512

-- there are 26 user characters, of 38 cells each
abbrev pub user_characters : ℕ
user_characters = 26

abbrev pub user_length : ℕ
user_length = 38

abbrev pub user_cells : ℕ
user_cells = user_characters * user_length

-- a frame has 1 to 2,048 lines
abbrev pub frame_lines : ℕ
frame_lines = 2048

-- a count of lines that no frame has: 0, or above 2,048
abbrev pub bad_line_count : ℕ → Bool
bad_line_count lines = eqb lines 0 || ltb frame_lines lines

-- a line reads at most 1,268 cells (document 02, K9)
abbrev pub line_cells : ℕ
line_cells = 1268

-- addresses on the bus are 0000 to 3FFF
abbrev pub address_space : ℕ
address_space = 0x4000

-- the registers have the last of them, from 3FF0 on
abbrev pub first_register : ℕ
first_register = 0x3FF0

-- the widest line, of LD 63, has 768 pixels
abbrev pub line_max : ℕ
line_max = 768
