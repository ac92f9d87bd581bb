-- The made-up camera picture, 384 × 216 pixels: the street behind the bus at dusk, seen through the rear door. x counts columns from
-- the left and y lines from the top.
-- Assumes nothing.
use Rattle.std.specs.Prelude.{ℕ, ◌+◌, ◌-◌, ◌*◌, ◌/◌, ◌%◌, cond, eqb, ltb}
use Rattle.demo.specs.declared.camera.Colour.{Colour}

-- ---- colours

abbrev pub rgb : ℕ → ℕ → ℕ → Colour
rgb r g b = record { r = r; g = g; b = b }

-- a colour, n lighter
abbrev pub lighter : Colour → ℕ → Colour
lighter c n = rgb (c.r + n) (c.g + n) (c.b + n)

-- how far two columns are apart
abbrev pub apart : ℕ → ℕ → ℕ
apart a b = (a - b) + (b - a)

-- ---- above line 96: sky and houses

-- from blue to orange
abbrev pub sky : ℕ → Colour
sky y = rgb (52 + 2 * y) (60 + y) (120 - y / 4)

-- the first line of a house
abbrev pub roof : ℕ → ℕ
roof house = 60 + 8 * ((house * 5 + 1) % 7 % 4)

abbrev pub wall : ℕ → Colour
wall house = lighter (rgb 44 40 56) ((house * 53) % 23)

-- the panes lie 6 columns and 8 lines apart; one in four is lit
abbrev pub pane : ℕ → ℕ → ℕ → Colour
pane house u v = cond (eqb ((5 * house + 3 * (u / 6) + 7 * (v / 8)) % 4) 0) (rgb 250 206 118) (wall house)

-- column u and line v of a house
unfoldable pub house_at : ℕ → ℕ → ℕ → Colour
house_at house u v = cond (ltb (u % 6) 3) (wall house) (cond (ltb (v % 8) 4) (wall house) (pane house u v))

-- a house has 26 columns
unfoldable pub town : ℕ → ℕ → Colour
town x y = cond (ltb y (roof (x / 26))) (sky y) (house_at (x / 26) (x % 26) (y - roof (x / 26)))

-- ---- below it: the street, at line d from 1, in a column that is e from the middle

-- how far away the line is
abbrev pub far : ℕ → ℕ
far d = 4096 / (d + 8)

abbrev pub asphalt : ℕ → Colour
asphalt d = lighter (rgb 58 60 68) (d / 4)

-- dashes
abbrev pub middle_line : ℕ → Colour
middle_line d = cond (eqb (far d / 24 % 2) 0) (rgb 214 214 206) (asphalt d)

-- slabs
abbrev pub pavement : ℕ → Colour
pavement d = lighter (rgb 92 88 86) (6 * (far d / 8 % 2) + d / 4)

unfoldable pub street : ℕ → ℕ → Colour
street e d =
    cond (ltb e (1 + d / 20)) (middle_line d)
    (cond (ltb e (24 + (d * 3) / 2)) (asphalt d)
    (cond (ltb e (27 + (d * 3) / 2 + d / 8)) (lighter (rgb 168 164 154) (d / 4)) (pavement d)))

-- ---- the car that follows, in a column that is e from its middle

-- half of its width; 0 above and below it
abbrev pub car_half : ℕ → ℕ
car_half y = cond (ltb y 128) 0 (cond (ltb y 138) 17 (cond (ltb y 156) 26 0))

unfoldable pub cabin : ℕ → ℕ → Colour
cabin e y = cond (ltb y 131) (rgb 30 52 96) (cond (ltb e 14) (rgb 124 146 168) (rgb 30 52 96))

-- head lamps in columns 15 to 22 and lines 142 to 146
unfoldable pub front : ℕ → ℕ → Colour
front e y = cond (ltb ((e + 1) % 24) 16) (rgb 36 62 112) (cond (eqb ((y + 3) / 5) 29) (rgb 255 246 204) (rgb 36 62 112))

unfoldable pub car : ℕ → ℕ → Colour
car e y = cond (ltb y 138) (cabin e y) (cond (ltb 151 y) (rgb 30 31 36) (front e y))

unfoldable pub traffic : ℕ → ℕ → Colour
traffic x y = cond (ltb (apart x 248) (car_half y)) (car (apart x 248) y) (street (apart x 192) (y - 95))

-- ---- the door frame

abbrev pub post : ℕ → Colour
post e = cond (eqb e 182) (rgb 96 98 104) (rgb 38 39 44)

-- yellow and black over the step
unfoldable pub sill : ℕ → ℕ → Colour
sill x y =
    cond (ltb 208 y) (rgb 38 39 44) (cond (eqb ((x + y) / 12 % 2) 0) (rgb 230 190 40) (rgb 30 30 30))

-- ---- all of it

unfoldable pub scene : ℕ → ℕ → Colour
scene x y =
    cond (ltb 203 y) (sill x y)
    (cond (ltb 181 (apart x 192)) (post (apart x 192)) (cond (ltb y 96) (town x y) (traffic x y)))

-- beyond its size it repeats
abbrev pub camera : ℕ → ℕ → Colour
camera x y = scene (x % 384) (y % 216)
