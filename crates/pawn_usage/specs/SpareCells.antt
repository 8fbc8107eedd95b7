-- The cells that a machine's room has above the need of the calls that are alive.
use Rattle.std.specs.Prelude.{ℕ}

-- so many: a function's frame leaves them free
abbrev pub spare_cells : ℕ
spare_cells = 16
