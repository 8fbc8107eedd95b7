-- The instruction table in groups of rows, one behind the other.
use Rattle.std.specs.Prelude.{ℕ, ℤ, List, [], ◌∷◌, Option, None, Some, take, drop, if◌then◌else◌}
use Rattle.amx_ops.specs.Table.{Row, table, is_number}

-- the row of a cell of code among some
abbrev pub among : List Row → ℤ → Option Row
among [] cell = None
among (row ∷ rows) cell = if is_number row.number cell then Some row else among rows cell

-- among so many rows from one on
abbrev pub group : (from count : ℕ) → ℤ → Option Row
group from count cell = among (take count (drop from table)) cell

-- where it isn't among some rows, it may be among others
abbrev pub first : Option Row → Option Row → Option Row
first None others = others
first (Some row) others = Some row

-- from STOR.pri to ALIGN.alt
abbrev pub store_row : ℤ → Option Row
store_row cell = first (group 14 10 cell) (group 24 6 cell)

-- from LOAD.pri to ALIGN.alt
abbrev pub load_row : ℤ → Option Row
load_row cell = first (group 0 14 cell) (store_row cell)

-- from LCTRL to JGEQ
abbrev pub call_row : ℤ → Option Row
call_row cell = first (group 30 15 cell) (group 45 14 cell)

-- from JSLESS to ZERO.alt
abbrev pub sum_row : ℤ → Option Row
sum_row cell = first (group 59 15 cell) (group 74 15 cell)

-- from INC.pri to BREAK, the last one
abbrev pub host_row : ℤ → Option Row
host_row cell = first (group 105 13 cell) (group 118 12 cell)

-- behind sums, behind calls and behind loads
abbrev pub row_past_sums : ℤ → Option Row
row_past_sums cell = first (group 89 16 cell) (host_row cell)

-- from JSLESS on
abbrev pub row_past_calls : ℤ → Option Row
row_past_calls cell = first (sum_row cell) (row_past_sums cell)

-- from LCTRL on
abbrev pub row_past_loads : ℤ → Option Row
row_past_loads cell = first (call_row cell) (row_past_calls cell)

-- among all
abbrev pub row : ℤ → Option Row
row cell = first (load_row cell) (row_past_loads cell)
