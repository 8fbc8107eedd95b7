-- Files that can be written (Implementer's Guide, "File format"): the header's 56 bytes, the
-- tables, the name table, zero bytes to a multiple of 4, then the code and the data.
use Rattle.std.specs.Prelude.{◌≡◌, ◌≢◌, ◌+◌, ◌*◌, ◌/◌, ◌%◌, ◌^◌, ◌<◌, ◌≤◌, ℕ, List, All, length}
use Rattle.std.specs.Prelude.{sum_by, map, IsSorted}
use Rattle.std.specs.Ordering.{nat_cmp}
use Rattle.std.specs.Cmp.Lexicographic.{slice_cmp}
use Rattle.amx_ops.specs.declared.amx.Amx.{Amx}
use Rattle.amx_ops.specs.declared.amx.Record.{Record}

-- a record takes 8 bytes of its table
abbrev pub table_size : List Record → ℕ
table_size records = 8 * length records

-- a name takes its bytes and a zero
abbrev pub names_size : List Record → ℕ
names_size records = sum_by (λ (it : Record). length it.name + 1) records

-- the sizes of the five tables together
abbrev pub over_tables : (List Record → ℕ) → Amx → ℕ
over_tables size amx =
    size amx.publics + size amx.natives + size amx.libraries + size amx.variables + size amx.tags

-- where the name table begins
abbrev pub name_place : Amx → ℕ
name_place amx = 56 + over_tables table_size amx

-- and where it ends
abbrev pub names_end : Amx → ℕ
names_end amx = name_place amx + 2 + over_tables names_size amx

-- the first multiple of 4 from there on
abbrev pub code_place : Amx → ℕ
code_place amx = (names_end amx + 3) / 4 * 4

-- the cells of code and data
abbrev pub stored_cells : Amx → ℕ
stored_cells amx = length amx.code + length amx.store

-- code, data, heap and stack in cells
abbrev pub cells_limit : ℕ
cells_limit = 33554432

-- and in bytes
abbrev pub memory_limit : ℕ
memory_limit = 4 * cells_limit

-- a name without a zero
pub record IsWritableName (it : Record) : Type 0 where
  pub no_zero : All (λ byte. byte ≢ 0) it.name

-- all that is asked of a file
pub record IsWritable (amx : Amx) : Type 0 where
  pub sorted : IsSorted (slice_cmp nat_cmp) (map (λ it. it.name) amx.publics)
  pub publics : All IsWritableName amx.publics
  pub natives : All IsWritableName amx.natives
  pub libraries : All IsWritableName amx.libraries
  pub variables : All IsWritableName amx.variables
  pub tags : All IsWritableName amx.tags
  pub version : (1 ≤ amx.version) × (amx.version ≤ 8)
  -- neither of the bits 0x02 and 0x04
  pub flags : amx.flags / 2 % 4 ≡ 0
  -- each cell takes at most five bytes
  pub size : code_place amx + 5 * stored_cells amx < 2 ^ 31
  pub top : code_place amx + 4 * (stored_cells amx + amx.room) < 2 ^ 31
  pub memory : 4 * (stored_cells amx + amx.room) ≤ memory_limit
