-- Records and their names (Implementer's Guide, "File format"): four bytes of an address, and four
-- of the place of a name, which ends before a zero byte.
use Rattle.std.specs.Prelude.{◌≡◌, ◌+◌, ◌-◌, ◌*◌, ◌/◌, ◌<◌, ◌≤◌, ℕ, zero, suc, List, [], ◌∷◌}
use Rattle.std.specs.Prelude.{length, drop, slice_index}
use Rattle.amx_ops.specs.declared.amx.Record.{Record}
use Rattle.amx_ops.specs.Names.{name_from}
use Rattle.amx_format.specs.declared.header.Header.{Header}
use Rattle.amx_format.specs.declared.header.TheConstants.{RECORD}
use Rattle.amx_format.specs.Numbers.{word_at, cell_at}

-- a record, with the name to which it leads
abbrev pub record_at : List ℕ → ℕ → Record
record_at bytes place = record {
  address = cell_at bytes place;
  name = name_from (drop (word_at bytes (place + 4)) bytes);
}

-- so many records from a place on
abbrev pub records_at : List ℕ → ℕ → ℕ → List Record
records_at bytes place zero = []
records_at bytes place (suc n) = record_at bytes place ∷ records_at bytes (place + RECORD) n

-- the table from a place to another
abbrev pub table_at : List ℕ → ℕ → ℕ → List Record
table_at bytes first past = records_at bytes first ((past - first) / RECORD)

-- the records of all tables, which stand one behind the other
abbrev pub record_count : Header → ℕ
record_count h = (h.names - h.publics) / RECORD

-- where the name of one of them stands
abbrev pub name_place : List ℕ → Header → ℕ → ℕ
name_place bytes h index = word_at bytes (h.publics + RECORD * index + 4)

-- the place of each name keeps this
abbrev pub AllNames : (ℕ → Type 0) → List ℕ → Header → Type 0
AllNames P bytes h = (index : ℕ) → index < record_count h → P (name_place bytes h index)

-- in the name table behind its two first bytes, and before the code
pub record IsInside (h : Header) (place : ℕ) : Type 0 where
  pub behind : h.names + 2 ≤ place
  pub before : place < h.cod

-- a zero byte stands there or behind it
pub record IsClosed (text : List ℕ) (place : ℕ) : Type 0 where
  pub end : ℕ
  pub behind : place ≤ end
  pub within : end < length text
  pub zero : slice_index text end ≡ 0
