-- Publics sorted by the bytes of their names, those of one name in the order that they had.
use Rattle.std.specs.Prelude.{◌≡◌, List, map}
use Rattle.std.specs.List.Sorted.{IsPermutation, IsSorted, IsSortedByKey, IsStableByKey}
use Rattle.std.specs.Ordering.{nat_cmp}
use Rattle.std.specs.Cmp.Lexicographic.{slice_cmp}
use Rattle.amx_ops.specs.declared.amx.Amx.{Amx}
use Rattle.amx_ops.specs.declared.amx.Record.{Record}
use Rattle.amx_ops.specs.Writable.{IsWritable}

-- the same records in the order of their names
pub record Sorts (records sorted : List Record) : Type 0 where
  pub same : IsPermutation records sorted
  pub rises : IsSortedByKey (λ (it : Record). it.name) (slice_cmp nat_cmp) sorted
  pub stable : IsStableByKey (λ (it : Record). it.name) (slice_cmp nat_cmp) records sorted

-- the same file with others in the table
abbrev pub with_publics : Amx → List Record → Amx
with_publics amx publics = record amx { publics = publics }

-- it can be written once its publics are sorted
abbrev pub IsWritableSorted : Amx → Type 0
IsWritableSorted amx =
    (publics : List Record) → Sorts amx.publics publics → IsWritable (with_publics amx publics)

-- records in the order of their names come out as they are, so a file that can be written is one
-- whose publics are in that order
pub record SortedTablesStay : Type 0 where
  pub records : (records sorted : List Record)
      → IsSorted (slice_cmp nat_cmp) (map (λ it. it.name) records) → Sorts records sorted
      → sorted ≡ records
  pub writable : (amx : Amx) → IsWritable amx → IsWritableSorted amx
