-- A list in order stays as it is where it is sorted, stably.
use Rattle.std.proofs.Common.{◌≡◌, ◌+◌, ℕ, Bool, List, map, sym, subst, arith}
use Rattle.std.specs.List.Sorted.{IsSorted, IsSortedBy}
use Rattle.std.specs.Cmp.{IsStrictWeakOrder}
use Rattle.std.specs.Cmp.Lexicographic.{slice_cmp}
use Rattle.std.specs.Ordering.{is_lt, nat_cmp}
use Rattle.std.proofs.Math.ListN.{get_or-map}
use Rattle.std.proofs.lemmas.Cmp.{nat_list_cmp_total}
use Rattle.std.proofs.lemmas.List.{length-map}
use Rattle.std.proofs.lemmas.List.Sorted.{ranks_by, sorted_far}
use Rattle.pawn_base.proofs.StableSort.{Rises, rises_from, one_order}
use Rattle.amx_ops.specs.declared.amx.Amx.{Amx}
use Rattle.amx_ops.specs.declared.amx.Record.{Record}
use Rattle.amx_ops.specs.Writable.{IsWritable}
use Rattle.amx_format.specs.File.{IsFile}
use Rattle.amx_format.specs.Layout.{IsLayout}
use Rattle.amx_format.specs.Sorts.{Sorts, IsWritableSorted, SortedTablesStay, with_publics}
use Rattle.amx_format.specs.Written.{SortedIsWrittenAsItIs}

-- ---- records by their names

abbrev name_of : Record → List ℕ
name_of it = it.name

abbrev before : Record → Record → Bool
before a b = is_lt (slice_cmp nat_cmp a.name b.name)

in_order : IsStrictWeakOrder before
in_order = ranks_by nat_list_cmp_total name_of

by_name : (records : List Record) → IsSorted (slice_cmp nat_cmp) (map name_of records)
    → IsSortedBy before records
by_name records h k d low high =
    let e = h k d.name low (omega (arith, high, length-map records name_of)) in
    rw (get_or-map name_of records (k + 1) d, get_or-map name_of records k d) at e

rises : (records : List Record) → IsSortedBy before records → Rises before in_order records
rises records h = rises_from before in_order records (sorted_far before in_order records h)

pub sorted_stay : (records sorted : List Record)
    → IsSorted (slice_cmp nat_cmp) (map name_of records) → Sorts records sorted → sorted ≡ records
sorted_stay records sorted h it =
    one_order before in_order records sorted (rises records (by_name records h))
    (rises sorted it.rises) it.stable

-- ---- an Amx whose publics are in order

pub writable_sorted : (amx : Amx) → IsWritable amx → IsWritableSorted amx
writable_sorted amx w publics sorts =
    subst (λ (list : List Record). IsWritable (with_publics amx list))
    (sym (sorted_stay amx.publics publics w.sorted sorts)) w

pub written_sorted : SortedIsWrittenAsItIs
written_sorted encoding amx bytes w it =
    let same : it.publics ≡ amx.publics = sorted_stay amx.publics it.publics w.sorted it.sorts in (
      subst (λ (list : List Record). IsLayout encoding (with_publics amx list) bytes) same
          it.layout,
      subst (λ (list : List Record). IsFile bytes (with_publics amx list)) same it.file,
    )

pub sorted_tables_stay : SortedTablesStay
sorted_tables_stay = record { records = sorted_stay; writable = writable_sorted }
