-- An assembled file can be written, as it is or once its publics are sorted.
use Rattle.std.proofs.Common.{◌≡◌, ◌+◌, ◌*◌, ◌<◌, ◌^◌, ◌&&◌, ℕ, pos, Bool, List, All, length, []}
use Rattle.std.proofs.Common.{◌∷◌}
use Rattle.std.proofs.Common.{map, nat_le, nat_lt, sym, subst, arith, leb-true, ltb-true, Result}
use Rattle.std.proofs.Common.{Ok, Err}
use Rattle.std.proofs.Common.{IfOk}
use Rattle.std.specs.List.Sorted.{IsSorted, IsSortedBy}
use Rattle.std.specs.Cmp.Lexicographic.{slice_cmp}
use Rattle.std.specs.Ordering.{is_lt, nat_cmp}
use Rattle.std.proofs.Math.ListN.{get_or-map}
use Rattle.std.proofs.lemmas.Bool.{and_parts}
use Rattle.std.proofs.lemmas.List.{length-map}
use Rattle.std.proofs.lemmas.List.Elements.{All-nil, All-cons, All-head, All-tail}
use Rattle.std.proofs.lemmas.List.Sorted.{length_permutation, sum_by-IsPermutation, All-permutation}
use Rattle.amx_ops.specs.declared.amx.Amx.{Amx}
use Rattle.amx_ops.specs.declared.amx.Record.{Record}
use Rattle.amx_ops.specs.Writable.{IsWritable, IsWritableName, names_size, code_place, memory_limit}
use Rattle.amx_format.specs.Sorts.{IsWritableSorted, Sorts, with_publics}
use Rattle.amx_text.specs.Forms.{RecordFits}
use Rattle.amx_text.specs.Assembles.{IsAssembled, Assembles}
use Rattle.amx_text.specs.declared.fault.AsmFault.{AsmFault}
use Rattle.amx_text.proofs.OrderLaws.{all_front, all_behind}

abbrev name_of : Record → List ℕ
name_of it = it.name

abbrev before : Record → Record → Bool
before a b = is_lt (slice_cmp nat_cmp a.name b.name)

names_sorted : (records : List Record) → IsSortedBy before records
    → IsSorted (slice_cmp nat_cmp) (map name_of records)
names_sorted records h k d low high =
    let one : Record = record { address = pos 0; name = d } in
    let e = h k one low (omega (arith, high, length-map records name_of)) in
    rw (get_or-map name_of records (k + 1) one, get_or-map name_of records k one) e

names_fit : (records : List Record) → All RecordFits records → All IsWritableName records
names_fit records h = by records h where
  by : (list : List Record) → All RecordFits list → All IsWritableName list
  by [] h = All-nil IsWritableName
  by (it ∷ list) h =
      All-cons IsWritableName it list (All-head RecordFits it list h).name
      (by list (All-tail RecordFits it list h))

module _ (text : List ℕ) (amx : Amx) (h : IsAssembled text amx) (publics : List Record)
    (s : Sorts amx.publics publics) where
  same_place : code_place (with_publics amx publics) ≡ code_place amx
  same_place =
      let count : length publics ≡ length amx.publics =
      length_permutation amx.publics publics s.same in
      let names : names_size publics ≡ names_size amx.publics =
      sum_by-IsPermutation (λ (it : Record). length it.name + 1) amx.publics publics s.same in
      omega (arith, count, names)

  written : IsWritable (with_publics amx publics)
  written =
      let cells = length amx.code + length amx.store in
      let a = nat_le (4 * (cells + amx.room)) memory_limit in
      let b = nat_lt (code_place amx + 5 * cells) (2 ^ 31) in
      let c = nat_lt (code_place amx + 4 * (cells + amx.room)) (2 ^ 31) in
      let last = and_parts (a && b) c h.within in
      let first = and_parts a b last.0 in
      let fields = h.listed.fields in
      let natives = all_behind RecordFits amx.publics _ fields.records in
      let libraries = all_behind RecordFits amx.natives _ natives in
      let variables = all_behind RecordFits amx.libraries _ libraries in
      record {
        sorted = names_sorted publics s.rises;
        publics =
            All-permutation IsWritableName amx.publics publics s.same
            (names_fit amx.publics (all_front RecordFits amx.publics _ fields.records));
        natives = names_fit amx.natives (all_front RecordFits amx.natives _ natives);
        libraries = names_fit amx.libraries (all_front RecordFits amx.libraries _ libraries);
        variables = names_fit amx.variables (all_front RecordFits amx.variables _ variables);
        tags = names_fit amx.tags (all_behind RecordFits amx.variables _ variables);
        version = fields.header.version;
        flags = fields.header.flags.1;
        size =
            subst (λ n. n + 5 * cells < 2 ^ 31) (sym same_place)
            (ltb-true (code_place amx + 5 * cells) (2 ^ 31) first.1);
        top =
            subst (λ n. n + 4 * (cells + amx.room) < 2 ^ 31) (sym same_place)
            (ltb-true (code_place amx + 4 * (cells + amx.room)) (2 ^ 31) last.1);
        memory = leb-true (4 * (cells + amx.room)) memory_limit first.0;
      }

pub writable : (text : List ℕ) (amx : Amx) → IsAssembled text amx → IsWritableSorted amx
writable text amx h publics s = written text amx h publics s

-- of an answer, where it is a file
pub all_writable : (text : List ℕ) (answer : Result Amx AsmFault) → Assembles text answer
    → IfOk answer IsWritableSorted
all_writable text (Ok amx) h = writable text amx h
all_writable text (Err fault) h = tt
