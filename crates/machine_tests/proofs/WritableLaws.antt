-- Small tables can be written once the publics are sorted.
use Rattle.std.proofs.Common.{◌≡◌, ◌≢◌, ◌+◌, ◌*◌, ◌/◌, ◌%◌, ◌≤◌, ℕ, pos, List, [], ◌∷◌, All, length}
use Rattle.std.proofs.Common.{map, refl, sym, subst, arith}
use Rattle.std.specs.List.Sorted.{IsPermutation, IsSorted}
use Rattle.std.specs.Cmp.Lexicographic.{slice_cmp}
use Rattle.std.specs.Ordering.{nat_cmp}
use Rattle.std.proofs.Math.ListN.{get_or-map}
use Rattle.std.proofs.lemmas.List.{length-map}
use Rattle.std.proofs.lemmas.List.Sums.{sum_by-cons}
use Rattle.std.proofs.lemmas.List.Elements.{All-nil, All-cons}
use Rattle.std.proofs.lemmas.List.Sorted.{All-permutation, length_permutation, sum_by-IsPermutation}
use Rattle.amx_ops.specs.declared.amx.Amx.{Amx}
use Rattle.amx_ops.specs.declared.amx.Record.{Record}
use Rattle.amx_ops.specs.Writable.{IsWritable, IsWritableName, code_place, names_size}
use Rattle.amx_format.specs.Sorts.{Sorts, IsWritableSorted, with_publics}

abbrev name_of : Record → List ℕ
name_of it = it.name

-- so many records, whose names have one byte at most
pub record IsSmall (count : ℕ) (table : List Record) : Type 0 where
  pub names : All IsWritableName table
  pub length_is : length table ≡ count
  pub size : names_size table ≤ 2 * count

-- the name is one byte that isn't 0, or none
pub record IsShort (it : Record) : Type 0 where
  pub letters : List ℕ
  pub name : it.name ≡ letters
  pub some : All (λ byte. byte ≢ 0) letters
  pub short : length letters ≤ 1

writable_name : (it : Record) → IsShort it → IsWritableName it
writable_name it s = record { no_zero = subst (All (λ byte. byte ≢ 0)) (sym s.name) s.some }

size_of : (it : Record) → IsShort it → length it.name ≤ 1
size_of it s = subst (λ (letters : List ℕ). length letters ≤ 1) (sym s.name) s.short

small_none : IsSmall 0 []
small_none = record { names = All-nil IsWritableName; length_is = refl; size = omega arith }

small_more : (count : ℕ) (it : Record) (table : List Record) → IsShort it → IsSmall count table
    → IsSmall (count + 1) (it ∷ table)
small_more count it table s small = record {
  names = All-cons IsWritableName it table (writable_name it s) small.names;
  length_is = omega (arith, small.length_is);
  size =
      omega (
        arith,
        small.size,
        size_of it s,
        sum_by-cons (λ (r : Record). length r.name + 1) it table,
      );
}

pub letter : (it : Record) (byte : ℕ) → it.name ≡ byte ∷ [] → byte ≢ 0 → IsShort it
letter it byte name some = record {
  letters = byte ∷ [];
  name = name;
  some = All-cons (λ byte. byte ≢ 0) byte [] some (All-nil (λ byte. byte ≢ 0));
  short = omega arith;
}

pub no_letter : (it : Record) → it.name ≡ [] → IsShort it
no_letter it name =
    record { letters = []; name = name; some = All-nil (λ byte. byte ≢ 0); short = omega arith }

pub one : (table : List Record) (it : Record) → table ≡ it ∷ [] → IsShort it → IsSmall 1 table
one table it only s = subst (IsSmall 1) (sym only) (small_more 0 it [] s small_none)

pub three : (table : List Record) (a b c : Record) → table ≡ a ∷ b ∷ c ∷ [] → IsShort a → IsShort b
    → IsShort c → IsSmall 3 table
three table a b c only s t u =
    subst (IsSmall 3) (sym only) (small_more 2 a (b ∷ c ∷ []) s
    (small_more 1 b (c ∷ []) t (small_more 0 c [] u small_none)))

-- the same by their names alone
in_order : (records publics : List Record) → Sorts records publics
    → IsSorted (slice_cmp nat_cmp) (map name_of publics)
in_order records publics it k d low high =
    let none : Record = record { address = pos 0; name = d } in
    let e = it.rises k none low (omega (arith, high, length-map publics name_of)) in
    rw (get_or-map name_of publics (k + 1) none, get_or-map name_of publics k none) e

module _ (amx : Amx) (publics : IsSmall 3 amx.publics) (natives : IsSmall 1 amx.natives)
    (libraries : IsSmall 1 amx.libraries)
    (variables : IsSmall 1 amx.variables) (tags : IsSmall 1 amx.tags) where
  -- at most 3 bytes behind the header, seven records and their names
  code_begins : (list : List Record) → IsPermutation amx.publics list
      → code_place (with_publics amx list) ≤ 131
  code_begins list same =
      let n : length list ≡ length amx.publics = length_permutation amx.publics list same in
      let s : names_size list ≡ names_size amx.publics =
      sum_by-IsPermutation (λ (r : Record). length r.name + 1) amx.publics list same in
      let n_publics = publics.length_is in let s_publics = publics.size in
      let n_natives = natives.length_is in let s_natives = natives.size in
      let n_libraries = libraries.length_is in let s_libraries = libraries.size in
      let n_variables = variables.length_is in let s_variables = variables.size in
      let n_tags = tags.length_is in let s_tags = tags.size in
      omega (
        arith,
        n,
        s,
        n_publics,
        n_natives,
        n_libraries,
        n_variables,
        n_tags,
        s_publics,
        s_natives,
        s_libraries,
        s_variables,
        s_tags,
      )

  pub writable : amx.flags / 2 % 4 ≡ 0 → (1 ≤ amx.version) × (amx.version ≤ 8) → length amx.code ≡ 7
      → length amx.store ≡ 9 → amx.room ≡ 4
      → IsWritableSorted amx
  writable flags version code store room list sorts =
      let place = code_begins list sorts.same in
      record {
        sorted = in_order amx.publics list sorts;
        publics = All-permutation IsWritableName amx.publics list sorts.same publics.names;
        natives = natives.names;
        libraries = libraries.names;
        variables = variables.names;
        tags = tags.names;
        version = version;
        flags = flags;
        size = omega (arith, place, code, store);
        top = omega (arith, place, code, store, room);
        memory = omega (arith, code, store, room);
      }
