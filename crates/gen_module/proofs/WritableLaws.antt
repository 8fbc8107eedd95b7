-- The file of a valid program within the limits, with names as those of a source, can be written.
use Rattle.std.proofs.Common.{◌≡◌, ◌+◌, ◌*◌, ◌^◌, ◌<◌, ◌≤◌, ◌≤ℤ◌, ℕ, suc, ℤ, pos, negsuc, List, []}
use Rattle.std.proofs.Common.{◌∷◌, ◌++◌, length, map, refl, sym, ap, subst, arith, length-append}
use Rattle.std.specs.Prelude.{All, sum_by, IsSorted}
use Rattle.std.specs.Ordering.{nat_cmp}
use Rattle.std.specs.Cmp.Lexicographic.{slice_cmp}
use Rattle.std.proofs.lemmas.Int.{ints}
use Rattle.std.proofs.lemmas.List.{get_or_append_left, get_or-append-add, length-map}
use Rattle.std.proofs.lemmas.List.Elements.{All-nil, All-cons}
use Rattle.std.proofs.lemmas.List.Sums.{sum_by-append, sum_by-cons}
use Rattle.pawn_cells.specs.Cells.{cell_of}
use Rattle.pawn_meaning.specs.ProgramNames.{IsName, names_of, HasNames}
use Rattle.pawn_meaning.specs.Program.{Public, Tag, Program}
use Rattle.pawn_meaning.specs.Valid.{IsValid}
use Rattle.pawn_meaning.specs.Limits.{IsWithinLimits}
use Rattle.pawn_meaning.specs.Weight.{counted}
use Rattle.pawn_meaning.specs.World.{first_memory}
use Rattle.amx_ops.specs.declared.amx.Amx.{Amx}
use Rattle.amx_ops.specs.declared.amx.Record.{Record}
use Rattle.amx_ops.specs.Writable.{table_size, names_size, over_tables, code_place, stored_cells}
use Rattle.amx_ops.specs.Writable.{memory_limit, IsWritableName, IsWritable}
use Rattle.gen_agrees.specs.Shape.{native_record}
use Rattle.gen_sim.specs.Pieces.{data_pieces}
use Rattle.gen_sim.proofs.PieceLaws.{length_image}
use Rattle.gen_laws.specs.FileCode.{entry_of, program_items}
use Rattle.gen_laws.specs.FileOf.{file_of}
use Rattle.gen_laws.proofs.DataCells.{data_small}
use Rattle.gen_laws.proofs.FileWeights.{program_light}
use Rattle.gen_laws.proofs.FirstLaws.{first_there}
use Rattle.gen_laws.proofs.LayoutLaws.{same_count}

-- ---- names of a row of names

all_left : {X : Type 0} (P : X → Type 0) (xs ys : List X) → All P (xs ++ ys) → All P xs
all_left P xs ys all k d h =
    subst P (get_or_append_left xs ys d k h) (all k d (omega (arith, h, length-append xs ys)))

all_right : {X : Type 0} (P : X → Type 0) (xs ys : List X) → All P (xs ++ ys) → All P ys
all_right P xs ys all k d h =
    subst P (get_or-append-add xs ys k d)
    (all (length xs + k) d (omega (arith, h, length-append xs ys)))

-- records with such names
records_fit : {A : Type 0} (name : A → List ℕ) (address : A → ℤ) (xs : List A)
    → All IsName (map name xs)
    → All IsWritableName (map (λ x. record { address = address x; name = name x }) xs)
records_fit name address [] h = All-nil IsWritableName
records_fit name address (x ∷ xs) h =
    let here : IsName (name x) = h 0 (name x) (omega arith) in
    All-cons IsWritableName (record { address = address x; name = name x })
    (map (λ y. record { address = address y; name = name y }) xs)
    (record { no_zero = here.no_zero })
    (records_fit name address xs (λ i d k. h (suc i) d (omega (arith, k))))

natives_fit : (names : List (List ℕ)) → All IsName names
    → All IsWritableName (map native_record names)
natives_fit [] h = All-nil IsWritableName
natives_fit (name ∷ names) h =
    let here : IsName name = h 0 name (omega arith) in
    All-cons IsWritableName (native_record name) (map native_record names)
    (record { no_zero = here.no_zero })
    (natives_fit names (λ i d k. h (suc i) d (omega (arith, k))))

-- ---- sizes

-- the records of a table, and their names
records_size : {A : Type 0} (f : A → Record) (name : A → List ℕ) → ((x : A) → (f x).name ≡ name x)
    → (xs : List A)
    → table_size (map f xs) + names_size (map f xs)
    ≡ 9 * length xs + sum_by (λ (n : List ℕ). length n) (map name xs)
records_size f name same [] = refl
records_size f name same (x ∷ xs) =
    omega (
      arith,
      records_size f name same xs,
      sum_by-cons (λ (it : Record). length it.name + 1) (f x) (map f xs),
      sum_by-cons (λ (n : List ℕ). length n) (name x) (map name xs),
      ap length (same x),
    )

-- a name has a byte at least
names_count : (names : List (List ℕ)) → All IsName names
    → length names ≤ sum_by (λ (n : List ℕ). length n) names
names_count [] h = omega arith
names_count (name ∷ names) h =
    let here : IsName name = h 0 name (omega arith) in
    omega (
      arith,
      sum_by-cons (λ (n : List ℕ). length n) name names,
      here.least,
      names_count names (λ i d k. h (suc i) d (omega (arith, k))),
    )

map_same : {A : Type 0} (xs : List A) → map (λ x. x) xs ≡ xs
map_same [] = refl
map_same (x ∷ xs) = ap (λ l. x ∷ l) (map_same xs)

-- files with so many cells, and tables of so many bytes
pub record Fits (amx : Amx) : Type 0 where
  pub size : code_place amx + 5 * stored_cells amx < 2 ^ 31
  pub top : code_place amx + 4 * (stored_cells amx + amx.room) < 2 ^ 31
  pub memory : 4 * (stored_cells amx + amx.room) ≤ memory_limit

all_fit : (amx : Amx) → length amx.code ≤ 4194306 → length amx.store ≤ 4194304 → amx.room ≤ 16777216
    → over_tables table_size amx + over_tables names_size amx ≤ 10485760 → Fits amx
all_fit amx code store room tables = record {
  size = omega (arith, code, store, tables);
  top = omega (arith, code, store, room, tables);
  memory = omega (arith, code, store, room);
}

module _ (program : Program) (names : HasNames program) where
  abbrev name_of_public : Public → List ℕ
  name_of_public it = it.name

  abbrev name_of_tag : Tag → List ℕ
  name_of_tag it = it.name

  abbrev others : List (List ℕ)
  others = map name_of_public program.publics ++ map name_of_tag program.tags

  pub natives_named : All IsName program.natives
  natives_named = all_left IsName program.natives others names.names

  others_named : All IsName others
  others_named = all_right IsName program.natives others names.names

  publics_named : All IsName (map name_of_public program.publics)
  publics_named =
      all_left IsName (map name_of_public program.publics)
      (map name_of_tag program.tags) others_named

  tags_named : All IsName (map name_of_tag program.tags)
  tags_named =
      all_right IsName (map name_of_public program.publics)
      (map name_of_tag program.tags) others_named

  count_all : length program.natives + (length program.publics + length program.tags) ≤ 1048576
  count_all =
      omega (
        arith,
        names_count (names_of program) names.names,
        names.bytes,
        length-append program.natives others,
        length-append (map name_of_public program.publics) (map name_of_tag program.tags),
        length-map program.publics name_of_public,
        length-map program.tags name_of_tag,
      )

  bytes_all : sum_by (λ (n : List ℕ). length n) program.natives
      + (sum_by (λ (n : List ℕ). length n) (map name_of_public program.publics)
      + sum_by (λ (n : List ℕ). length n) (map name_of_tag program.tags)) ≤ 1048576
  bytes_all =
      omega (
        arith,
        names.bytes,
        sum_by-append (λ (n : List ℕ). length n) program.natives others,
        sum_by-append (λ (n : List ℕ). length n) (map name_of_public program.publics)
            (map name_of_tag program.tags),
      )

  pub few_natives : length program.natives ≤ 2 ^ 31
  few_natives = omega (arith, count_all)

  tables_fit : (publics natives tags : List Record)
      → table_size publics + names_size publics
      ≡ 9 * length program.publics + sum_by (λ (n : List ℕ). length n)
      (map name_of_public program.publics)
      → table_size natives + names_size natives
      ≡ 9 * length program.natives + sum_by (λ (n : List ℕ). length n)
      (map (λ n. n) program.natives)
      → table_size tags + names_size tags
      ≡ 9 * length program.tags + sum_by (λ (n : List ℕ). length n)
      (map name_of_tag program.tags)
      → (table_size publics + table_size natives + 0 + 0 + table_size tags)
      + (names_size publics + names_size natives + 0 + 0 + names_size tags) ≤ 10485760
  tables_fit publics natives tags p n t =
      omega (
        arith,
        p,
        n,
        t,
        count_all,
        bytes_all,
        ap (λ (l : List (List ℕ)). sum_by (λ (x : List ℕ). length x) l) (map_same program.natives),
      )

-- ---- the file

map_twice : {A B C : Type 0} (f : A → B) (g : B → C) (xs : List A)
    → map g (map f xs) ≡ map (λ x. g (f x)) xs
map_twice f g [] = refl
map_twice f g (x ∷ xs) = ap (λ l. g (f x) ∷ l) (map_twice f g xs)

room_fits : (z : ℤ) → z ≤ℤ pos 16777216 → counted z ≤ 16777216
room_fits (pos n) h = omega (arith, ints, h)
room_fits (negsuc n) h = omega arith

pub program_writable : (program : Program) → IsValid program → IsWithinLimits program
    → HasNames program → IsWritable (file_of program)
program_writable program valid limits names =
    let amx = file_of program in
    let m = first_memory program in
    let code : length amx.code ≤ 4194306 =
    omega (
      arith,
      same_count (entry_of program) (program_items program),
      program_light program,
      limits.weight,
    ) in
    let store : length amx.store ≤ 4194304 =
    omega (
      arith,
      length_image m (data_pieces program) (first_there program valid.objects),
      data_small program valid limits,
    ) in
    let fits : Fits amx =
    all_fit amx code store (room_fits program.dynamic limits.dynamic.1)
    (tables_fit program names amx.publics amx.natives amx.tags
    (records_size (λ (it : Public). record
    { address = pos (entry_of program it.function); name = it.name })
    (name_of_public program names) (λ x. refl) program.publics)
    (records_size native_record (λ n. n) (λ x. refl) program.natives)
    (records_size (λ (it : Tag). record { address = cell_of it.number; name = it.name })
    (name_of_tag program names) (λ x. refl) program.tags)) in
    record {
      sorted =
          subst (λ l. IsSorted (slice_cmp nat_cmp) l)
          (sym (map_twice (λ (it : Public). record
          { address = pos (entry_of program it.function); name = it.name })
          (λ it. it.name) program.publics)) names.sorted;
      publics =
          records_fit (λ (it : Public). it.name)
          (λ it. pos (entry_of program it.function)) program.publics
          (publics_named program names);
      natives = natives_fit program.natives (natives_named program names);
      libraries = All-nil IsWritableName;
      variables = All-nil IsWritableName;
      tags =
          records_fit (λ (it : Tag). it.name) (λ it. cell_of it.number) program.tags
          (tags_named program names);
      version = (omega arith, omega arith);
      flags = refl;
      size = fits.size;
      top = fits.top;
      memory = fits.memory;
    }
