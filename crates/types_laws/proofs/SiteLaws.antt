-- The beginning of a file is as laws of declarations ask.
use Rattle.std.proofs.Common.{◌≡◌, ◌+◌, ◌<◌, ◌≤◌, ◌^◌, ℕ, zero, suc, ℤ, pos, List, [], ◌∷◌, ◌++◌}
use Rattle.std.proofs.Common.{reverse, Bool, true, false, Option, None, Some, refl, sym, ap, ap₂}
use Rattle.std.proofs.Common.{◌∙◌, subst, cond, arith}
use Rattle.std.specs.Prelude.{if◌then◌else◌, ◌||◌, length, map, filter, find, flat_map, slice_get}
use Rattle.std.specs.Prelude.{unwrap_or, option_map}
use Rattle.std.specs.Option.{option_or}
use Rattle.std.specs.Str.{bytes_eq}
use Rattle.std.proofs.lemmas.List.{reverse-append, length-map}
use Rattle.std.proofs.lemmas.Slice.Eq.{bytes_eq-Decides}
use Rattle.std.proofs.lemmas.Int.{ints}
use Rattle.std.proofs.lemmas.Option.{slice_get-map}
use Rattle.pawn_base.specs.Among.{is_among}
use Rattle.pawn_cells.specs.Cells.{IsCell}
use Rattle.pawn_cells.specs.Cells as cells
use Rattle.pawn_cells.specs.Constants.{predefined}
use Rattle.pawn_cells.specs.declared.constant.Constant as held
use Rattle.pawn_tree.specs.declared.name.Name as n
use Rattle.pawn_tree.specs.Declarations.{Variables, Constant, Enum, Native, Forward, Function, Tree}
use Rattle.pawn_tags.specs.Tags.{untagged, number_of}
use Rattle.pawn_meaning.specs.Program.{Program}
use Rattle.names_rules.specs.Mark.{Mark}
use Rattle.names_rules.specs.Overloads.{tag_number}
use Rattle.types_rules.specs.Around.{Around, Callable, Head}
use Rattle.types_rules.specs.Scope.{Meaning, Entry, first_named, found, constant_meaning, truth_tag}
use Rattle.types_rules.specs.CalledIn.{called_in}
use Rattle.types_rules.specs.Keys.{Key, Named, Operates, Enters, Misshapen}
use Rattle.types_rules.specs.Groups.{Written, Group, written}
use Rattle.types_rules.specs.Headings.{Heading, Role, IsNative, IsForward, IsBody, is_enters}
use Rattle.types_rules.specs.Sources.{Source, Stated, source_of, name_of, is_called, is_native}
use Rattle.types_rules.specs.Sources.{stated, stated_tag, first_head, group_tag, functions_from}
use Rattle.types_rules.specs.Sources.{natives_from, natives_in, function_entry, function_entries}
use Rattle.types_rules.specs.Sources.{entry_by, entering_tag, native_entries, forward_entry}
use Rattle.types_rules.specs.Sources.{forward_entries, all_stated, around_of}
use Rattle.types_rules.specs.Sources.{around_with, beginning}
use Rattle.types_rules.specs.Declarations.{Done}
use Rattle.types_rules.specs.Programs.{program_of}
use Rattle.types_laws.specs.Objects.{Each}
use Rattle.types_laws.specs.Written.{IsAnyName}
use Rattle.types_laws.specs.Plain.{IsTag, HasTags}
use Rattle.pawn_cells.proofs.CellLaws.{small_cell, truth_cell}
use Rattle.types_laws.proofs.Facts.{each_append, position_within}
use Rattle.types_laws.specs.Seen.{IsNumberedNative, IsSeen, IsSeenPath}
use Rattle.types_laws.specs.ValidStatements.{IsCalled}
use Rattle.types_laws.specs.WrittenDeclarations.{IsWrittenTree}
use Rattle.types_laws.specs.ValidBodies.{file_scope}
use Rattle.types_laws.specs.FileSites.{FilesAreSites}
use Rattle.types_laws.proofs.CalledLaws.{stmt_calls}

-- ---- names among others

or_right : (a b : Bool) → b ≡ true → (a || b) ≡ true
or_right true b e = refl
or_right false b e = e

among_by : (a b c : Bool) → (b ≡ true → c ≡ true) → (a || b) ≡ true → (a || c) ≡ true
among_by true b c k e = refl
among_by false b c k e = k e

among_left : (name : List ℕ) (xs ys : List (List ℕ)) → is_among name xs ≡ true
    → is_among name (xs ++ ys) ≡ true
among_left name [] ys e = absurd (let no : ⊥ = cc in no)
among_left name (x ∷ xs) ys e =
    among_by (bytes_eq name x) (is_among name xs) (is_among name (xs ++ ys))
    (among_left name xs ys) e

among_right : (name : List ℕ) (xs ys : List (List ℕ)) → is_among name ys ≡ true
    → is_among name (xs ++ ys) ≡ true
among_right name [] ys e = e
among_right name (x ∷ xs) ys e = or_right (bytes_eq name x) _ (among_right name xs ys e)

first_among : (x : List ℕ) (xs : List (List ℕ)) → is_among x (x ∷ xs) ≡ true
first_among x xs = or_left (bytes_eq x x) _ ((bytes_eq-Decides x x).1 refl)
  where
    or_left : (a b : Bool) → a ≡ true → (a || b) ≡ true
    or_left true b e = refl
    or_left false b e = absurd (let no : ⊥ = cc in no)

-- each of some names is one of all
each_among : (xs all : List (List ℕ))
    → ((name : List ℕ) → is_among name xs ≡ true → is_among name all ≡ true)
    → Each (IsCalled all) xs
each_among [] all k = tt
each_among (x ∷ xs) all k = (
  k x (first_among x xs),
  each_among xs all (λ name e. k name (or_right (bytes_eq name x) _ e)),
)

abbrev pub called_by_all : List Written → List (List ℕ)
called_by_all all = flat_map (λ (it : Written). called_in it.function.body) all

tree_calls : (tree : Tree) (all : List (List ℕ))
    → ((name : List ℕ) → is_among name (called_by_all (written tree)) ≡ true
    → is_among name all ≡ true)
    → IsWrittenTree IsAnyName tree → IsWrittenTree (IsCalled all) tree
tree_calls [] all k w = tt
tree_calls (Variables at of ∷ more) all k w = (w.0, tree_calls more all k w.1)
tree_calls (Constant at of ∷ more) all k w = (w.0, tree_calls more all k w.1)
tree_calls (Enum at name items ∷ more) all k w = (w.0, tree_calls more all k w.1)
tree_calls (Native at head ∷ more) all k w = (w.0, tree_calls more all k w.1)
tree_calls (Forward at is_public head ∷ more) all k w = (w.0, tree_calls more all k w.1)
tree_calls (Function at of ∷ more) all k w = (
  (
    w.0.0,
    stmt_calls (IsCalled all) of.body w.0.1 (each_among (called_in of.body) all (λ name e.
        k name (among_left name (called_in of.body) (called_by_all (written more)) e))),
  ),
  tree_calls more all (λ name e.
      k name (among_right name (called_in of.body) (called_by_all (written more)) e)) w.1,
)

-- ---- tags

module _ (source : Source) (few : length source.tags ≤ 2 ^ 32) where
  named_small : (it : Option ℕ) → ((i : ℕ) → it ≡ Some i → i < length source.tags)
      → IsTag (unwrap_or it untagged)
  named_small None k = omega arith
  named_small (Some i) k = omega (arith, k i refl, few)

  tag_small : (tag : Option n.Name) → IsTag (tag_number source.tags tag)
  tag_small None = omega arith
  tag_small (Some tag) =
      named_small (number_of source.tags tag.bytes)
      (λ i e. position_within (bytes_eq tag.bytes) source.tags i e)

  stated_small : (it : Stated) → IsTag (stated_tag source it)
  stated_small it = tag_small it.heading.head.tag

  found_small : (it : Option Stated)
      → IsTag (unwrap_or (option_map (stated_tag source) it) untagged)
  found_small None = omega arith
  found_small (Some it) = stated_small it

  group_small : (all : List Stated) (group : Group) → IsTag (group_tag source all group)
  group_small all group = found_small (first_head source all group.key)

  functions_small : (number : ℕ) (all : List Stated) (groups : List Group) (f : ℕ) (it : Callable)
      → slice_get (functions_from source number all groups) f ≡ Some it → IsTag it.tag
  unfolding functions_from
  functions_small number all [] f it e = absurd (let no : ⊥ = cc in no)
  functions_small number all (group ∷ more) zero it e =
      let same : group_tag source all group ≡ it.tag = ap tag_of_some e in
      subst IsTag same (group_small all group)
    where
      tag_of_some : Option Callable → ℕ
      tag_of_some None = 0
      tag_of_some (Some it) = it.tag
  functions_small number all (group ∷ more) (suc f) it e =
      functions_small (number + 1) all more f it e

  natives_small : (number : ℕ) (all : List Stated) (k : ℕ) (it : Callable)
      → slice_get (natives_from source number all) k ≡ Some it → IsTag it.tag
  unfolding natives_from
  natives_small number [] k it e = absurd (let no : ⊥ = cc in no)
  natives_small number (x ∷ more) zero it e =
      let same : stated_tag source x ≡ it.tag = ap tag_of_some e in
      subst IsTag same (stated_small x)
    where
      tag_of_some : Option Callable → ℕ
      tag_of_some None = 0
      tag_of_some (Some it) = it.tag
  natives_small number (x ∷ more) (suc k) it e =
      natives_small (if is_called source x.heading then suc number else number) more k it e

  pub tags_are : (all : List Stated) → HasTags (around_with source all)
  tags_are all = record {
    names = few;
    functions = functions_small 0 all source.groups;
    natives = natives_small 0 (natives_in source all);
  }

-- ---- natives

count_step : {A : Type 0} (b : Bool) (number c : ℕ) (x : A) (rest : List A)
    → c < (if b then suc number else number) + length rest
    → c < number + length (cond b (x ∷ rest) rest)
count_step true number c x rest h = omega (arith, h)
count_step false number c x rest h = h

count_first : {A : Type 0} (b : Bool) (number c : ℕ) (x : A) (rest : List A) → b ≡ true → number ≡ c
    → c < number + length (cond b (x ∷ rest) rest)
count_first true number c x rest e s = omega (arith, s)
count_first false number c x rest e s = absurd (let no : ⊥ = cc in no)

module _ (source : Source) where
  abbrev pub number_from : Option Callable → ℕ
  number_from None = 0
  number_from (Some it) = it.number

  native_below : (number : ℕ) (all : List Stated) (k : ℕ) (c : Callable) (st : Stated)
      → slice_get (natives_from source number all) k ≡ Some c → slice_get all k ≡ Some st
      → is_called source st.heading ≡ true
      → c.number < number + length (filter (λ (it : Stated). is_called source it.heading) all)
  unfolding natives_from
  native_below number [] k c st e f h = absurd (let no : ⊥ = cc in no)
  native_below number (x ∷ more) zero c st e f h =
      let same : x ≡ st = cc in
      count_first (is_called source x.heading) number c.number x
      (filter (λ (it : Stated). is_called source it.heading) more)
      (ap (λ (z : Stated). is_called source z.heading) same ∙ h) (ap number_from e)
  native_below number (x ∷ more) (suc k) c st e f h =
      count_step (is_called source x.heading) number c.number x
      (filter (λ (it : Stated). is_called source it.heading) more)
      (native_below (if is_called source x.heading then suc number else number) more k c st e f h)

  headings_by : (b : Bool) (x y : Stated) (xs ys : List Stated) → x.heading ≡ y.heading
      → map (λ (it : Stated). it.heading) xs ≡ map (λ (it : Stated). it.heading) ys
      → map (λ (it : Stated). it.heading) (cond b (x ∷ xs) xs)
      ≡ map (λ (it : Stated). it.heading) (cond b (y ∷ ys) ys)
  headings_by true x y xs ys e h = ap₂ (λ (a : Heading) (m : List Heading). a ∷ m) e h
  headings_by false x y xs ys e h = h

  same_headings : (hs : List Heading) (heads : List (Option Head))
      → map (λ (it : Stated). it.heading) (natives_in source (stated source hs heads))
      ≡ map (λ (it : Stated). it.heading) (natives_in source (stated source hs []))
  same_headings [] heads = refl
  same_headings (it ∷ more) [] = refl
  same_headings (it ∷ more) (head ∷ heads) =
      headings_by (is_native it.role) (record { heading = it; head = head })
      (record { heading = it; head = None }) (natives_in source (stated source more heads))
      (natives_in source (stated source more [])) refl (same_headings more heads)

  record Beside (xs : List Stated) (j : ℕ) (heading : Heading) : Type 0 where
    pub it : Stated
    pub there : slice_get xs j ≡ Some it
    pub is : it.heading ≡ heading

  beside_by : (xs : List Stated) (j : ℕ) (heading : Heading) (o : Option Stated)
      → slice_get xs j ≡ o → option_map (λ (it : Stated). it.heading) o ≡ Some heading
      → Beside xs j heading
  beside_by xs j heading None e f = absurd (let no : ⊥ = cc in no)
  beside_by xs j heading (Some st) e f =
      let same : st.heading ≡ heading = cc in record { it = st; there = e; is = same }

  beside : (xs ys : List Stated) (j : ℕ) (st : Stated)
      → map (λ (it : Stated). it.heading) xs ≡ map (λ (it : Stated). it.heading) ys
      → slice_get ys j ≡ Some st → Beside xs j st.heading
  beside xs ys j st e f =
      beside_by xs j st.heading (slice_get xs j) refl
      (sym (slice_get-map (λ (it : Stated). it.heading) xs j)
      ∙ ap (λ (hs : List Heading). slice_get hs j) e
      ∙ slice_get-map (λ (it : Stated). it.heading) ys j
      ∙ ap (λ (o : Option Stated). option_map (λ (it : Stated). it.heading) o) f)

-- ---- the names that are known everywhere

module _ (it : Program) (cx : Around) (source : Source) (few : length source.tags ≤ 2 ^ 32) where
  abbrev Seen : Entry → Type 0
  Seen entry = IsSeen (file_scope it) cx (IsCalled source.called) entry.name entry.means

  abbrev Numbered : List ℕ → ℕ → Type 0
  Numbered name k = IsNumberedNative (file_scope it) cx (IsCalled source.called) name k

  natives_seen : (number : ℕ) (all : List Stated)
      → ((j : ℕ) (st : Stated) → slice_get all j ≡ Some st
      → Numbered (name_of st.heading.head.name) (number + j))
      → Each Seen (native_entries source number all)
  unfolding native_entries
  natives_seen number [] k = tt
  natives_seen number (st ∷ more) k = (
    (
      subst (λ (m : ℕ). Numbered (name_of st.heading.head.name) m) (plus_nothing number)
          (k 0 st refl),
      stated_small source few st,
    ),
    natives_seen (number + 1) more (λ j x e.
        subst (λ (m : ℕ). Numbered (name_of x.heading.head.name) m) (plus_one number j)
        (k (suc j) x e)),
  )
    where
      plus_nothing : (m : ℕ) → m + 0 ≡ m
      plus_nothing m = omega arith

      plus_one : (m j : ℕ) → m + suc j ≡ m + 1 + j
      plus_one m j = omega arith

  function_seen : (number tag : ℕ) (key : Key) → IsTag tag
      → Each Seen (function_entry source number tag key)
  function_seen number tag (Named name) h = (h, tt)
  function_seen number tag (Operates x) h = tt
  function_seen number tag (Enters name) h = tt
  function_seen number tag Misshapen h = tt

  functions_seen : (number : ℕ) (all : List Stated) (groups : List Group)
      → Each Seen (function_entries source number all groups)
  unfolding function_entries
  functions_seen number all [] = tt
  functions_seen number all (group ∷ more) =
      each_append Seen (function_entry source number (group_tag source all group) group.key) _
      (function_seen number (group_tag source all group) group.key
      (group_small source few all group))
      (functions_seen (number + 1) all more)

  entry_seen : (tag : Option ℕ) → IsTag (unwrap_or tag untagged) → Each Seen (entry_by source tag)
  entry_seen None h = tt
  entry_seen (Some tag) h = (h, tt)

  entering_small : (all : List Stated) (group : Option Group)
      → IsTag (unwrap_or (option_map (group_tag source all) group) untagged)
  entering_small all None = omega arith
  entering_small all (Some group) = group_small source few all group

  forward_seen : (x : Heading) (role : Role) → Each Seen (forward_entry source x role)
  forward_seen x IsNative = tt
  forward_seen x IsForward = (tt, tt)
  forward_seen x IsBody = tt

  forwards_seen : (all : List Heading)
      → Each Seen (flat_map (λ (x : Heading). forward_entry source x x.role) all)
  forwards_seen [] = tt
  forwards_seen (x ∷ more) =
      each_append Seen (forward_entry source x x.role) _ (forward_seen x x.role)
      (forwards_seen more)

  -- ---- of these entries and the predefined constants

  each_reverse : (xs : List Entry) → Each Seen xs → Each Seen (reverse xs)
  each_reverse [] h = tt
  each_reverse (x ∷ xs) h =
      rw (reverse-append (x ∷ []) xs)
      (each_append Seen (reverse xs) (x ∷ []) (each_reverse xs h.1) (h.0, tt))

  abbrev SeenAs : List ℕ → Option Meaning → Type 0
  SeenAs name None = Unit {0}
  SeenAs name (Some m) = IsSeen (file_scope it) cx (IsCalled source.called) name m

  named_by : (b : Bool) (x : Entry) (name : List ℕ) (rest others : Option Meaning)
      → bytes_eq x.name name ≡ b → Seen x → SeenAs name (option_or rest others)
      → SeenAs name (option_or (if b then Some x.means else rest) others)
  named_by true x name rest others e h k =
      subst (λ (m : List ℕ). IsSeen (file_scope it) cx (IsCalled source.called) m x.means)
      ((bytes_eq-Decides x.name name).0 e) h
  named_by false x name rest others e h k = k

  first_seen : (entries : List Entry) (name : List ℕ) (others : Option Meaning) → Each Seen entries
      → SeenAs name others → SeenAs name (option_or (first_named entries name) others)
  first_seen [] name others h k = k
  first_seen (x ∷ more) name others h k =
      named_by (bytes_eq x.name name) x name (first_named more name) others refl h.0
      (first_seen more name others h.1 k)

  abbrev GoodConstant : Option held.Constant → Type 0
  GoodConstant None = Unit {0}
  GoodConstant (Some c) = IsCell c.value

  record IsGoodHeld (o : Option held.Constant) : Type 0 where
    pub good : GoodConstant o

  pick : (b : Bool) {x y : Option held.Constant} → IsGoodHeld x → IsGoodHeld y
      → IsGoodHeld (if b then x else y)
  pick true h k = h
  pick false h k = k

  held_good : (v : ℤ) (is_bool : Bool) → IsCell v
      → IsGoodHeld (Some (record { value = v; is_bool = is_bool }))
  held_good v is_bool h = record { good = h }

  none_good : IsGoodHeld None
  none_good = record { good = tt }

  greatest_is : IsCell cells.greatest_cell
  greatest_is = omega (arith, ints)

  least_is : IsCell cells.least_cell
  least_is = omega (arith, ints)

  predefined_good : (name : List ℕ) → IsGoodHeld (predefined name)
  predefined_good name =
      pick _ (held_good (cells.truth true) true (truth_cell true))
      (pick _ (held_good (cells.truth false) true (truth_cell false))
      (pick _ (held_good (pos 0) false (small_cell 0 (omega arith)))
      (pick _ (held_good (pos 32) false (small_cell 32 (omega arith)))
      (pick _ (held_good cells.greatest_cell false greatest_is)
      (pick _ (held_good cells.least_cell false least_is)
      (pick _ (held_good (pos 8) false (small_cell 8 (omega arith))) none_good))))))

  truth_small : (b : Bool) → IsTag (truth_tag b)
  truth_small true = omega arith
  truth_small false = omega arith

  constant_seen : (name : List ℕ) (c : Option held.Constant) → GoodConstant c
      → SeenAs name (option_map constant_meaning c)
  constant_seen name None h = tt
  constant_seen name (Some c) h = (h, truth_small c.is_bool)

  seen_as : (name : List ℕ) (o : Option Meaning) (m : Meaning) → SeenAs name o → o ≡ Some m
      → IsSeen (file_scope it) cx (IsCalled source.called) name m
  seen_as name None m h e = absurd (let no : ⊥ = cc in no)
  seen_as name (Some x) m h e =
      let same : x ≡ m = cc in
      subst (λ (z : Meaning). IsSeen (file_scope it) cx (IsCalled source.called) name z) same h

  path_seen : (entries : List Entry) → Each Seen entries
      → IsSeenPath (file_scope it) cx (IsCalled source.called) (entries ∷ [])
  unfolding found
  path_seen entries h = record {
    meant = λ name m e.
        seen_as name (option_or (first_named (reverse entries) name)
        (option_map constant_meaning (predefined name)))
        m (first_seen (reverse entries) name _ (each_reverse entries h)
        (constant_seen name (predefined name) (predefined_good name).good)) e;
  }

-- what names mean at the beginning of a file
pub beginning_seen : (tree : Tree) (done : Done) (marks : List Mark) (dynamic : ℤ)
    → let source : Source = source_of tree in
    length source.tags ≤ 2 ^ 32
    → IsSeenPath (file_scope (program_of source (all_stated source tree) marks dynamic done))
    (around_of source tree) (IsCalled source.called) (beginning source).scope
beginning_seen tree done marks dynamic few =
    let source : Source = source_of tree in
    let all : List Stated = all_stated source tree in
    let it : Program = program_of source all marks dynamic done in
    let cx : Around = around_of source tree in
    let bare : List Stated = stated source source.headings [] in
    path_seen it cx source few _
    (each_append (Seen it cx source few) (forward_entries source) _
    (forwards_seen it cx source few source.headings)
    (each_append (Seen it cx source few) (native_entries source 0 (natives_in source bare)) _
    (natives_seen it cx source few 0 (natives_in source bare) (λ j st e.
    record {
      number_in = λ calls c there.
          let b = beside source (natives_in source all) (natives_in source bare) j st
          (same_headings source source.headings _) e in
          let lt = native_below source 0 (natives_in source all) j c b.it
          (subst (λ (m : ℕ). slice_get cx.natives m ≡ Some c) (nothing_plus j) there) b.there
          (ap (λ (h : Heading). is_called source h) b.is ∙ calls) in
          omega (
            arith,
            lt,
            length-map
                (filter (λ (x : Stated). is_called source x.heading) (natives_in source all))
                (λ (x : Stated). name_of x.heading.head.name),
          );
    }))
    (each_append (Seen it cx source few) (function_entries source 0 bare source.groups) _
    (functions_seen it cx source few 0 bare source.groups)
    (entry_seen it cx source few (entering_tag source bare)
    (entering_small it cx source few bare
    (find (λ (group : Group). is_enters group.key) source.groups))))))
  where
    nothing_plus : (j : ℕ) → 0 + j ≡ j
    nothing_plus j = omega arith

pub files_sites : FilesAreSites
files_sites tree done marks dynamic few known w =
    let source : Source = source_of tree in
    record {
      site = record {
        around = known;
        tags = tags_are source few (all_stated source tree);
        automata = refl;
        path = beginning_seen tree done marks dynamic few;
      };
      written = tree_calls tree source.called (λ name e. e) w;
    }
