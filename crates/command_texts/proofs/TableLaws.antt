-- What is told of rows, from one of them on.
use denote.Ref.{Bor}
use Rattle.std.proofs.Common.{◌≡◌, ◌+◌, ◌<◌, ◌≤◌, ◌∙◌, ◌||◌, ℕ, List, [], ◌++◌, Bool, true, false}
use Rattle.std.proofs.Common.{Option, None, Some, length, drop, find, get_or, is_some, ap, sym}
use Rattle.std.proofs.Common.{refl}
use Rattle.std.specs.Option.{option_or}
use Rattle.std.proofs.Math.ListN.{drop_of_length-le}
use Rattle.std.proofs.lemmas.Grind.{flat_map-append}
use Rattle.std.proofs.lemmas.List.{drop_more, at_drop_more}
use Rattle.std.proofs.lemmas.List.Folds.{find-append}
use Rattle.command_texts.specs.declared.kind.Kind.{Kind}
use Rattle.command_texts.specs.Rows.{Row, row_by, rows_by, rows_in}
use Rattle.command_texts.specs.Explained.{row_text, rows_text, has_number}

-- a row as the code holds it
abbrev pub Held : Type 0
Held = Kind × ℕ × Bor (List ℕ) × Bor (List ℕ) × Bor (List ℕ)

-- ---- what is told

module _ (asked : Option ℕ) (all : List Held) (i : ℕ) where
  pub rows_from : (other : Held) → i < length all
      → rows_text asked (rows_by (drop i all))
      ≡ row_text asked (row_by (get_or all i other)) ++ rows_text asked (rows_by (drop (i + 1) all))
  rows_from other h =
      ap (λ rest. rows_text asked (rows_by rest)) (drop_more all i other h)

  -- nothing is left behind the last
  pub rows_end : length all ≤ i → rows_text asked (rows_by (drop i all)) ≡ []
  rows_end h = ap (λ rest. rows_text asked (rows_by rest)) (drop_of_length-le all h)

module _ (asked : Option ℕ) (tables : List (Bor (List Held))) (i : ℕ) where
  pub tables_from : (other : Bor (List Held)) → i < length tables
      → rows_text asked (rows_in (drop i tables))
      ≡ rows_text asked (rows_by (get_or tables i other).now)
      ++ rows_text asked (rows_in (drop (i + 1) tables))
  tables_from other h =
      at_drop_more (λ rest. rows_text asked (rows_in rest)) tables i other h
      ∙ flat_map-append (row_text asked) (rows_by (get_or tables i other).now)
      (rows_in (drop (i + 1) tables))

  pub tables_end : length tables ≤ i → rows_text asked (rows_in (drop i tables)) ≡ []
  tables_end h = ap (λ rest. rows_text asked (rows_in rest)) (drop_of_length-le tables h)

-- ---- whether a row has a number

abbrev pub has : ℕ → List Row → Bool
has number rows = is_some (find (has_number number) rows)

has_either : (first second : Option Row) (b : Bool) → is_some second ≡ b
    → is_some (option_or first second) ≡ (is_some first || b)
has_either None second b e = e
has_either (Some row) second b e = refl

has_behind : (number : ℕ) (first second : List Row)
    → has number (first ++ second) ≡ (has number first || has number second)
has_behind number first second =
    ap is_some (find-append (has_number number) first second)
    ∙ has_either (find (has_number number) first) (find (has_number number) second)
    (has number second) refl

module _ (number : ℕ) (tables : List (Bor (List Held))) (i : ℕ) where
  pub has_from : (other : Bor (List Held)) → i < length tables
      → has number (rows_in (drop i tables))
      ≡ (has number (rows_by (get_or tables i other).now)
      || has number (rows_in (drop (i + 1) tables)))
  has_from other h =
      at_drop_more (λ rest. has number (rows_in rest)) tables i other h
      ∙ has_behind number (rows_by (get_or tables i other).now) (rows_in (drop (i + 1) tables))

  pub found_from : (other : Bor (List Held)) (found : Bool) → i < length tables
      → found ≡ true → found ≡ has number (rows_by (get_or tables i other).now)
      → has number (rows_in (drop i tables)) ≡ true
  found_from other found h is e = has_from other h ∙ rw (sym e, is) refl

  pub later_from : (other : Bor (List Held)) (found : Bool) → i < length tables
      → found ≡ false → found ≡ has number (rows_by (get_or tables i other).now)
      → has number (rows_in (drop i tables)) ≡ has number (rows_in (drop (i + 1) tables))
  later_from other found h is e = has_from other h ∙ rw (sym e, is) refl

  pub has_end : length tables ≤ i → has number (rows_in (drop i tables)) ≡ false
  has_end h = ap (λ rest. has number (rows_in rest)) (drop_of_length-le tables h)
