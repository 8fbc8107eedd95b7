-- The names of the instructions as the code gathers them, and how an instruction is found by its
-- name.
use denote.Ref.{Bor}
use Rattle.std.proofs.Common.{◌≡◌, ◌∙◌, ◌+◌, ◌<◌, ◌≤◌, ◌++◌, ◌&&◌, ℕ, zero, suc, List, [], ◌∷◌}
use Rattle.std.proofs.Common.{Bool, true, false, cond, not, None, Some, length, take, drop, map}
use Rattle.std.proofs.Common.{get_or, codes, nat_lt, refl, sym, ap, arith, append-nil, append_assoc}
use Rattle.std.specs.List.{position, position_or_len}
use Rattle.std.specs.Prelude.{option_and_then, option_map, slice_get}
use Rattle.std.specs.Str.{bytes_eq}
use Rattle.std.proofs.lemmas.Bool.{and_parts}
use Rattle.std.proofs.lemmas.Bool.Decides.{nat_tests}
use Rattle.std.proofs.lemmas.List.{length-map, take_all, take_more}
use Rattle.pawn_base.specs.Among.{is_among}
use Rattle.amx_ops.specs.declared.op.Op.{Op}
use Rattle.amx_ops.specs.declared.table.Operand.{Operand}
use Rattle.amx_ops.specs.Table.{Row, table, row_by, rows_of}
use Rattle.amx_ops.proofs.PlaceLaws.{held_at}
use Rattle.amx_text.specs.Readers.{after_word, names_of, word_end, operation_named, operation_by}
use Rattle.amx_text.specs.Readers.{operation_before, operation_at}

-- ---- names, one by one

-- rows as the code holds them
abbrev pub Rows : Type 0
Rows = List (ℕ × Op × Bor (List ℕ) × Operand)

-- their names
abbrev pub names_in : Rows → List (List ℕ)
names_in rows = map (λ it. it.2.now) rows

names_row : (rows : Rows) → names_in rows ≡ map (λ (row : Row). row.name) (rows_of rows)
names_row [] = refl
names_row (x ∷ rows) = ap (λ names. x.2.now ∷ names) (names_row rows)

names_are : (rows : Rows) → rows_of rows ≡ table → names_in rows ≡ names_of
names_are rows e = names_row rows ∙ ap (map (λ (row : Row). row.name)) e

-- no name is among those before it
abbrev differ : List (List ℕ) → List (List ℕ) → Bool
differ before [] = true
differ before (name ∷ names) = not (is_among name before) && differ (before ++ name ∷ []) names

all_differ : differ [] names_of ≡ true
all_differ = refl

not_true : (t : Bool) → not t ≡ true → t ≡ false
not_true true e = absurd (let no : ⊥ = cc in no)
not_true false e = refl

differ_at : (before names : List (List ℕ)) (i : ℕ) → differ before names ≡ true
    → i < length names → is_among (get_or names i []) (before ++ take i names) ≡ false
differ_at before [] i h k = absurd (omega (arith, k))
differ_at before (name ∷ names) zero h k =
    let parts = and_parts (not (is_among name before)) (differ (before ++ name ∷ []) names) h in
    ap (is_among name) (append-nil before) ∙ not_true (is_among name before) parts.0
differ_at before (name ∷ names) (suc i) h k =
    let parts = and_parts (not (is_among name before)) (differ (before ++ name ∷ []) names) h in
    ap (is_among (get_or names i [])) (sym (append_assoc before (name ∷ []) (take i names)))
    ∙ differ_at (before ++ name ∷ []) names i parts.1 (omega (arith, k))

name_in : (rows : Rows) (d : ℕ × Op × Bor (List ℕ) × Operand) (i : ℕ) → i < length rows
    → get_or (names_in rows) i [] ≡ (get_or rows i d).2.now
name_in [] d i h = absurd (omega (arith, h))
name_in (x ∷ rows) d zero h = refl
name_in (x ∷ rows) d (suc i) h = name_in rows d i (omega (arith, h))

pub name_new : (rows : Rows) (d : ℕ × Op × Bor (List ℕ) × Operand) (i : ℕ) → rows_of rows ≡ table
    → i < length rows → is_among (get_or rows i d).2.now (take i (names_in rows)) ≡ false
name_new rows d i e h =
    let size : i < length (names_in rows) =
    omega (arith, h, length-map rows (λ (it : ℕ × Op × Bor (List ℕ) × Operand). it.2.now)) in
    ap (λ name. is_among name (take i (names_in rows))) (sym (name_in rows d i h))
    ∙ differ_at [] (names_in rows) i
    (ap (differ []) (names_are rows e) ∙ all_differ) size

pub names_more : (rows : Rows) (d : ℕ × Op × Bor (List ℕ) × Operand) (i : ℕ) → i < length rows
    → take i (names_in rows) ++ (get_or rows i d).2.now ∷ [] ≡ take (i + 1) (names_in rows)
names_more rows d i h =
    let size : i < length (names_in rows) =
    omega (arith, h, length-map rows (λ (it : ℕ × Op × Bor (List ℕ) × Operand). it.2.now)) in
    ap (λ name. take i (names_in rows) ++ name ∷ []) (sym (name_in rows d i h))
    ∙ sym (take_more (names_in rows) i [] size)

pub names_all : (rows : Rows) (i : ℕ) → rows_of rows ≡ table → length rows ≤ i
    → take i (names_in rows) ≡ names_of
names_all rows i e h =
    let size : length (names_in rows) ≤ i =
    omega (arith, h, length-map rows (λ (it : ℕ × Op × Bor (List ℕ) × Operand). it.2.now)) in
    take_all i (names_in rows) size ∙ names_are rows e

-- ---- the instruction with a name

position_by : (t : Bool) (n size place : ℕ) → nat_lt n size ≡ t → cond t (Some n) None ≡ Some place
    → place < size
position_by true n size place h e =
    let same : n ≡ place = cc in
    let low : n < size = grind (arith, nat_tests) in
    omega (arith, same, low)
position_by false n size place h e = absurd (let no : ⊥ = cc in no)

pub position_within : {X : Type 0} (p : X → Bool) (xs : List X) (place : ℕ)
    → position p xs ≡ Some place → place < length xs
position_within p xs place e =
    position_by (nat_lt (position_or_len p xs) (length xs)) (position_or_len p xs) (length xs) place
    refl e

row_within : (name : List ℕ) (place : ℕ) → position (bytes_eq name) names_of ≡ Some place
    → place < 130
row_within name place e = position_within (bytes_eq name) names_of place e

pub within_rows : (rows : Rows) (name : List ℕ) (place : ℕ) → rows_of rows ≡ table
    → position (bytes_eq name) names_of ≡ Some place → place < length rows
within_rows rows name place same e =
    let size : length (rows_of rows) ≡ 130 = ap length same in
    let count : length (rows_of rows) ≡ length rows = length-map rows row_by in
    let low : place < 130 = row_within name place e in
    omega (arith, size, count, low)

pub row_named : (rows : Rows) (name : List ℕ) (place : ℕ) (d : ℕ × Op × Bor (List ℕ) × Operand)
    → rows_of rows ≡ table → position (bytes_eq name) names_of ≡ Some place
    → operation_named name ≡ Some ((get_or rows place d).0, (get_or rows place d).3)
row_named rows name place d same e =
    ap (option_and_then (λ (at : ℕ). operation_by (slice_get table at))) e
    ∙ ap operation_by (held_at rows d place same (row_within name place e))

pub no_row_named : (name : List ℕ) → position (bytes_eq name) names_of ≡ None
    → operation_named name ≡ None
no_row_named name e = ap (option_and_then (λ (at : ℕ). operation_by (slice_get table at))) e

-- ---- behind one blank

module _ (text : List ℕ) where
  pub no_blank : after_word (codes " ") text ≡ None → operation_at text ≡ None
  no_blank e =
      ap (option_and_then (λ (r : List ℕ). option_and_then (operation_before r) (word_end r))) e

  module _ (behind : List ℕ) (k : after_word (codes " ") text ≡ Some behind) where
    from_blank : operation_at text ≡ option_and_then (operation_before behind) (word_end behind)
    from_blank =
        ap (option_and_then (λ (r : List ℕ). option_and_then (operation_before r) (word_end r))) k

    pub no_word_end : word_end behind ≡ None → operation_at text ≡ None
    no_word_end e = from_blank ∙ ap (option_and_then (operation_before behind)) e

    module _ (end : ℕ) (l : word_end behind ≡ Some end) where
      from_end : operation_at text ≡ operation_before behind end
      from_end = from_blank ∙ ap (option_and_then (operation_before behind)) l

      pub no_operation : operation_named (take end behind) ≡ None → operation_at text ≡ None
      no_operation e =
          from_end ∙ ap (option_map (λ (it : ℕ × Operand). (it, drop end behind))) e

      pub an_operation : (it : ℕ × Operand) → operation_named (take end behind) ≡ Some it
          → operation_at text ≡ Some (it, drop end behind)
      an_operation it e =
          from_end ∙ ap (option_map (λ (it : ℕ × Operand). (it, drop end behind))) e
