-- The parts of a line.
use Rattle.std.proofs.Common.{◌≡◌, ◌+◌, ◌-◌, ◌/◌, ◌%◌, ◌<◌, ◌≤◌, ℕ, zero, suc, ℤ, pos, Bool, true}
use Rattle.std.proofs.Common.{false, List, [], ◌∷◌, ◌++◌, cond, Option, None, Some, length, drop}
use Rattle.std.proofs.Common.{find, map, slice_set, refl, sym, ap, subst, ◌∙◌, arith, append_assoc}
use Rattle.std.proofs.Common.{append-nil}
use Rattle.std.specs.List.{flat_map}
use Rattle.std.proofs.lemmas.List.Folds.{flat_map-map}
use Rattle.host_script.specs.declared.event.Seen.TheVariants.{Cell}
use Rattle.host_script.specs.Text.{argument_text, arguments_text, character_text}
use Rattle.amx_ops.specs.declared.op.Op.{Op}
use Rattle.amx_ops.specs.Table.{Row, row_at, op_by, table, has_number}
use Rattle.amx_text.specs.Lines.{hexadecimal, hexadecimal_digit, name_by, name_of}

-- a record's line: its beginning with the quote, the characters, and the quote with the line's end
pub record_parts : (kind digits characters : List ℕ)
    → (kind ++ (32 ∷ (digits ++ (32 ∷ 34 ∷ [])))) ++ (characters ++ (34 ∷ 10 ∷ []))
    ≡ kind ++ (32 ∷ (digits ++ ((32 ∷ 34 ∷ (characters ++ (34 ∷ []))) ++ (10 ∷ []))))
record_parts kind digits characters =
    let end : characters ++ (34 ∷ 10 ∷ []) ≡ (characters ++ (34 ∷ [])) ++ (10 ∷ []) =
    sym (append_assoc characters (34 ∷ []) (10 ∷ [])) in
    append_assoc kind (32 ∷ (digits ++ (32 ∷ 34 ∷ []))) (characters ++ (34 ∷ 10 ∷ []))
    ∙ ap (λ text. kind ++ (32 ∷ text))
    (append_assoc digits (32 ∷ 34 ∷ []) (characters ++ (34 ∷ 10 ∷ [])))
    ∙ ap (λ text. kind ++ (32 ∷ (digits ++ (32 ∷ 34 ∷ text)))) end

-- an instruction's line: its address and name, and its operands
pub instruction_parts : (address name cells : List ℕ)
    → (address ++ (32 ∷ (name ++ []))) ++ cells ≡ address ++ (32 ∷ (name ++ cells))
instruction_parts address name cells =
    append_assoc address (32 ∷ (name ++ [])) cells
    ∙ ap (λ text. address ++ (32 ∷ (text ++ cells))) (append-nil name)

pub data_parts : (address cells : List ℕ) → (address ++ []) ++ cells ≡ address ++ cells
data_parts address cells = ap (λ text. text ++ cells) (append-nil address)

-- cells, one after another
pub cells_are : (cells : List ℤ) → flat_map (λ cell. argument_text (Cell cell)) cells
    ≡ arguments_text (map Cell cells)
cells_are cells = sym (flat_map-map argument_text Cell cells)

pub characters_are : (bytes : List ℕ) → flat_map (λ byte. character_text (pos byte)) bytes
    ≡ flat_map character_text (map pos bytes)
characters_are bytes = sym (flat_map-map character_text pos bytes)

-- ---- names of instructions

names : map (λ (row : Row). row.name) table ≡ map (λ (row : Row). name_of row.op) table
names = refl

agrees_by : (p : Row → Bool) (b : Bool) (x row : Row) (others : Option Row) (f g : Row → List ℕ)
    → f x ≡ g x → (others ≡ Some row → f row ≡ g row)
    → cond b (Some x) others ≡ Some row → f row ≡ g row
agrees_by p true x row others f g e rest h =
    let same : x ≡ row = cc in subst (λ r. f r ≡ g r) same e
agrees_by p false x row others f g e rest h = rest h

agrees : (f g : Row → List ℕ) (p : Row → Bool) (row : Row) (rows : List Row)
    → map f rows ≡ map g rows → find p rows ≡ Some row → f row ≡ g row
agrees f g p row [] e h = absurd (let no : ⊥ = cc in no)
agrees f g p row (x ∷ rows) e h =
    let first : f x ≡ g x = cc in
    let others : map f rows ≡ map g rows = cc in
    agrees_by p (p x) x row (find p rows) f g first (agrees f g p row rows others) h

name_is : (cell : ℤ) (row : Row) → row_at cell ≡ Some row → row.name ≡ name_of row.op
unfolding row_at
name_is cell row e =
    agrees (λ row. row.name) (λ row. name_of row.op) (has_number cell) row table names e

name_at_by : (cell : ℤ) (op : Op) (r : Option Row) → row_at cell ≡ r → op_by r ≡ Some op
    → name_of op ≡ name_by r
name_at_by cell op None e h = absurd (let no : ⊥ = cc in no)
name_at_by cell op (Some row) e h =
    let same : row.op ≡ op = cc in
    sym (name_is cell row e ∙ ap (λ o. name_of o) same)

-- the name of an operation is that of its number
pub name_at : (cell : ℤ) (op : Op) → op_by (row_at cell) ≡ Some op
    → name_of op ≡ name_by (row_at cell)
name_at cell op h = name_at_by cell op (row_at cell) refl h

none_by : (r : Option Row) → op_by r ≡ None → [] ≡ name_by r
none_by None h = refl
none_by (Some row) h = absurd (let no : ⊥ = cc in no)

pub no_name : (cell : ℤ) → op_by (row_at cell) ≡ None → [] ≡ name_by (row_at cell)
no_name cell h = none_by (row_at cell) h

-- ---- the digits of an address, from the last

pub digit_put : (digits : List ℕ) (k n d : ℕ) → k < length digits → d ≡ hexadecimal_digit (n % 16)
    → hexadecimal k (n / 16) ++ drop k (slice_set digits k d)
    ≡ hexadecimal (suc k) n ++ drop (suc k) digits
digit_put digits k n d h e =
    let here : drop k (slice_set digits k d) ≡ d ∷ drop (suc k) digits = drop_set digits k d h in
    ap (λ rest. hexadecimal k (n / 16) ++ rest) (here ∙ ap (λ x. x ∷ drop (suc k) digits) e)
    ∙ sym (append_assoc (hexadecimal k (n / 16)) (hexadecimal_digit (n % 16) ∷ [])
    (drop (suc k) digits))
  where
    drop_set : (digits : List ℕ) (k d : ℕ) → k < length digits
        → drop k (slice_set digits k d) ≡ d ∷ drop (suc k) digits
    drop_set [] k d h = absurd (omega (arith, h))
    drop_set (x ∷ digits) zero d h = refl
    drop_set (x ∷ digits) (suc k) d h = drop_set digits k d (omega (arith, h))

-- what was put and what is left make the digits
module _ (digits text : List ℕ) (place r : ℕ)
    (so_far : hexadecimal (8 - place) r ++ drop (8 - place) digits ≡ text) where
  pub digit_more : (d : ℕ) → place < 8 → length digits ≡ 8 → d ≡ hexadecimal_digit (r % 16)
      → hexadecimal (8 - (place + 1)) (r / 16)
      ++ drop (8 - (place + 1)) (slice_set digits (7 - place) d) ≡ text
  digit_more d less size e =
      let here : 8 - (place + 1) ≡ 7 - place = omega arith in
      let up : suc (7 - place) ≡ 8 - place = omega (arith, less) in
      ap (λ k. hexadecimal k (r / 16) ++ drop k (slice_set digits (7 - place) d)) here
      ∙ digit_put digits (7 - place) r d (omega (arith, size)) e
      ∙ ap (λ k. hexadecimal k r ++ drop k digits) up ∙ so_far

  pub digits_done : 8 ≤ place → digits ≡ text
  digits_done past =
      let none : 0 ≡ 8 - place = omega (arith, past) in
      ap (λ k. hexadecimal k r ++ drop k digits) none ∙ so_far
