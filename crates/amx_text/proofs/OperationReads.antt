-- An instruction's name and its row: what is spelled is read, and what is read is spelled.
use Rattle.std.proofs.Common.{◌≡◌, ◌∙◌, ◌+◌, ◌==◌, ◌||◌, ◌++◌, ℕ, zero, suc, pos, List, [], ◌∷◌}
use Rattle.std.proofs.Common.{Bool, true, false, cond, not, Option, None, Some, length, take, drop}
use Rattle.std.proofs.Common.{map, refl, sym, ap, subst, arith, codes, nat_lt}
use Rattle.std.proofs.Common.{take-append-drop, lt-ltb, length-append, ◌⊎◌, inl, inr}
use Rattle.std.specs.List.{list_all, prefix_len, position_or_len, position}
use Rattle.std.specs.Prelude.{option_and_then, option_map, slice_get}
use Rattle.std.specs.Str.{bytes_eq}
use Rattle.std.specs.Cmp.Lexicographic.{bytes_decides}
use Rattle.std.proofs.Math.Seq.{take-append_seam, drop-append_seam}
use Rattle.std.proofs.lemmas.Bool.{and_parts}
use Rattle.amx_ops.specs.declared.op.Op.{Op}
use Rattle.amx_ops.specs.declared.table.Operand.{Operand}
use Rattle.amx_ops.specs.Table.{Row, row_at, row_of, table, number_of, operand_of}
use Rattle.amx_ops.proofs.Rows.{has_row}
use Rattle.amx_text.specs.Lines.{name_by}
use Rattle.amx_text.specs.Readers.{after_word, operation_at, operation_before, operation_named}
use Rattle.amx_text.specs.Readers.{operation_by, names_of, word_end}
use Rattle.amx_text.proofs.ReaderLaws.{same_pair, word_is}
use Rattle.amx_text.proofs.LineReads.{and_then_some}
use Rattle.amx_text.proofs.NameLaws.{at_cell}

-- ---- rows

at_place : {B : Type 0} (f g : Row → B) (rows : List Row) (place : ℕ) (row : Row)
    → map f rows ≡ map g rows → slice_get rows place ≡ Some row → f row ≡ g row
at_place f g [] place row e h = absurd (let no : ⊥ = cc in no)
at_place f g (x ∷ rows) zero row e h =
    let same : x ≡ row = cc in
    let first : f x ≡ g x = cc in
    subst (λ r. f r ≡ g r) same first
at_place f g (x ∷ rows) (suc place) row e h =
    let others : map f rows ≡ map g rows = cc in at_place f g rows place row others h

-- ---- the operation of a name

named_back : map (λ (row : Row). operation_named row.name) table
    ≡ map (λ (row : Row). Some (row.number, row.operand)) table
named_back = refl

names_there : map (λ (row : Row). name_by (row_of row.number)) table
    ≡ map (λ (row : Row). row.name) table
unfolding row_at
names_there = refl

numbers_there : map (λ (row : Row). number_of row.op) table ≡ map (λ (row : Row). row.number) table
numbers_there = refl

operands_there : map (λ (row : Row). operand_of row.op) table
    ≡ map (λ (row : Row). row.operand) table
operands_there = refl

-- a byte of a name: neither a blank nor a line's end
abbrev pub plain : ℕ → Bool
plain byte = not (byte == 32 || byte == 10)

plain_there : map (λ (row : Row). list_all plain row.name) table ≡ map (λ (row : Row). true) table
plain_there = refl

-- the name behind an operation's number
abbrev pub name_at : Op → List ℕ
name_at o = name_by (row_of (number_of o))

operation_found : (o : Op) → operation_named (name_at o) ≡ Some (number_of o, operand_of o)
operation_found o =
    let it = has_row o in
    ap (λ row. operation_named (name_by row)) it.row
    ∙ at_cell (λ (row : Row). operation_named row.name)
    (λ (row : Row). Some (row.number, row.operand)) (pos (number_of o)) _ named_back it.row

name_plain : (o : Op) → list_all plain (name_at o) ≡ true
name_plain o =
    let it = has_row o in
    ap (λ row. list_all plain (name_by row)) it.row
    ∙ at_cell (λ (row : Row). list_all plain row.name) (λ (row : Row). true) (pos (number_of o)) _
    plain_there it.row

record IsOperation (name : List ℕ) (number : ℕ) (kind : Operand) : Type 0 where
  op : Op
  number_is : number_of op ≡ number
  operand_is : operand_of op ≡ kind
  name_is : name ≡ name_at op

prefix_by : (t : Bool) (n : ℕ) (place : ℕ) → cond (not t) (1 + n) 0 ≡ place
    → (t ≡ true × (place ≡ 0)) ⊎ (t ≡ false × (place ≡ suc n))
prefix_by true n place h = inl (refl, sym h)
prefix_by false n place h = inr (refl, sym h ∙ omega arith)

place_named : (name : List ℕ) (rows : List Row) (place : ℕ) (row : Row)
    → position_or_len (bytes_eq name) (map (λ (row : Row). row.name) rows) ≡ place
    → slice_get rows place ≡ Some row → bytes_eq name row.name ≡ true
place_named name [] place row h e = absurd (let no : ⊥ = cc in no)
place_named name (x ∷ rows) place row h e =
    by (λ n p q. place_named name rows n row p q) (bytes_eq name x.name) refl h
  where
    by : ((n : ℕ) → position_or_len (bytes_eq name) (map (λ (row : Row). row.name) rows) ≡ n
        → slice_get rows n ≡ Some row → bytes_eq name row.name ≡ true)
        → (t : Bool) → bytes_eq name x.name ≡ t
        → cond (not t) (1 + position_or_len (bytes_eq name) (map (λ (row : Row). row.name) rows)) 0
        ≡ place → bytes_eq name row.name ≡ true
    by others true k p =
        let first : slice_get (x ∷ rows) 0 ≡ Some row = ap (slice_get (x ∷ rows)) p ∙ e in
        let same : x ≡ row = cc in
        subst (λ (r : Row). bytes_eq name r.name ≡ true) same k
    by others false k p =
        let n : ℕ = position_or_len (bytes_eq name) (map (λ (row : Row). row.name) rows) in
        let up : suc n ≡ place = omega (arith, p) in
        let next : slice_get rows n ≡ Some row = ap (slice_get (x ∷ rows)) up ∙ e in
        others n refl next

position_by : (t : Bool) (n place : ℕ) → cond t (Some n) None ≡ Some place → n ≡ place
position_by true n place e = let same : n ≡ place = cc in same
position_by false n place e = absurd (let no : ⊥ = cc in no)

row_read : (name : List ℕ) (row : Row) (place number : ℕ) (kind : Operand)
    → position (bytes_eq name) names_of ≡ Some place → slice_get table place ≡ Some row
    → operation_by (Some row) ≡ Some (number, kind) → IsOperation name number kind
row_read name row place number kind p h e =
    let n : ℕ = position_or_len (bytes_eq name) names_of in
    let first : n ≡ place = position_by (nat_lt n (length names_of)) n place p in
    let named : name ≡ row.name =
    (bytes_decides name row.name).0 (place_named name table place row first h) in
    let pair : (row.number ≡ number) × (row.operand ≡ kind) = same_pair e in
    let a = pair.0 in
    let b = pair.1 in
    let same : number_of row.op ≡ row.number =
    at_place (λ (r : Row). number_of r.op) (λ (r : Row). r.number) table place row numbers_there h
    in
    record {
      op = row.op;
      number_is = same ∙ a;
      operand_is =
          at_place (λ (r : Row). operand_of r.op) (λ (r : Row). r.operand) table place row
          operands_there h ∙ b;
      name_is =
          named
          ∙ sym (at_place (λ (r : Row). name_by (row_of r.number)) (λ (r : Row). r.name) table place
          row names_there h)
          ∙ ap (λ m. name_by (row_of m)) (sym same);
    }

operation_by_is : (name : List ℕ) (o : Option Row) (place number : ℕ) (kind : Operand)
    → position (bytes_eq name) names_of ≡ Some place → slice_get table place ≡ o
    → operation_by o ≡ Some (number, kind) → IsOperation name number kind
operation_by_is name None place number kind p h e = absurd (let no : ⊥ = cc in no)
operation_by_is name (Some row) place number kind p h e = row_read name row place number kind p h e

named_is : (name : List ℕ) (number : ℕ) (kind : Operand)
    → operation_named name ≡ Some (number, kind) → IsOperation name number kind
named_is name number kind e =
    let it =
    and_then_some (λ (place : ℕ). operation_by (slice_get table place))
    (position (bytes_eq name) names_of) (number, kind) e in
    operation_by_is name (slice_get table it.0) it.0 number kind it.1.0 refl it.1.1

-- ---- behind one blank, up to a blank or a line's end

-- what may stand behind a name
abbrev pub Ends : List ℕ → Type 0
Ends [] = ⊥
Ends (byte ∷ rest) = plain byte ≡ false

prefix_all : (name : List ℕ) (byte : ℕ) (rest : List ℕ) → list_all plain name ≡ true
    → plain byte ≡ false → prefix_len plain (name ++ (byte ∷ rest)) ≡ length name
prefix_all [] byte rest h e = rw e refl
prefix_all (x ∷ name) byte rest h e =
    let both = and_parts (plain x) (list_all plain name) h in
    let others : prefix_len plain (name ++ (byte ∷ rest)) ≡ length name =
    prefix_all name byte rest both.1 e in
    rw both.0 (omega (arith, others))

end_found : (name : List ℕ) (byte : ℕ) (rest : List ℕ) → list_all plain name ≡ true
    → plain byte ≡ false → word_end (name ++ (byte ∷ rest)) ≡ Some (length name)
end_found name byte rest h e =
    let p : prefix_len plain (name ++ (byte ∷ rest)) ≡ length name =
    prefix_all name byte rest h e in
    let less : nat_lt (length name) (length (name ++ (byte ∷ rest))) ≡ true =
    lt-ltb (length name) (length (name ++ (byte ∷ rest)))
    (omega (arith, length-append name (byte ∷ rest))) in
    rw (p, less) refl

pub name_found : (o : Op) (rest : List ℕ) → Ends rest
    → operation_at (32 ∷ (name_at o ++ rest)) ≡ Some ((number_of o, operand_of o), rest)
name_found o [] h = absurd h
name_found o (byte ∷ rest) h =
    let text : List ℕ = name_at o ++ (byte ∷ rest) in
    ap (option_and_then (operation_before (name_at o ++ (byte ∷ rest))))
    (end_found (name_at o) byte rest (name_plain o) h)
    ∙ ap (λ name. option_map (λ (it : ℕ × Operand). (
      it,
      drop (length (name_at o))
          (name_at o ++ (byte ∷ rest)),
    )) (operation_named name))
    (take-append_seam (name_at o) (byte ∷ rest))
    ∙ ap (λ found. option_map (λ (it : ℕ × Operand). (
      it,
      drop (length (name_at o))
          (name_at o ++ (byte ∷ rest)),
    )) found) (operation_found o)
    ∙ ap (λ t. Some ((number_of o, operand_of o), t)) (drop-append_seam (name_at o) (byte ∷ rest))

-- an instruction's name stands there behind one blank
pub record IsNameText (text : List ℕ) (number : ℕ) (kind : Operand) (rest : List ℕ) : Type 0 where
  pub op : Op
  pub number_is : number_of op ≡ number
  pub operand_is : operand_of op ≡ kind
  pub is : text ≡ 32 ∷ (name_at op ++ rest)

pub name_text_is : (text : List ℕ) (number : ℕ) (kind : Operand) (rest : List ℕ)
    → operation_at text ≡ Some ((number, kind), rest) → IsNameText text number kind rest
name_text_is text number kind rest e =
    let a =
    and_then_some (λ (t : List ℕ). option_and_then (operation_before t) (word_end t))
    (after_word (codes " ") text) ((number, kind), rest) e in
    let b =
    and_then_some (operation_before a.0) (word_end a.0) ((number, kind), rest) a.1.1 in
    by a.0 b.0 (operation_named (take b.0 a.0)) refl (word_is (codes " ") text a.0 a.1.0) b.1.1
  where
    by : (behind : List ℕ) (end : ℕ) (o : Option (ℕ × Operand))
        → operation_named (take end behind) ≡ o → text ≡ 32 ∷ behind
        → option_map {U = (ℕ × Operand) × List ℕ} (λ (it : ℕ × Operand). (it, drop end behind)) o
        ≡ Some ((number, kind), rest)
        → IsNameText text number kind rest
    by behind end None h is e = absurd (let no : ⊥ = cc in no)
    by behind end (Some it) h is e =
        let pair : (it ≡ (number, kind)) × (drop end behind ≡ rest) = same_pair e in
        let same = pair.0 in
        let others = pair.1 in
        let op = named_is (take end behind) number kind (h ∙ ap Some same) in
        record {
          op = op.op;
          number_is = op.number_is;
          operand_is = op.operand_is;
          is =
              is
              ∙ ap (λ t. 32 ∷ t) (sym (take-append-drop end behind)
              ∙ ap (λ t. t ++ drop end behind) op.name_is ∙ ap (λ t. name_at op.op ++ t) others);
        }
