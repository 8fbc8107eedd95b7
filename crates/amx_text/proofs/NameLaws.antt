-- The names of instructions: no two are one, and each begins with a letter and has no blank.
use Rattle.std.proofs.Common.{◌≡◌, ℕ, ℤ, pos, Bool, true, false, ◌&&◌, List, [], ◌∷◌, cond, Option}
use Rattle.std.proofs.Common.{Some, find, map, nat_le, refl, sym, ap, subst, ◌∙◌}
use Rattle.std.specs.List.{list_all}
use Rattle.std.specs.Str.{bytes_eq}
use Rattle.amx_ops.specs.declared.op.Op.{Op}
use Rattle.amx_ops.specs.Table.{Row, row_at, row_of, number_of, op_by, table, has_number}
use Rattle.amx_ops.proofs.Rows.{has_row, op_is}
use Rattle.amx_text.specs.Lines.{name_by, name_of}
use Rattle.amx_text.specs.Names.{NamesDiffer}
use Rattle.amx_text.proofs.LineLaws.{name_at}

-- ---- what is so of all rows

found_by : {B : Type 0} (p : Row → Bool) (f g : Row → B) (b : Bool) (x row : Row)
    (others : Option Row) → f x ≡ g x → (others ≡ Some row → f row ≡ g row)
    → cond b (Some x) others ≡ Some row → f row ≡ g row
found_by p f g true x row others e rest h =
    let same : x ≡ row = cc in subst (λ r. f r ≡ g r) same e
found_by p f g false x row others e rest h = rest h

-- what two functions give alike of all rows, they give of one that is found
found : {B : Type 0} (p : Row → Bool) (f g : Row → B) (row : Row) (rows : List Row)
    → map f rows ≡ map g rows → find p rows ≡ Some row → f row ≡ g row
found p f g row [] e h = absurd (let no : ⊥ = cc in no)
found p f g row (x ∷ rows) e h =
    let first : f x ≡ g x = cc in
    let others : map f rows ≡ map g rows = cc in
    found_by p f g (p x) x row (find p rows) first (found p f g row rows others) h

pub at_cell : {B : Type 0} (f g : Row → B) (cell : ℤ) (row : Row) → map f table ≡ map g table
    → row_at cell ≡ Some row → f row ≡ g row
unfolding row_at
at_cell f g cell row e h = found (has_number cell) f g row table e h

-- ---- one name, one operation

-- the operation with a name
abbrev pub op_named : List ℕ → Option Op
op_named name = op_by (find (λ (row : Row). bytes_eq row.name name) table)

named : map (λ (row : Row). op_named row.name) table ≡ map (λ (row : Row). Some row.op) table
named = refl

-- the name behind its number says which operation it is
pub named_back : (o : Op) → op_named (name_by (row_of (number_of o))) ≡ Some o
named_back o =
    let it = has_row o in
    ap (λ row. op_named (name_by row)) it.row
    ∙ at_cell (λ (row : Row). op_named row.name) (λ (row : Row). Some row.op) (pos (number_of o)) _
    named it.row

pub name_is : (o : Op) → name_of o ≡ name_by (row_of (number_of o))
name_is o = name_at (pos (number_of o)) o (op_is o)

pub same_operation : (a b : Op) → name_by (row_of (number_of a)) ≡ name_by (row_of (number_of b))
    → a ≡ b
same_operation a b e =
    let both : Some a ≡ Some b = sym (named_back a) ∙ ap op_named e ∙ named_back b in cc

pub names_differ : NamesDiffer
names_differ a b e = same_operation a b (sym (name_is a) ∙ e ∙ name_is b)

-- ---- their bytes

-- a byte of a name: neither a blank nor a byte 10
abbrev pub is_named : ℕ → Bool
is_named byte = nat_le 46 byte

-- a name has a first byte, which is a letter, and such bytes alone
abbrev pub is_name : List ℕ → Bool
is_name [] = false
is_name (byte ∷ bytes) = nat_le 58 byte && list_all is_named (byte ∷ bytes)

are_names : map (λ (row : Row). is_name row.name) table ≡ map (λ (row : Row). true) table
are_names = refl

pub name_bytes : (o : Op) → is_name (name_by (row_of (number_of o))) ≡ true
name_bytes o =
    let it = has_row o in
    ap (λ row. is_name (name_by row)) it.row
    ∙ at_cell (λ (row : Row). is_name row.name) (λ (row : Row). true) (pos (number_of o)) _
    are_names it.row
