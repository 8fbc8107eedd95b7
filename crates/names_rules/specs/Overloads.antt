-- The operators that a tree defines (Language Guide, "User-defined operators"): each has a body,
-- plain parameters, and a tag other than `_`. Each stands with its place among them.
use Rattle.std.specs.Prelude.{ℕ, false, ◌&&◌, if◌then◌else◌, List, [], ◌∷◌, Option, Some, None}
use Rattle.std.specs.Prelude.{length, unwrap_or, nat_eq}
use Rattle.pawn_token.specs.declared.sign.Sign.{Sign}
use Rattle.pawn_token.specs.declared.sign.Sign.TheVariants as sign
use Rattle.pawn_tags.specs.Tags.{number_of, untagged}
use Rattle.pawn_tags.specs.Overloads.{Overloads, with_overload}
use Rattle.pawn_tags.specs.declared.op.Op.{Op}
use Rattle.pawn_tags.specs.declared.op.Op.TheVariants as op
use Rattle.pawn_tree.specs.declared.name.Name as n
use Rattle.pawn_tree.specs.declared.declaration.HeadName.{HeadName}
use Rattle.pawn_tree.specs.declared.declaration.HeadName.TheVariants as called
use Rattle.pawn_tree.specs.Declarations.{Param, Plain, Head, Decl, Variables, Constant, Enum}
use Rattle.pawn_tree.specs.Declarations.{Native, Forward, Function, Tree}
use Rattle.names_rules.specs.TreeMarks.{first_tag}

-- the number of a tag, where one is given
abbrev pub tag_number : List (List ℕ) → Option n.Name → ℕ
tag_number tags None = untagged
tag_number tags (Some name) = unwrap_or (number_of tags name.bytes) untagged

-- the operator that a function for a sign stands for, by the number of its parameters
abbrev pub op_of : Sign → ℕ → Option Op
op_of sign.Plus count = if nat_eq count 2 then Some op.Add else None
op_of sign.Minus count =
    if nat_eq count 2 then Some op.Sub else (if nat_eq count 1 then Some op.Neg else None)
op_of sign.Star count = if nat_eq count 2 then Some op.Mul else None
op_of sign.Slash count = if nat_eq count 2 then Some op.Div else None
op_of sign.Percent count = if nat_eq count 2 then Some op.Rem else None
op_of sign.Increment count = if nat_eq count 1 then Some op.Inc else None
op_of sign.Decrement count = if nat_eq count 1 then Some op.Dec else None
op_of sign.Equal count = if nat_eq count 2 then Some op.Eq else None
op_of sign.NotEqual count = if nat_eq count 2 then Some op.Neq else None
op_of sign.Less count = if nat_eq count 2 then Some op.Less else None
op_of sign.Greater count = if nat_eq count 2 then Some op.Greater else None
op_of sign.LessEqual count = if nat_eq count 2 then Some op.LessEq else None
op_of sign.GreaterEqual count = if nat_eq count 2 then Some op.GreaterEq else None
op_of sign.Exclamation count = if nat_eq count 1 then Some op.Not else None
op_of sign.Assign count = if nat_eq count 1 then Some op.Assign else None
op_of _ count = None

-- the tags of its parameters, where each takes a plain value
abbrev pub with_tag : Option ℕ → Option (List ℕ) → Option (List ℕ)
with_tag (Some tag) (Some tags) = Some (tag ∷ tags)
with_tag (Some tag) None = None
with_tag None tags = None

-- the tag of a parameter that an operator may have: by value, one cell, and no default
abbrev pub plain_tag : List (List ℕ) → Param → Option ℕ
plain_tag names (Plain constant false tags name [] None) = Some (tag_number names (first_tag tags))
plain_tag names _ = None

-- the tags of all parameters, where each is such
abbrev pub plain_tags : List (List ℕ) → List Param → Option (List ℕ)
plain_tags names [] = Some []
plain_tags names (x ∷ xs) = with_tag (plain_tag names x) (plain_tags names xs)

-- one whose operands have these tags
abbrev pub between : Overloads → Op → ℕ → ℕ → Overloads
between defined op left right =
    if nat_eq left untagged && nat_eq right untagged then defined
    else with_overload defined op left right (length defined)

-- one more, by its operator, its result's tag and those of its parameters
abbrev pub with_operator : Overloads → Option Op → ℕ → Option (List ℕ) → Overloads
with_operator defined (Some op.Assign) result (Some (value ∷ [])) =
    between defined op.Assign value result
with_operator defined (Some op) result (Some (operand ∷ [])) = between defined op operand untagged
with_operator defined (Some op) result (Some (left ∷ right ∷ [])) = between defined op left right
with_operator defined _ result _ = defined

-- with the operator of a head, if it defines one
abbrev pub with_head : List (List ℕ) → Head → HeadName → Overloads → Overloads
with_head names head (called.Name name) defined = defined
with_head names head (called.Operator at sign) defined =
    with_operator defined (op_of sign (length head.params)) (tag_number names head.tag)
    (plain_tags names head.params)

-- with the operator that a declaration defines
abbrev pub with_decl : List (List ℕ) → Decl → Overloads → Overloads
with_decl names (Variables at x) defined = defined
with_decl names (Constant at x) defined = defined
with_decl names (Enum at name items) defined = defined
with_decl names (Native at head) defined = defined
with_decl names (Forward at is_public head) defined = defined
with_decl names (Function at x) defined = with_head names x.head x.head.name defined

-- with the operators that these functions define
abbrev pub overloads_of : List (List ℕ) → Tree → Overloads → Overloads
overloads_of names [] defined = defined
overloads_of names (x ∷ xs) defined = overloads_of names xs (with_decl names x defined)
