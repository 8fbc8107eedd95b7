-- Names, numbers, texts, `sizeof` and `tagof` (Language Guide, "Identifiers", "Operators").
use Rattle.std.specs.Prelude.{ℕ, ℤ, pos, zero, suc, List, [], ◌∷◌, length, Bool, Option, None, Some}
use Rattle.std.specs.Prelude.{if◌then◌else◌, slice_get, nat_eq, nat_le}
use Rattle.pawn_cells.specs.Cells.{cell_of}
use Rattle.pawn_arrays.specs.Sizes.{cell_limit}
use Rattle.pawn_tree.specs.declared.name.At.{At}
use Rattle.pawn_tree.specs.declared.expression.SizeofOperand.{SizeofOperand}
use Rattle.pawn_tree.specs.declared.expression.SizeofOperand.TheVariants as sizeof
use Rattle.pawn_tree.specs.declared.expression.TagofOperand.{TagofOperand}
use Rattle.pawn_tree.specs.declared.expression.TagofOperand.TheVariants as tagof
use Rattle.pawn_tags.specs.Tags.{untagged}
use Rattle.pawn_meaning.specs.Program.{Const}
use Rattle.pawn_meaning.specs.Scope.{Extent}
use Rattle.types_rules.specs.declared.fault.TheConstants.{UNDEFINED, NOT_AN_ARRAY, LIMIT_ARRAY}
use Rattle.names_rules.specs.Verdict.{Verdict, Stands, after}
use Rattle.types_rules.specs.Rule.{broken, fallen}
use Rattle.types_rules.specs.Typed.{Typed, Form, Place, Whole, Literal, plain_value}
use Rattle.types_rules.specs.Around.{Around, tag_number}
use Rattle.types_rules.specs.Scope.{Meaning, Constant, Variable, Array, Function, Native, Entering}
use Rattle.types_rules.specs.Scope.{Taken, Unknown, Scope, found}
use Rattle.types_rules.specs.Texts.{text_object, text_cells}

-- a constant with its tag
abbrev pub constant_value : At → ℤ → ℕ → Typed
constant_value at v tag = plain_value at (Const v) tag (Some v)

-- a number or a character
abbrev pub number_rule : At → ℤ → Typed
number_rule at v = constant_value at v untagged

-- a text, which is the object with this number
abbrev pub text_typed : ℕ → At → List ℕ → Bool → Typed
text_typed object at bytes packed = record {
  at = at;
  form = Literal object (length (text_cells packed bytes));
  tag = untagged;
  value = None;
  literals = text_object packed bytes ∷ [];
  warned = [];
}

-- it has no more cells than any array
unfoldable pub text_rule : ℕ → At → List ℕ → Bool → Verdict Typed
text_rule object at bytes packed =
    if nat_le (length (text_cells packed bytes)) cell_limit then Stands
    (text_typed object at bytes packed)
    else broken LIMIT_ARRAY at

-- what is there to be read or written
abbrev pub held : At → Form → ℕ → Typed
held at form tag = record {
  at = at;
  form = form;
  tag = tag;
  value = None;
  literals = [];
  warned = [];
}

-- a name that means a value or an array
abbrev pub name_rule : At → Option Meaning → Verdict Typed
name_rule at None = broken UNDEFINED at
name_rule at (Some (Constant v tag)) = Stands (constant_value at v tag)
name_rule at (Some (Variable p tag constant)) =
    Stands (held at (Place p constant) tag)
name_rule at (Some (Array a extent tag constant)) =
    Stands (held at (Whole a extent constant) tag)
name_rule at (Some (Function f tag)) = broken UNDEFINED at
name_rule at (Some (Native n tag)) = broken UNDEFINED at
name_rule at (Some (Entering tag)) = broken UNDEFINED at
name_rule at (Some Taken) = broken UNDEFINED at
name_rule at (Some Unknown) = fallen

-- ---- `sizeof`

-- the size of a dimension: 0 where the first one isn't known
abbrev pub size_or_zero : Option ℕ → ℕ
size_or_zero None = 0
size_or_zero (Some size) = size

-- how many cells or parts the dimension behind so many brackets has, 0 if that is unknown
abbrev pub size_at : Extent → ℕ → Option ℕ
size_at extent zero = Some (size_or_zero extent.first)
size_at extent (suc n) = slice_get extent.inner n

-- an array has so many dimensions
abbrev pub size_or_broken : At → Option ℕ → Verdict ℕ
size_or_broken at None = broken NOT_AN_ARRAY at
size_or_broken at (Some size) = Stands size

-- what isn't an array has the size 1 and no dimension
abbrev pub size_of_cell : At → ℕ → Verdict ℕ
size_of_cell at dimension = if nat_eq dimension 0 then Stands 1 else broken NOT_AN_ARRAY at

-- the size of what a name means, in the dimension that so many `[]` tell
abbrev pub size_of : At → ℕ → Option Meaning → Verdict ℕ
size_of at dimension None = broken UNDEFINED at
size_of at dimension (Some (Constant v tag)) = size_of_cell at dimension
size_of at dimension (Some (Variable p tag constant)) = size_of_cell at dimension
size_of at dimension (Some (Array a extent tag constant)) =
    size_or_broken at (size_at extent dimension)
size_of at dimension (Some (Function f tag)) = broken NOT_AN_ARRAY at
size_of at dimension (Some (Native n tag)) = broken NOT_AN_ARRAY at
size_of at dimension (Some (Entering tag)) = broken NOT_AN_ARRAY at
size_of at dimension (Some Taken) = broken UNDEFINED at
size_of at dimension (Some Unknown) = fallen

-- of a literal the number of its cells, which makes no object
abbrev pub size_of_text : At → ℕ → ℕ → Verdict ℕ
size_of_text at dimension cells =
    if nat_eq dimension 0 then Stands cells else broken NOT_AN_ARRAY at

-- the size of an operand of `sizeof`: a name's or a text's
abbrev pub size_in : Scope → At → SizeofOperand → Verdict ℕ
size_in scope at (sizeof.Name name dimension) = size_of at dimension (found scope name.bytes)
size_in scope at (sizeof.Text text dimension) =
    size_of_text at dimension (length (text_cells text.packed text.bytes))

-- `sizeof`, a constant expression
unfoldable pub sizeof_rule : Scope → At → SizeofOperand → Verdict Typed
sizeof_rule scope at operand =
    after (size_in scope at operand) (λ size. Stands (constant_value at (pos size) untagged))

-- ---- `tagof`

-- the tag of what a name means, of a function the tag of what it gives
abbrev pub tag_of_meaning : At → Option Meaning → Verdict ℕ
tag_of_meaning at None = broken UNDEFINED at
tag_of_meaning at (Some (Constant v tag)) = Stands tag
tag_of_meaning at (Some (Variable p tag constant)) = Stands tag
tag_of_meaning at (Some (Array a extent tag constant)) = Stands tag
tag_of_meaning at (Some (Function f tag)) = Stands tag
tag_of_meaning at (Some (Native n tag)) = Stands tag
tag_of_meaning at (Some (Entering tag)) = Stands tag
tag_of_meaning at (Some Taken) = broken UNDEFINED at
tag_of_meaning at (Some Unknown) = fallen

-- the tag of an operand of `tagof`: what a name has, or the tag itself
abbrev pub tag_in : Around → Scope → At → TagofOperand → Verdict ℕ
tag_in cx scope at (tagof.Name name) = tag_of_meaning at (found scope name.bytes)
tag_in cx scope at (tagof.Tag name) = Stands (tag_number cx name.bytes)

-- a tag's number from 2^31 on is the cell with these bits
unfoldable pub tagof_rule : Around → Scope → At → TagofOperand → Verdict Typed
tagof_rule cx scope at operand =
    after (tag_in cx scope at operand) (λ tag. Stands (constant_value at (cell_of tag) untagged))
