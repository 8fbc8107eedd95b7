-- `a[i]` and `a{i}` (Language Guide, "Arrays"): in one dimension an element or a character, in
-- more the part that the first index leads to.
use Rattle.std.specs.Prelude.{ℕ, ℤ, pos, negsuc, ◌*◌, List, [], ◌∷◌, ◌++◌, Bool, true, false}
use Rattle.std.specs.Prelude.{nat_le, if◌then◌else◌, Option, None, Some, option_map}
use Rattle.pawn_tree.specs.declared.name.At.{At}
use Rattle.pawn_meaning.specs.Program.{Expr, Element, Char, Row}
use Rattle.pawn_meaning.specs.Scope.{Extent}
use Rattle.types_rules.specs.declared.fault.TheConstants.{ARRAY_NOT_INDEXED, INDEX_OUTSIDE}
use Rattle.names_rules.specs.Verdict.{Verdict, Stands, both}
use Rattle.types_rules.specs.Rule.{broken}
use Rattle.types_rules.specs.Typed.{Typed, Form, Place, Whole, Held, cell, array}

-- a constant index is outside an array of a known size; it is seen without sign
abbrev pub is_outside : Option ℕ → Option ℤ → Bool
is_outside None index = false
is_outside (Some size) None = false
is_outside (Some size) (Some (pos i)) = nat_le size i
is_outside (Some size) (Some (negsuc i)) = true

-- how far the part reaches that a first index leads to, in more than one dimension
abbrev pub part_extent : ℕ → List ℕ → Extent
part_extent size inner = record { first = Some size; inner = inner }

-- an element, or a part with its own elements
abbrev pub indexed_part : Held → Expr → List ℕ → Form
indexed_part held e [] = Place (Element held.array e) held.constant
indexed_part held e (size ∷ inner) = Whole (Row held.array e) (part_extent size inner) held.constant

-- what an index leads to has the array's tag
abbrev pub indexed : At → Typed → Typed → Form → Typed
indexed at x i form = record {
  at = at;
  form = form;
  tag = x.tag;
  value = None;
  literals = x.literals ++ i.literals;
  warned = x.warned ++ i.warned;
}

-- an element or a part by its index: a constant one lies within a size that is known
abbrev pub index_in : At → Typed → Typed → Held → Expr → Verdict Typed
index_in at x i held e =
    if is_outside held.extent.first i.value then broken INDEX_OUTSIDE at
    else Stands (indexed at x i (indexed_part held e held.extent.inner))

-- `a[i]`
unfoldable pub index_rule : At → Typed → Typed → Verdict Typed
index_rule at x i = both (array at x) (cell at i) (index_in at x i)

-- four characters stand in a cell
abbrev pub characters : Option ℕ → Option ℕ
characters size = option_map (λ cells. 4 * cells) size

-- a packed character of an array of one dimension, by its index
abbrev pub character_in : At → Typed → Typed → Held → Expr → List ℕ → Verdict Typed
character_in at x i held e (size ∷ inner) = broken ARRAY_NOT_INDEXED at
character_in at x i held e [] =
    if is_outside (characters held.extent.first) i.value then broken INDEX_OUTSIDE at
    else Stands (indexed at x i (Place (Char held.array e) held.constant))

-- `a{i}`
unfoldable pub character_rule : At → Typed → Typed → Verdict Typed
character_rule at x i =
    both (array at x) (cell at i) (λ held e. character_in at x i held e held.extent.inner)
