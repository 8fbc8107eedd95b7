-- What typing gives for an expression.
use Rattle.std.specs.Prelude.{ℕ, ℤ, List, [], ◌++◌, Bool, false, Option, None, Some}
use Rattle.pawn_tree.specs.declared.name.At.{At}
use Rattle.pawn_meaning.specs.Program.{Scalar, Array, Expr, Read, StaticObject}
use Rattle.pawn_meaning.specs.Program as code
use Rattle.pawn_meaning.specs.Scope.{Extent}
use Rattle.types_rules.specs.declared.fault.TheConstants.{ARRAY_NOT_INDEXED, NOT_AN_ARRAY}
use Rattle.names_rules.specs.Verdict.{Verdict, Stands}
use Rattle.types_rules.specs.Rule.{broken}

-- what an expression is to its surroundings
pub data Form : Type 0 where
  -- a value and no more
  Value : Expr → Form
  -- a place of one cell, and whether it is constant
  Place : Scalar → Bool → Form
  -- an array or a part of one, how far it reaches, and whether it is constant
  Whole : Array → Extent → Bool → Form
  -- a literal: the number of its object, and its cells
  Literal : ℕ → ℕ → Form

-- a typed expression: its first token, what it is, its tag, its value where it is a constant
-- expression, the literals in it, and the values whose tags don't match, both in token order
pub record Typed : Type 0 where
  pub at : At
  pub form : Form
  pub tag : ℕ
  pub value : Option ℤ
  pub literals : List StaticObject
  pub warned : List At

-- a value that is made of nothing
abbrev pub plain_value : At → Expr → ℕ → Option ℤ → Typed
plain_value at e tag value =
    record { at = at; form = Value e; tag = tag; value = value; literals = []; warned = [] }

-- a value that is made of one part
abbrev pub value_of_one : At → Expr → ℕ → Option ℤ → Typed → Typed
value_of_one at e tag value x =
    record {
      at = at;
      form = Value e;
      tag = tag;
      value = value;
      literals = x.literals;
      warned =
          x.warned;
    }

-- a value that is made of two parts, with the warnings for the second one
abbrev pub value_of_two : At → Expr → ℕ → Option ℤ → Typed → List At → Typed → Typed
value_of_two at e tag value x tests y = record {
  at = at;
  form = Value e;
  tag = tag;
  value = value;
  literals = x.literals ++ y.literals;
  warned = x.warned ++ (tests ++ y.warned);
}

-- ---- what surroundings ask

-- one cell
abbrev pub cell_in : At → Form → Verdict Expr
cell_in at (Value e) = Stands e
cell_in at (Place p constant) = Stands (Read p)
cell_in at (Whole a extent constant) = broken ARRAY_NOT_INDEXED at
cell_in at (Literal object cells) = broken ARRAY_NOT_INDEXED at

-- the value of a part where a node wants one cell
abbrev pub cell : At → Typed → Verdict Expr
cell at x = cell_in at x.form

-- an array with what is known of it
pub record Held : Type 0 where
  pub array : Array
  pub extent : Extent
  pub constant : Bool

-- one dimension of so many cells
abbrev pub line : ℕ → Extent
line cells = record { first = Some cells; inner = [] }

-- an array, if it is one
abbrev pub array_in : Form → Option Held
array_in (Value e) = None
array_in (Place p constant) = None
array_in (Whole a extent constant) =
    Some (record { array = a; extent = extent; constant = constant })
array_in (Literal object cells) =
    Some (record { array = code.Object object; extent = line cells; constant = false })

-- a part has to be an array here
abbrev pub array_or_broken : At → Option Held → Verdict Held
array_or_broken at None = broken NOT_AN_ARRAY at
array_or_broken at (Some held) = Stands held

-- the array that a node wants
abbrev pub array : At → Typed → Verdict Held
array at x = array_or_broken at (array_in x.form)
