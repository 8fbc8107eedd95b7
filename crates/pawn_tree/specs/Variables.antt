-- Variables as plain data (Language Guide, "Declarations").
use Rattle.std.specs.Prelude.{Bool, List, [], ◌∷◌, Option}
use Rattle.pawn_tree.specs.declared.name.At.{At}
use Rattle.pawn_tree.specs.declared.name.Name.{Name}
use Rattle.pawn_tree.specs.declared.variable.Storage.{Storage}
use Rattle.pawn_tree.specs.Expressions.{Expr}

-- a dimension: nothing in its brackets, so many cells, or by `char` so many packed characters
pub data Dim : Type 0 where
  Open : Dim
  Cells : Expr → Dim
  Chars : Expr → Dim

mutual
  -- a first value: an expression, or a list in braces that may go on by `...`
  pub data Init : Type 0 where
    Value : Expr → Init
    Braces : At → Inits → Bool → Init

  -- the values in braces, the first one first
  pub data Inits : Type 0 where
    no_inits : Inits
    then_init : Init → Inits → Inits

-- the values that a list holds
abbrev pub inits : List Init → Inits
inits [] = no_inits
inits (x ∷ xs) = then_init x (inits xs)

-- a name with its tag, dimensions and first value
pub record Var : Type 0 where
  pub tag : Option Name
  pub name : Name
  pub dims : List Dim
  pub init : Option Init

-- a declaration of variables, by its keyword and whether it says `const`
pub record Variables : Type 0 where
  pub storage : Storage
  pub constant : Bool
  pub vars : List Var
