-- What stands in a tree that names matter to, as marks in the order of the source (Language
-- Guide, "Declarations"): where blocks begin and end, where tags are mentioned, where names
-- occur, and where declarations end. Marks are listed with the latest first.
use Rattle.std.specs.Prelude.{ℕ, Bool, List, Option}
use Rattle.pawn_cells.specs.declared.place.Place.{Place}
use Rattle.pawn_tree.specs.declared.name.Name.{Name}
use Rattle.pawn_tree.specs.Expressions.{Expr}
use Rattle.pawn_tree.specs.Variables.{Dim, Init}

-- an occurrence of a name: its token, and the place of its node, which begins with `sizeof` or
-- `tagof` where one takes the name
pub record Use : Type 0 where
  pub name : List ℕ
  pub token : ℕ
  pub place : Place

-- what is declared
pub data Sort : Type 0 where
  Variable : List Dim → Option Init → Sort
  Parameter : List Dim → Sort
  Constant : Expr → Sort
  -- the first constant of an enumeration, without a value
  First : Sort
  -- a later one without a value: one more than the constant of this name before it
  Next : List ℕ → Sort
  -- the name of an enumeration: one more than its last constant, which has this name; it has so
  -- many
  Label : List ℕ → ℕ → Sort

-- a declaration: its name, the place of its node, its tag, and whether it stands outside all
-- functions
pub record Declaration : Type 0 where
  pub name : Name
  pub place : Place
  pub tag : Option Name
  pub outside : Bool
  pub sort : Sort

-- a step in the source that changes or asks what names mean
pub data Mark : Type 0 where
  Opens : Mark
  Closes : Mark
  Mentions : List ℕ → Mark
  Uses : Use → Mark
  Declares : Declaration → Mark
