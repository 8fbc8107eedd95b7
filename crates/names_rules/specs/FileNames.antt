-- The names that a source declares outside all functions, which share one space (Language Guide,
-- "Declarations", "Functions"), with the latest first.
use Rattle.std.specs.Prelude.{Bool, true, false, not, ◌&&◌, ◌||◌, if◌then◌else◌, List, [], ◌∷◌}
use Rattle.std.specs.Prelude.{◌++◌, Option, Some, None, is_some}
use Rattle.std.specs.List.{list_any}
use Rattle.std.specs.Str.{bytes_eq}
use Rattle.pawn_cells.specs.declared.place.Place.{Place}
use Rattle.pawn_cells.specs.Constants.{predefined}
use Rattle.pawn_tree.specs.declared.name.Name as n
use Rattle.pawn_tree.specs.declared.declaration.HeadName.{HeadName}
use Rattle.pawn_tree.specs.declared.declaration.HeadName.TheVariants as called
use Rattle.pawn_tree.specs.Variables.{Var}
use Rattle.pawn_tree.specs.Declarations.{Item, Head, Decl, Variables, Constant, Enum, Native}
use Rattle.pawn_tree.specs.Declarations.{Forward, Function, Tree}
use Rattle.names_rules.specs.Verdict.{Fault}

-- what a name outside all functions stands for
pub data Role : Type 0 where
  -- a variable, a constant, or the name of an enumeration
  Value : Role
  Native' : Role
  Forward' : Role
  -- a function's body: whether it has a classifier
  Body : Bool → Role

-- such a name, its tag if one is written, and the place of its declaration
pub record FileName : Type 0 where
  pub name : n.Name
  pub place : Place
  pub tag : Option n.Name
  pub role : Role

-- ---- which there are

-- a name of a variable, a constant or an enumeration
abbrev pub value : Place → n.Name → FileName
value place name = record { name = name; place = place; tag = None; role = Value }

-- with each variable of a declaration
abbrev pub var_names : Place → List Var → List FileName → List FileName
var_names place [] before = before
var_names place (x ∷ xs) before = var_names place xs (value place x.name ∷ before)

-- with the constants of an enumeration
abbrev pub item_names : Place → List Item → List FileName → List FileName
item_names place [] before = before
item_names place (x ∷ xs) before = item_names place xs (value place x.name ∷ before)

-- with the name of an enumeration, if it has one
abbrev pub label_names : Place → Option n.Name → List FileName → List FileName
label_names place None before = before
label_names place (Some name) before = value place name ∷ before

-- an operator has no name
abbrev pub called_names : Place → Head → Role → HeadName → List FileName → List FileName
called_names place head role (called.Name name) before =
    record { name = name; place = place; tag = head.tag; role = role } ∷ before
called_names place head role (called.Operator at sign) before = before

-- with the name in a head, if it is no operator
abbrev pub head_names : Place → Head → Role → List FileName → List FileName
head_names place head role before = called_names place head role head.name before

-- with what a declaration declares outside functions
abbrev pub decl_names : Decl → List FileName → List FileName
decl_names (Variables at x) before = var_names at.place x.vars before
decl_names (Constant at x) before = value at.place x.name ∷ before
decl_names (Enum at name items) before =
    label_names at.place name (item_names at.place items before)
decl_names (Native at head) before = head_names at.place head Native' before
decl_names (Forward at is_public head) before = head_names at.place head Forward' before
decl_names (Function at x) before = head_names at.place x.head (Body (is_some x.states)) before

-- with what these declare, in token order
abbrev pub decls_names : List Decl → List FileName → List FileName
decls_names [] before = before
decls_names (x ∷ xs) before = decls_names xs (decl_names x before)

-- all names outside functions
abbrev pub file_names : Tree → List FileName
file_names tree = decls_names tree []

-- ---- a name twice

-- two with one name may stand together: forwards and bodies of one function, of which only one is
-- without a classifier
abbrev pub together : Role → Role → Bool
together Forward' Forward' = true
together Forward' (Body classified) = true
together (Body classified) Forward' = true
together (Body false) (Body false) = false
together (Body false) (Body true) = true
together (Body true) (Body classified) = true
together _ _ = false

-- one name declared as two things that don't stand together
abbrev pub clash : FileName → FileName → Bool
clash x y = bytes_eq x.name.bytes y.name.bytes && not (together x.role y.role)

-- a name that is there already; a predefined constant's is there from the start
abbrev pub is_twice : FileName → List FileName → Bool
is_twice x before = is_some (predefined x.name.bytes) || list_any (clash x) before

-- each name that clashes with one before it
abbrev pub twice_faults : List FileName → List Fault
twice_faults [] = []
twice_faults (x ∷ before) =
    twice_faults before
    ++ (if is_twice x before then record { kind = 51; place = x.place } ∷ [] else [])
