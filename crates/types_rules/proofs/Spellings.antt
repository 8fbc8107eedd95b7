-- Short spellings of sources, and what is asked of their verdict. A token's line is its number
-- here.
use Rattle.std.specs.Prelude.{ℕ, pos, List, [], map, codes, false, Option, None, Some}
use Rattle.pawn_cells.specs.declared.place.Place.{Place}
use Rattle.pawn_tree.specs.declared.name.Name as n
use Rattle.pawn_tree.specs.declared.name.StateName.{StateName}
use Rattle.pawn_tree.specs.declared.variable.Storage.TheVariants as storage
use Rattle.pawn_tree.specs.declared.declaration.HeadName.{HeadName}
use Rattle.pawn_tree.specs.declared.declaration.HeadName.TheVariants as called
use Rattle.pawn_tree.specs.Expressions.{Expr}
use Rattle.pawn_tree.specs.Variables as v
use Rattle.pawn_tree.specs.Variables.{Var}
use Rattle.pawn_tree.specs.Statements as s
use Rattle.pawn_tree.specs.Statements.{Stmt, Range}
use Rattle.pawn_tree.specs.Declarations as d
use Rattle.pawn_tree.specs.Declarations.{Decl, Head, Param, Tree}
use Rattle.pawn_meaning.specs.Program as code
use Rattle.names_rules.specs.Verdict.{Verdict, Fault, Stands, Breaks, faults_of}
use Rattle.types_rules.specs.TypedTrees.{Checked, typed}
use Rattle.types_rules.proofs.Samples.{at, name}

-- ---- short spellings

abbrev pub head : ℕ → Option n.Name → HeadName → List Param → Head
head token tag called params = record { tag = tag; name = called; params = params }

-- a plain parameter, of a tag where it has one
abbrev pub param : List n.Name → List ℕ → Option Expr → Param
param tags bytes default = d.Plain false false tags (name 0 bytes) [] default

abbrev pub function_with : ℕ → Option n.Name → HeadName → List Param → Option (List StateName)
    → Stmt → Decl
function_with token tag called params states body = d.Function (at token) (record {
  is_static = false;
  is_stock = false;
  is_public = false;
  head = head token tag called params;
  states = states;
  body = body;
})

abbrev pub function : ℕ → List ℕ → List Param → Stmt → Decl
function token bytes params body =
    function_with token None (called.Name (name token bytes)) params None body

abbrev pub state : List ℕ → StateName
state bytes = record { automaton = None; state = name 0 bytes }

abbrev pub in_states : ℕ → List ℕ → List (List ℕ) → Stmt → Decl
in_states token bytes states body =
    function_with token None (called.Name (name token bytes)) [] (Some (map state states)) body

abbrev pub block : List Stmt → Stmt
block ss = s.Block (at 0) (s.stmts ss)

abbrev pub nothing : Stmt
nothing = block []

abbrev pub main : Stmt → Decl
main body = function 1 (codes "main") [] body

abbrev pub variable : Option n.Name → List ℕ → Option v.Init → Var
variable tag bytes init = record { tag = tag; name = name 0 bytes; dims = []; init = init }

abbrev pub new : ℕ → List Var → Stmt
new token vars =
    s.Local (at token) (record { storage = storage.New; constant = false; vars = vars })

abbrev pub global : ℕ → List Var → Decl
global token vars =
    d.Variables (at token) (record { storage = storage.New; constant = false; vars = vars })

abbrev pub native : ℕ → List ℕ → List Param → Decl
native token bytes params =
    d.Native (at token) (head token None (called.Name (name token bytes)) params)

-- ---- which rules sources break, each with its line

abbrev pub kind_and_line : Fault → ℕ × ℕ
kind_and_line fault = (fault.kind, fault.place.line)

abbrev pub faults : Tree → List (ℕ × ℕ)
faults tree = map kind_and_line (faults_of (typed tree (pos 4096)))

abbrev pub warnings_in : Verdict Checked → List ℕ
warnings_in (Stands it) = map (λ (place : Place). place.line) it.warnings
warnings_in (Breaks found) = []

abbrev pub program_in : Verdict Checked → Option code.Program
program_in (Stands it) = Some it.program
program_in (Breaks found) = None
