-- Small programs and what is shown of them, for the examples. Native 0 is `p`, native 1 is `w`.
use Rattle.std.proofs.Common.{ℕ, ℤ, pos, List, [], ◌∷◌, Some, None, Option, false, codes}
use Rattle.host_script.specs.Script.{plain}
use Rattle.host_script.specs.declared.script.Script.{Script}
use Rattle.host_script.specs.declared.script.Form.{Form}
use Rattle.host_script.specs.declared.script.Form.TheVariants as form
use Rattle.host_script.specs.declared.script.Answer.{Answer}
use Rattle.pawn_cells.specs.declared.operator.Prefix.TheVariants as prefix
use Rattle.host_script.specs.declared.event.Event.{Event}
use Rattle.host_script.specs.declared.event.Event.TheVariants as event
use Rattle.host_script.specs.declared.event.Seen.TheVariants as seen
use Rattle.host_script.specs.declared.event.End.{End}
use Rattle.host_script.specs.declared.event.End.TheVariants as end
use Rattle.pawn_meaning.specs.Program as node
use Rattle.pawn_meaning.specs.Program.{Scalar, Expr, Const, Read, Arg, Args, no_args, then_arg}
use Rattle.pawn_meaning.specs.Program.{Stmt, Stmts, no_stmts, then_stmt, Slot, StaticObject}
use Rattle.pawn_meaning.specs.Program.{Function, Automaton, Program}
use Rattle.pawn_meaning.specs.Told.{Last, Ended, Told, meaning, events_of}

-- ---- programs

abbrev pub stmts : List Stmt → Stmts
stmts [] = no_stmts
stmts (s ∷ ss) = then_stmt s (stmts ss)

abbrev pub block : List Stmt → Stmt
block ss = node.Block (stmts ss)

abbrev pub args : List Arg → Args
args [] = no_args
args (a ∷ others) = then_arg a (args others)

-- parameters, all slots, and the statements of the block
abbrev pub function : List Slot → List Slot → List Stmt → Function
function params slots ss =
    record {
      params = params;
      tag = 0;
      dispatch = None;
      bodies = record { slots = slots; stmt = block ss } ∷ [];
    }

-- the first function is main
abbrev pub program_of : List StaticObject → List Function → List Automaton → Program
program_of objects functions automata = record {
  objects = objects;
  functions = functions;
  natives = codes "p" ∷ codes "w" ∷ [];
  automata = automata;
  tags = [];
  publics = [];
  entry = Some 0;
  dynamic = pos 4096;
}

abbrev pub array : List ℕ → List ℤ → StaticObject
array sizes first = record { sizes = sizes; constant = false; first = first }

abbrev pub cell : ℤ → StaticObject
cell v = array (1 ∷ []) (v ∷ [])

-- a constant, and what a place holds
abbrev pub n : ℕ → Expr
n v = Const (pos v)

abbrev pub minus : ℕ → Expr
minus v = node.Unary prefix.Negate (n v)

abbrev pub own : ℕ → Expr
own s = Read (node.Own s)

abbrev pub global : ℕ → Expr
global o = Read (node.Global o)

-- p with a value
abbrev pub p : Expr → Stmt
p e = node.Do (node.Native 0 (args (node.Value e ∷ [])))

-- ---- what is shown

abbrev pub p_shows : ℤ → Event
p_shows v = event.Native (codes "p") (seen.Cell v ∷ []) (pos 0)

-- the events and the outcome of main's meaning with at most so many turns
pub record Shown : Type 0 where
  pub events : List Event
  pub last : Last

abbrev pub shown_of : Told → Shown
shown_of told = record { events = events_of told.entries; last = told.last }

abbrev pub shown : Program → ℕ → Shown
shown program limit = shown_of (meaning program plain 0 limit)

abbrev pub ends : List Event → End → Shown
ends events it = record { events = events; last = Ended it }

abbrev pub done : List Event → ℤ → Shown
done events v = ends events (end.Done v)

-- ---- scripts

-- w sees its arguments by these forms, and takes the answers
abbrev pub script : List Form → Option Form → List Answer → Script
script forms rest answers = record {
  others = false;
  natives =
      record { name = codes "w"; forms = forms; rest = rest; result = None }
      ∷ record { name = codes "p"; forms = []; rest = Some form.Cell; result = Some (pos 0) } ∷ [];
  answers = answers;
}

abbrev pub shown_with : Script → Program → ℕ → Shown
shown_with it program limit = shown_of (meaning program it 0 limit)
