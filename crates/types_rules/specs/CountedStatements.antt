-- A statement that stands makes as many slots and objects as are counted in its tree: so the counts
-- before a statement are the numbers of slots and objects there.
use Rattle.std.specs.Prelude.{◌≡◌, ℕ, Bool, List, length}
use Rattle.pawn_tree.specs.Statements.{Stmt}
use Rattle.pawn_meaning.specs.Program.{Automaton}
use Rattle.names_rules.specs.Verdict.{Stands}
use Rattle.types_rules.specs.Around.{Around}
use Rattle.types_rules.specs.Counts.{slots_in, objects_in}
use Rattle.types_rules.specs.Points.{Point}
use Rattle.types_rules.specs.Stood.{Stood}
use Rattle.types_rules.specs.Statements.{stmt}

-- as many slots and objects as counted
abbrev pub StatementsAreCounted : Type 0
StatementsAreCounted =
    (cx : Around) (automata : List Automaton) (result : ℕ) (point : Point) (in_loop : Bool)
    (s : Stmt) (x : Stood) → stmt cx automata result point in_loop s ≡ Stands x
    → (length x.slots ≡ slots_in s) × (length x.objects ≡ objects_in s)
