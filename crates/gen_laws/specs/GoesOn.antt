-- Statements behind which control never goes on: a body and a block need no end there.
use Rattle.std.specs.Prelude.{ℕ, Bool, true, false, ◌||◌, List, []}
use Rattle.pawn_meaning.specs.Program.{Stmt, Block}
use Rattle.pawn_meaning.specs.Program.{Return, Break, Continue, Exit}
use Rattle.pawn_meaning.specs.Program.{Stmts, no_stmts, then_stmt}
use Rattle.pawn_meaning.specs.ValidStmts.{slots_made_by}

-- a statement that returns, leaves a loop's pass, or ends the run
abbrev pub leaves : Stmt → Bool
leaves (Return e) = true
leaves Break = true
leaves Continue = true
leaves (Exit e tag) = true
leaves s = false

-- one of a list does
abbrev pub list_leaves : Stmts → Bool
list_leaves no_stmts = false
list_leaves (then_stmt s stmts) = leaves s || list_leaves stmts

-- control never comes to a statement's end: it leaves, or is a block of which one does
abbrev pub never_goes_on : Stmt → Bool
never_goes_on (Block stmts) = list_leaves stmts
never_goes_on s = leaves s

-- the locals of these slots that are dropped at a block's end: none, where control never comes there
abbrev pub at_end_of : Bool → List ℕ → List ℕ
at_end_of true made = []
at_end_of false made = made

-- and those that a list made
abbrev pub dropped_by : Stmts → List ℕ
dropped_by stmts = at_end_of (list_leaves stmts) (slots_made_by stmts)
