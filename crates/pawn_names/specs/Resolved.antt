-- What `resolve` answers.
use Rattle.std.specs.Prelude.{◌≡◌, List, [], Result, Ok, Err}
use Rattle.pawn_tree.specs.Declarations.{Tree}
use Rattle.names_rules.specs.Mark.{Mark}
use Rattle.names_rules.specs.Around.{Around, around_of}
use Rattle.names_rules.specs.FileNames.{file_names, twice_faults}
use Rattle.names_rules.specs.Faults.{faults, marks_faults}
use Rattle.names_rules.specs.Resolves as plain
use Rattle.names_rules.specs.Resolves.{Resolves}
use Rattle.names_rules.specs.Uses as u
use Rattle.names_rules.specs.Values as v
use Rattle.names_sight.specs.declared.context.Context.{Context}
use Rattle.pawn_names.specs.declared.resolved_names.Names.{Names}
use Rattle.pawn_verdict.specs.declared.fault.CheckFault.{CheckFault}
use Rattle.pawn_verdict.specs.Answers.{Fails}
use Rattle.pawn_names.specs.Behind.{Knows}

-- the pairs that code answers, seen as those defined
abbrev pub names_view : Names → plain.Names
names_view x = record { uses = x.uses; values = x.values }

-- the names of the tree, or a fault whose rule the node at its place breaks; so an answer is Ok
-- exactly where no node breaks a rule of names, unless memory is short
abbrev pub IsResolved : Tree → Result Names CheckFault → Type 0
IsResolved tree (Ok names) = Resolves tree (names_view names)
IsResolved tree (Err fault) = Fails (faults tree) fault

-- ---- on the way

-- what is known everywhere, before any mark
pub record Begins (around : Around) (cx : Context) : Type 0 where
  pub knows : Knows around cx
  pub scopes : cx.scopes ≡ []
  pub known : cx.known ≡ []

-- what is known everywhere in a tree whose names outside functions don't clash
pub record IsOnce (tree : Tree) (cx : Context) : Type 0 where
  pub begins : Begins (around_of tree) cx
  pub once : twice_faults (file_names tree) ≡ []

-- that, or a fault of a name that clashes
abbrev pub IsContext : Tree → Result Context CheckFault → Type 0
IsContext tree (Ok cx) = IsOnce tree cx
IsContext tree (Err fault) = Fails (twice_faults (file_names tree)) fault

-- all marks
pub record ArePairs (around : Around) (marks : List Mark) (names : Names) : Type 0 where
  pub whole : marks_faults around marks ≡ []
  pub uses : names.uses ≡ u.uses around marks
  pub values : names.values ≡ v.values around marks

-- the pairs of all marks, or one of their faults
abbrev pub AreResolved : Around → List Mark → Result Names CheckFault → Type 0
AreResolved around marks (Ok names) = ArePairs around marks names
AreResolved around marks (Err fault) = Fails (marks_faults around marks) fault
