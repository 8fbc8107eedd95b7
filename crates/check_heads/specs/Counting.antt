-- Constants of an enumeration as code counts them.
use Rattle.std.specs.Prelude.{◌≡◌, ℤ, List, [], ◌++◌, Option, None, Some, Result, Ok, Err}
use Rattle.pawn_tree.specs.declared.name.At.{At}
use Rattle.pawn_tree.specs.Expressions.{Expr}
use Rattle.names_rules.specs.Verdict.{Verdict, Stands, after}
use Rattle.types_rules.specs.Around.{Around}
use Rattle.types_rules.specs.Scope.{Scope}
use Rattle.types_rules.specs.Constants as constants
use Rattle.types_rules.specs.Enums.{Counted, value_of}
use Rattle.check_nodes.specs.declared.fault.PartFault.{PartFault}
use Rattle.check_heads.specs.SoFar.{IsBroken, so_far}
use Rattle.check_heads.specs.declared.counting.Counting.{Counting}
use Rattle.check_heads.specs.declared.counting.Progress.{Progress}

-- the path and the next value
abbrev pub counted : Scope → Option ℤ → Counted
counted scope next = record { scope = scope; next = next }

-- the value of a constant: its own, else the next one
abbrev pub value_in : Around → Scope → At → Option ℤ → Option Expr → Option ℤ
value_in cx scope at next None = next
value_in cx scope at next (Some e) = value_of (constants.constant cx scope at e)

-- what a value warns of
abbrev pub item_warned : Around → Scope → At → Option Expr → Verdict (List At)
item_warned cx scope at None = Stands []
item_warned cx scope at (Some e) =
    after (constants.constant cx scope at e) (λ it. Stands it.warned)

-- warnings behind others
abbrev pub warned_behind : List At → List At → List At
warned_behind xs ys = xs ++ ys

-- what constants warn of so far
abbrev pub warnings_view : Progress → Verdict (List At)
warnings_view it = so_far it.fell it.warned

-- what is known behind all constants, or why it isn't
abbrev pub Told : Verdict (List At) → Result Counting PartFault → Type 0
Told verdict (Ok it) = verdict ≡ warnings_view it.done
Told verdict (Err fault) = IsBroken verdict fault
