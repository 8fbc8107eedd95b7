use Rattle.std.proofs.Common.{◌≡◌, ◌++◌, map}
use Rattle.pawn_base.proofs.name_table.Names.into_list.Given as goal

abbrev pub invariant-loop-name : goal.invariant-loop-name
invariant-loop-name l = l.list ++ map (λ name. name.items) l.name-iterator ≡ l.fn.self
