-- Names break four rules alone: an occurrence has a declaration, a name stands once in a block,
-- and a constant that is wanted is constant and doesn't divide by zero.
use Rattle.std.specs.Prelude.{◌≡◌, ℕ, Bool, true, ◌||◌, List, nat_eq}
use Rattle.std.specs.List.{list_all}
use Rattle.pawn_tree.specs.Declarations.{Tree}
use Rattle.names_rules.specs.Verdict.{Fault}
use Rattle.names_rules.specs.Faults.{faults}

-- the number of one of the four
abbrev pub is_rule : ℕ → Bool
is_rule kind = nat_eq kind 50 || nat_eq kind 51 || nat_eq kind 57 || nat_eq kind 67

-- each fault is of one of the four
abbrev pub AreRules : List Fault → Type 0
AreRules these = list_all (λ fault. is_rule fault.kind) these ≡ true

-- all faults of names in a tree
abbrev pub FaultKinds : Type 0
FaultKinds = (tree : Tree) → AreRules (faults tree)
