-- At most one set of pairs stands for a tree, and none where a node breaks a rule.
use Rattle.std.proofs.Common.{◌≡◌, ◌<◌, ℕ, [], refl, sym, ◌∙◌, subst, arith}
use Rattle.std.specs.List.{Contains}
use Rattle.pawn_cells.specs.declared.place.Place.{Place}
use Rattle.pawn_tree.specs.Declarations.{Tree}
use Rattle.names_rules.specs.Verdict.{Fault}
use Rattle.names_rules.specs.Resolves.{Names, Resolves, Breaks}

same_names : (a b : Names) → a.uses ≡ b.uses → a.values ≡ b.values → a ≡ b
same_names a b u v = rw (u, v) refl

pub one_names : (tree : Tree) (names other : Names) → Resolves tree names → Resolves tree other
    → names ≡ other
one_names tree names other a b =
    same_names names other (a.uses ∙ sym b.uses) (a.values ∙ sym b.values)

none_in : (fault : Fault) → Contains [] fault → ⊥
none_in fault x = let lt : x.0 < 0 = x.1 in omega arith

pub resolved_is_whole : (tree : Tree) (names : Names) (kind : ℕ) (place : Place)
    → Resolves tree names → Breaks tree kind place → ⊥
resolved_is_whole tree names kind place a b =
    none_in (record { kind = kind; place = place })
    (subst (λ faults. Contains faults (record { kind = kind; place = place })) a.whole b)
