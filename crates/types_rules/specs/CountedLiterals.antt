-- An expression that stands has as many literals as are counted in its tree: so the count before
-- each node is the number of objects there.
use Rattle.std.specs.Prelude.{◌≡◌, ℕ, length}
use Rattle.pawn_tree.specs.Expressions.{Expr}
use Rattle.names_rules.specs.Verdict.{Stands}
use Rattle.types_rules.specs.Typed.{Typed}
use Rattle.types_rules.specs.Around.{Around}
use Rattle.types_rules.specs.Scope.{Scope}
use Rattle.types_rules.specs.Literals.{literals}
use Rattle.types_rules.specs.Expressions.{expr}

-- typing makes the literals that the tree has
abbrev pub LiteralsAreCounted : Type 0
LiteralsAreCounted =
    (cx : Around) (scope : Scope) (before : ℕ) (e : Expr) (x : Typed)
    → expr cx scope before e ≡ Stands x → length x.literals ≡ literals e
