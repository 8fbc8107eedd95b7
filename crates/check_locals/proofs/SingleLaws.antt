-- One statement where the program has room for one.
use Rattle.std.proofs.Common.{◌≡◌, ◌≢◌, true, false, List, [], ◌∷◌, ◌++◌, length, map, refl, ap}
use Rattle.std.proofs.Common.{arith, length-append}
use Rattle.pawn_meaning.specs.Program.{Stmt, Local, LocalArray, Block, Empty, no_stmts, then_stmt}
use Rattle.pawn_meaning.specs.Program as plain
use Rattle.pawn_meaning.specs.View.{stmt_view, stmts_view}
use Rattle.pawn_meaning.specs.declared.node.Stmt as held
use Rattle.pawn_meaning.proofs.ViewLaws.{stmt_view-Block}
use Rattle.types_rules.specs.Stood.{one}
use Rattle.check_locals.specs.Single.{is_variable}
use Rattle.check_locals.proofs.NodeLaws.{stmts_are}

pub of_variable : (s : Stmt) → is_variable s ≡ true → one (s ∷ []) ≡ Block (then_stmt s no_stmts)
of_variable (Local slot value) h = refl
of_variable (LocalArray slot object) h = refl
of_variable _ h = cc

pub of_other : (s : Stmt) → is_variable s ≡ false → one (s ∷ []) ≡ s
of_other (Local slot value) h = cc
of_other (LocalArray slot object) h = cc
of_other _ h = refl

pub ruleset alone = (of_variable, of_other, stmt_view-Block)

only_is : {A : Type 0} (all rest : List A) (x : A) → all ≡ rest ++ x ∷ [] → length all ≡ 1
    → all ≡ x ∷ []
only_is all [] x e h = e
only_is all (y ∷ rest) x e h =
    absurd (omega (arith, h, ap length e, length-append (y ∷ rest) (x ∷ [])))

pub of_one : (all rest : List held.Stmt) (s : held.Stmt) → all ≡ rest ++ s ∷ [] → length all ≡ 1
    → one (map stmt_view all) ≡ one (stmt_view s ∷ [])
of_one all rest s e h =
    ap (λ (ss : List held.Stmt). one (map stmt_view ss)) (only_is all rest s e h)

pub of_none : (ss : List held.Stmt) → length ss ≡ 0 → one (map stmt_view ss) ≡ Empty
of_none [] h = refl
of_none (s ∷ ss) h = absurd (omega (arith, h))

pub of_many : (ss : List held.Stmt) → length ss ≢ 0 → length ss ≢ 1
    → one (map stmt_view ss) ≡ Block (stmts_view ss)
of_many [] h k = absurd (h refl)
of_many (s ∷ []) h k = absurd (k refl)
of_many (s ∷ next ∷ more) h k = ap (λ (ss : plain.Stmts). Block ss) (stmts_are (s ∷ next ∷ more))

pub ruleset any = (of_none, of_many, stmt_view-Block)
