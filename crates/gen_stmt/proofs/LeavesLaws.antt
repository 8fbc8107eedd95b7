-- Whether one of those statements leaves that stand from a number on.
use Rattle.std.proofs.Common.{◌≡◌, ◌+◌, ◌<◌, ℕ, suc, true, false, ◌||◌, List, drop, get_or, length}
use Rattle.std.proofs.Common.{add-one, refl, sym, ap, ◌∙◌, arith}
use Rattle.std.proofs.Math.Seq.{drop-cons}
use Rattle.std.proofs.lemmas.List.{drop_all}
use Rattle.pawn_meaning.specs.View.{stmt_view, stmts_view}
use Rattle.pawn_meaning.specs.declared.node.Stmt.{Stmt}
use Rattle.gen_laws.specs.GoesOn.{leaves, list_leaves}

step : (items : List Stmt) (i : ℕ) (s : Stmt) → i < length items → s ≡ get_or items i s
    → list_leaves (stmts_view (drop i items))
    ≡ leaves (stmt_view s) || list_leaves (stmts_view (drop (i + 1) items))
step items i s within is =
    ap (λ l. list_leaves (stmts_view l)) (drop-cons items i s within)
    ∙ ap (λ x. leaves (stmt_view x) || list_leaves (stmts_view (drop (suc i) items))) (sym is)
    ∙ ap (λ k. leaves (stmt_view s) || list_leaves (stmts_view (drop k items))) (sym (add-one i))

-- the first of them does
pub leaves_here : (items : List Stmt) (i : ℕ) (s : Stmt) → i < length items → s ≡ get_or items i s
    → leaves (stmt_view s) ≡ true → list_leaves (stmts_view (drop i items)) ≡ true
leaves_here items i s within is e = step items i s within is ∙ rw e refl

-- it doesn't, so one of the others
pub leaves_later : (items : List Stmt) (i : ℕ) (s : Stmt) → i < length items → s ≡ get_or items i s
    → leaves (stmt_view s) ≡ false
    → list_leaves (stmts_view (drop i items)) ≡ list_leaves (stmts_view (drop (i + 1) items))
leaves_later items i s within is e = step items i s within is ∙ rw e refl

-- none is left
pub leaves_nowhere : (items : List Stmt) (i : ℕ) → i ≡ length items
    → list_leaves (stmts_view (drop i items)) ≡ false
leaves_nowhere items i e =
    ap (λ l. list_leaves (stmts_view l)) (drop_all i items (omega (arith, e)))
