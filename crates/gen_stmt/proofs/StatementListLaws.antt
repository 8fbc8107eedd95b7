-- Statements one behind another: what is left to be appended makes the whole.
use Rattle.std.proofs.Common.{◌≡◌, ◌+◌, ◌*◌, ◌<◌, ℕ, suc, List, ◌++◌, drop, get_or, length, add-one}
use Rattle.std.proofs.Common.{refl, sym, ap, subst, ◌∙◌, arith, append_assoc, append-nil}
use Rattle.std.proofs.Math.Seq.{drop-cons}
use Rattle.std.proofs.lemmas.List.{drop_all}
use Rattle.pawn_meaning.specs.Program.{no_stmts, then_stmt}
use Rattle.pawn_meaning.specs.View.{stmt_view, stmts_view}
use Rattle.pawn_meaning.specs.ValidStmts.{slots_made, slots_made_by}
use Rattle.pawn_meaning.specs.declared.node.Stmt.{Stmt}
use Rattle.gen_sim.specs.Items.{Item}
use Rattle.gen_sim.specs.Here.{Exits, behind}
use Rattle.gen_laws.specs.StmtCode.{stmt_items, stmts_items}
use Rattle.gen_stmt.specs.declared.draft.Draft.{Draft}
use Rattle.gen_stmt.specs.Grown.{Grown}
use Rattle.gen_stmt.proofs.GrownLaws.{grown_as, same_grown, part_grown}
use Rattle.gen_stmt.specs.declared.locals.Locals.{Locals}
use Rattle.gen_stmt.specs.declared.locals.Mark.{Mark}
use Rattle.gen_stmt.specs.declared.place.Place.{Place}
use Rattle.gen_stmt.specs.Standing.{here_in, Within}
use Rattle.gen_stmt.proofs.StandLaws.{behind_here}

-- those from a number on, with what is known behind those before it
pub record Left (place : Place) (since : Mark) (old now : Locals) (items : List Stmt) (i : ℕ)
    (b m : Draft) : Type 0 where
  pub within : Within place since now
  pub made : now.made.items ++ slots_made_by (stmts_view (drop i items))
      ≡ old.made.items ++ slots_made_by (stmts_view items)
  pub code : (r : Draft)
      → Grown m r (λ exits. stmts_items (here_in place now.made.items since.made exits)
      (4 * length m.code.code) (stmts_view (drop i items)))
      → Grown b r (λ exits. stmts_items (here_in place old.made.items since.made exits)
      (4 * length b.code.code) (stmts_view items))

pub all_left : (place : Place) (since : Mark) (old : Locals) (items : List Stmt) (b : Draft)
    → Within place since old → Left place since old old items 0 b b
all_left place since old items b h = record { within = h; made = refl; code = λ r g. g }

-- the first of those that are left
rest_is : (items : List Stmt) (i : ℕ) (s : Stmt) → i < length items → s ≡ get_or items i s
    → stmts_view (drop i items) ≡ then_stmt (stmt_view s) (stmts_view (drop (i + 1) items))
rest_is items i s within is =
    ap stmts_view (drop-cons items i s within)
    ∙ ap (λ x. then_stmt (stmt_view x) (stmts_view (drop (suc i) items))) (sym is)
    ∙ ap (λ k. then_stmt (stmt_view s) (stmts_view (drop k items))) (sym (add-one i))

pub one_less : (place : Place) (since : Mark) (old now new : Locals) (items : List Stmt) (i : ℕ)
    (s : Stmt) (b m n : Draft)
    → i < length items → s ≡ get_or items i s → Left place since old now items i b m
    → new.made.items ≡ now.made.items ++ slots_made (stmt_view s) → Within place since new
    → Grown m n (λ exits. stmt_items (here_in place now.made.items since.made exits)
    (4 * length m.code.code) (stmt_view s))
    → Left place since old new items (i + 1) b n
one_less place since old now new items i s b m n within is so_far em hn g =
    let rest = stmts_view (drop (i + 1) items) in
    let view = rest_is items i s within is in
    let made = slots_made (stmt_view s) in
    record {
      within = hn;
      made =
          ap (λ l. l ++ slots_made_by rest) em
          ∙ append_assoc now.made.items made (slots_made_by rest)
          ∙ ap (λ l. now.made.items ++ slots_made_by l) (sym view) ∙ so_far.made;
      code = λ r h.
          let later : Exits → ℕ → List Item =
          λ exits q. stmts_items (behind made
          (here_in place now.made.items since.made exits)) q rest in
          let there : Grown n r (λ exits. later exits (4 * length n.code.code)) =
          grown_as n r (λ exits. stmts_items (here_in place new.made.items since.made exits)
          (4 * length n.code.code) rest)
          (λ exits. later exits (4 * length n.code.code))
          (λ d exits.
          ap (λ l. stmts_items (here_in place l since.made exits) (4 * length n.code.code) rest) em
          ∙ ap (λ z. stmts_items z (4 * length n.code.code) rest)
          (sym (behind_here place now.made.items made since.made exits so_far.within.mark.0)))
          h in
          so_far.code r
          (subst (λ l. Grown m r (λ exits. stmts_items
          (here_in place now.made.items since.made exits) (4 * length m.code.code) l))
          (sym view)
          (part_grown m n r (λ exits. stmt_items (here_in place now.made.items since.made exits)
          (4 * length m.code.code) (stmt_view s)) later g there));
    }

pub none_left : (place : Place) (since : Mark) (old now : Locals) (items : List Stmt) (i : ℕ)
    (b m : Draft) → i ≡ length items
    → Left place since old now items i b m
    → (now.made.items ≡ old.made.items ++ slots_made_by (stmts_view items))
    × Grown b m (λ exits. stmts_items (here_in place old.made.items since.made exits)
    (4 * length b.code.code) (stmts_view items))
none_left place since old now items i b m e l =
    let none : stmts_view (drop i items) ≡ no_stmts =
    ap stmts_view (drop_all i items (omega (arith, e))) in (
      sym (append-nil now.made.items) ∙ ap (λ z. now.made.items ++ slots_made_by z) (sym none)
          ∙ l.made,
      l.code m (subst (λ z. Grown m m
          (λ exits. stmts_items (here_in place now.made.items since.made exits)
          (4 * length m.code.code) z)) (sym none)
          (same_grown m)),
    )
