-- What is known behind a block or a loop, of the locals.
use Rattle.std.proofs.Common.{◌≡◌, ◌++◌, ℕ, List, [], length, take, sym, ap, ◌∙◌, append-nil}
use Rattle.std.proofs.Common.{Result, Ok, Err, IfOk}
use Rattle.pawn_meaning.specs.Program.{Stmt}
use Rattle.pawn_meaning.specs.ValidStmts.{slots_made}
use Rattle.gen_laws.specs.StmtCode.{stmt_items}
use Rattle.gen_stmt.specs.declared.draft.Draft.{Draft}
use Rattle.gen_stmt.specs.Grown.{Grown}
use Rattle.gen_stmt.specs.declared.locals.Locals.{Locals}
use Rattle.gen_stmt.specs.declared.locals.Mark.{Mark}
use Rattle.gen_stmt.specs.declared.place.Place.{Place}
use Rattle.gen_stmt.specs.Standing.{here_in, Stands, Within}
use Rattle.gen_stmt.proofs.OkLaws.{as_ok}
use Rattle.gen_stmt.proofs.StandLaws.{within_same, back_to}

-- a statement that makes no slot
pub none_made : {E : Type 0} (r : Result Draft E) (old new : List ℕ) (s z : Stmt) → s ≡ z
    → slots_made z ≡ [] → IfOk r (λ x. new ≡ old)
    → IfOk r (λ x. new ≡ old ++ slots_made s)
none_made (Ok x) old new s z e n same =
    same ∙ sym (append-nil old) ∙ ap (λ l. old ++ l) (sym n) ∙ ap (λ y. old ++ slots_made y) (sym e)
none_made (Err fault) old new s z e n same = same

-- the code of a statement, as it is seen
pub seen_code : {E : Type 0} (r : Result Draft E) (place : Place) (made : List ℕ) (since p : ℕ)
    (b : Draft) (s z : Stmt) → s ≡ z
    → IfOk r (λ x. Grown b x (λ exits. stmt_items (here_in place made since exits) p z))
    → IfOk r (λ x. Grown b x (λ exits. stmt_items (here_in place made since exits) p s))
seen_code r place made since p b s z e g =
    as_ok r b (λ exits. stmt_items (here_in place made since exits) p z)
    (λ exits. stmt_items (here_in place made since exits) p s)
    (λ exits. ap (λ y. stmt_items (here_in place made since exits) p y) (sym e)) g

module _ (place : Place) (old mid : Locals) (mark : Mark) (more : List ℕ) (h : Stands place old)
    (e : mark ≡ record { made = length old.made.items; cells = old.cells })
    (m : mid.made.items ≡ old.made.items ++ more) where
  pub back_ok : {E : Type 0} (r : Result Draft E) (new : List ℕ)
      → IfOk r (λ x. new ≡ take mark.made mid.made.items) → IfOk r (λ x. new ≡ old.made.items)
  back_ok (Ok x) new n = back_to place old mid mark more h e m new n
  back_ok (Err fault) new n = n

  pub within_ok : {E : Type 0} (r : Result Draft E) (since : Mark) (new : Locals)
      → Within place since old → IfOk r (λ x. Stands place new)
      → IfOk r (λ x. new.made.items ≡ take mark.made mid.made.items)
      → IfOk r (λ x. Within place since new)
  within_ok (Ok x) since new w s n =
      within_same place since old new w s (back_to place old mid mark more h e m new.made.items n)
  within_ok (Err fault) since new w s n = s

-- with what stood there before
pub same_within_ok : {E : Type 0} (r : Result Draft E) (place : Place) (since : Mark)
    (old new : Locals) → Within place since old
    → IfOk r (λ x. Stands place new) → IfOk r (λ x. new.made.items ≡ old.made.items)
    → IfOk r (λ x. Within place since new)
same_within_ok (Ok x) place since old new w s e = within_same place since old new w s e
same_within_ok (Err fault) place since old new w s e = s
