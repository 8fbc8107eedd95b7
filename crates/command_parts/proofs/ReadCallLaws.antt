-- Calls that only read, one behind another.
use Rattle.std.proofs.Common.{◌≡◌, ◌∙◌, ℕ, List, Option, Result, Ok, Err, inl, inr, sym, ap}
use Rattle.std.proofs.Common.{subst, IsErrAnd}
use Rattle.std.proofs.lemmas.Result.{err_from_is_err_and}
use Rattle.pawn_outside.specs.Held.{Held}
use Rattle.pawn_outside.specs.Rose.{risen}
use Rattle.pawn_outside.specs.OnlyRead.{OnlyRead}
use Rattle.pawn_outside.proofs.OnlyReadLaws.{read_as, read_then}
use Rattle.command_parts.specs.declared.stop.Stop.{Stop}
use Rattle.command_parts.specs.declared.stop.Stop.TheVariants.{NoFile, TooLarge, FileFault}
use Rattle.command_parts.specs.Unread.{IsStopOf}

module _ {F : Type 0} {held : F → Option Held} {faults : F → ℕ} {never_fails : F → Type 0}
    {old new : F} where
  -- by another answer, which is a fault where this one is and nowhere else
  pub only_read : {First Fails : Type 0} → held new ≡ held old
      → ((First → ⊥) → faults new ≡ faults old)
      → (First → faults new ≡ risen (faults old))
      → (never_fails old → never_fails new × (First → ⊥)) → (Fails → First) → (First → Fails)
      → OnlyRead held faults never_fails old new Fails
  only_read same steady cause unfailing f back = record {
    same = same;
    steady = λ none. steady (λ first. none (back first));
    cause = λ fails. cause (f fails);
    unfailing = λ never. ((unfailing never).0, λ fails. (unfailing never).1 (f fails));
  }

  -- a stop that is handed on
  pub only_handed : {T U : Type 0} {made : Result T Stop} {stop : Stop} (result : Result U Stop)
      → IsErrAnd result (λ given. given ≡ stop) → made ≡ Err stop
      → OnlyRead held faults never_fails old new (made ≡ Err FileFault)
      → OnlyRead held faults never_fails old new (result ≡ Err FileFault)
  only_handed {stop = stop} result handed_on fails it =
      let p = err_from_is_err_and result handed_on in
      let is : result ≡ Err p.0 = p.1 in
      let same : p.0 ≡ stop = p.2 in
      read_as (λ e. fails ∙ ap Err (cc (is, same, e))) (λ e. cc (is, same, fails, e)) it

  -- another answer, which is no fault either
  pub only_other : {T E Fails : Type 0} {t : T} {fault : E} → (Fails → ⊥)
      → OnlyRead held faults never_fails old new (Ok t ≡ Err fault)
      → OnlyRead held faults never_fails old new Fails
  only_other never it = read_as (λ fails. absurd (never fails)) (λ e. absurd (cc e)) it

  -- a call behind another that was good
  pub only_then : {last : F} {T E Fails : Type 0} {t : T} {fault : E}
      → OnlyRead held faults never_fails old new (Ok t ≡ Err fault)
      → OnlyRead held faults never_fails new last Fails
      → OnlyRead held faults never_fails old last Fails
  only_then first second =
      read_then (read_as (λ never. absurd never) (λ e. absurd (cc e)) first) second

-- what holds of a stop holds where it is handed on
pub handed : {T : Type 0} {stop : Stop} (P : Result T Stop → Type 0) (result : Result T Stop)
    → IsErrAnd result (λ given. given ≡ stop) → P (Err stop) → P result
handed P result handed_on it =
    let p = err_from_is_err_and result handed_on in subst P (sym (p.1 ∙ ap Err p.2)) it

-- ---- stops that are no fault of the files

pub missing_no_fault : (name : List ℕ) (stop : Stop) → IsStopOf (NoFile name) stop
    → stop ≡ FileFault → ⊥
missing_no_fault name stop (inl e) f = absurd (cc (e, f))
missing_no_fault name stop (inr e) f = absurd (cc (e, f))

pub too_large_no_fault : (name : List ℕ) (stop : Stop) → IsStopOf (TooLarge name) stop
    → stop ≡ FileFault → ⊥
too_large_no_fault name stop (inl e) f = absurd (cc (e, f))
too_large_no_fault name stop (inr e) f = absurd (cc (e, f))
