-- A function by its head and its body.
use Rattle.std.proofs.Common.{◌≡◌, ℕ, Result, Option, None, Some, refl, sym, ap, subst, ◌∙◌}
use Rattle.std.specs.Prelude.{IsErrAnd}
use Rattle.names_rules.specs.Verdict.{Verdict, both, faults_of}
use Rattle.types_rules.specs.Rule.{pair, unless_faults}
use Rattle.types_rules.specs.VariableParts.{Judged}
use Rattle.types_rules.specs.Stood.{Stood}
use Rattle.types_rules.specs.Params.{Headed}
use Rattle.types_rules.specs.Declarations.{Done}
use Rattle.pawn_verdict.specs.declared.fault.CheckFault.{CheckFault}
use Rattle.pawn_verdict.specs.Answers.{Fails}
use Rattle.pawn_verdict.proofs.VerdictLaws.{fails_first}
use Rattle.check_expressions.specs.JudgedView.{judged_view}
use Rattle.check_heads.specs.declared.headed.Headed as held_head
use Rattle.check_heads.specs.HeadedView.{headed_view}
use Rattle.check_locals.specs.declared.stood.Stood as held_stood
use Rattle.check_locals.specs.StoodView.{stood_view}
use Rattle.check_locals.specs.Tells.{Tells, told}
use Rattle.check_locals.proofs.ToldLaws.{fails_unless}
use Rattle.check_declarations.specs.declared.done_declarations.Done as held
use Rattle.check_declarations.specs.DoneView.{done_view}
use Rattle.check_declarations.proofs.ToldLaws.{exit_tells}

told_pair : {C : Type 0} (x : Option (Unit {0})) (y : Option held_stood.Stood) (node : Verdict C)
    → unless_faults (pair (told judged_view x) (told stood_view y)) node ≡ node
told_pair (Some x) (Some y) node = refl
told_pair (Some x) None node = refl
told_pair None (Some y) node = refl
told_pair None None node = refl

module _ (parts : Verdict Judged) (body : Verdict Stood) (head : Verdict Headed)
    (rule : ℕ → Headed → Stood → Verdict Done) (n : ℕ) where
  -- a function, judged where its parts have no fault
  abbrev pub whole : Verdict Done
  whole = unless_faults (pair parts body) (both head body (rule n))

  -- a part breaks a rule
  pub parts_fail : (result : Result (Option held.Done) CheckFault) (fault : CheckFault)
      → IsErrAnd result (λ it. it ≡ fault) → Fails (faults_of (pair parts body)) fault
      → Tells done_view whole result
  parts_fail result fault e h =
      exit_tells done_view whole result fault e
      (fails_unless (pair parts body) (both head body (rule n)) fault h)

  module _ (x : Option (Unit {0})) (y : Option held_stood.Stood)
      (is : parts ≡ told judged_view x) (by : body ≡ told stood_view y) where
    -- its parts have no fault
    judged_whole : whole ≡ both head body (rule n)
    judged_whole = rw (is, by) (told_pair x y (both head (told stood_view y) (rule n)))

    -- the head breaks a rule
    pub head_fails : (result : Result (Option held.Done) CheckFault) (fault : CheckFault)
        → IsErrAnd result (λ it. it ≡ fault) → Fails (faults_of head) fault
        → Tells done_view whole result
    head_fails result fault e h =
        let P : Verdict Done → Type 0 = λ w. Fails (faults_of w) fault in
        exit_tells done_view whole result fault e
        (subst P (sym judged_whole) (fails_first head body (rule n) fault h))

    -- both are joined
    pub joined_tells : (z : Option held_head.Headed) (m : ℕ)
        (result : Result (Option held.Done) CheckFault) → head ≡ told headed_view z → m ≡ n
        → Tells done_view (both (told headed_view z) (told stood_view y) (rule m)) result
        → Tells done_view whole result
    joined_tells z m result k e h =
        let P : Verdict Done → Type 0 = λ w. Tells done_view w result in
        let same : both (told headed_view z) (told stood_view y) (rule m)
        ≡ both head body (rule n) =
        rw (k, by, e) refl in
        subst P (same ∙ sym judged_whole) h
