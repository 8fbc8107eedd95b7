-- A walk over a list that gives an element for each.
use Rattle.std.proofs.Common.{◌≡◌, List, [], ◌∷◌, ◌++◌, refl, sym, ap, ◌∙◌, append_assoc}
use Rattle.names_rules.specs.Verdict.{Verdict, Stands, Breaks, Fault, faults_of, after, both}
use Rattle.pawn_verdict.specs.declared.fault.CheckFault.{CheckFault}
use Rattle.pawn_verdict.specs.Answers.{Fails}
use Rattle.pawn_verdict.proofs.VerdictLaws.{fails_first, fails_second}
use Rattle.check_locals.specs.Rows.{joined, Walked}

module _ {A : Type 0} where
  abbrev one_on : Verdict (List A) → Verdict A → Verdict (List A)
  one_on done v = both done v (λ ys y. Stands (ys ++ y ∷ []))

  abbrev one_before : Verdict A → Verdict (List A) → Verdict (List A)
  one_before v rest = both v rest (λ y ys. Stands (y ∷ ys))

  faults_before : (v : Verdict A) (w : Verdict (List A))
      → faults_of (one_before v w) ≡ faults_of v ++ faults_of w
  faults_before (Stands x) (Stands y) = refl
  faults_before (Stands x) (Breaks faults) = refl
  faults_before (Breaks faults) w = refl

  turned : (u : Verdict (List A)) (v : Verdict A) (w : Verdict (List A))
      → joined (λ x y. x ++ y) u (one_before v w) ≡ joined (λ x y. x ++ y) (one_on u v) w
  turned (Stands xs) (Stands y) (Stands ys) =
      ap (λ it. Stands it) (sym (append_assoc xs (y ∷ []) ys))
  turned (Stands xs) (Stands y) (Breaks faults) = refl
  turned (Stands xs) (Breaks faults) w = refl
  turned (Breaks faults) v w =
      ap (λ fs. Breaks (faults ++ fs)) (faults_before v w)
      ∙ ap (λ fs. Breaks fs) (sym (append_assoc faults (faults_of v) (faults_of w)))

  pub cons_more : (whole done : Verdict (List A)) (v : Verdict A) (rest next : Verdict (List A))
      → Walked (λ x y. x ++ y) whole done (both v rest (λ y ys. Stands (y ∷ ys)))
      → next ≡ both done v (λ ys y. Stands (ys ++ y ∷ [])) → Walked (λ x y. x ++ y) whole next rest
  cons_more whole done v rest next h e =
      record {
        same = h.same ∙ turned done v rest
            ∙ ap (λ (d : Verdict (List A)). joined (λ x y. x ++ y) d rest) (sym e);
      }

  pub cons_fails : (whole done : Verdict (List A)) (v : Verdict A) (rest : Verdict (List A))
      (fault : CheckFault)
      → Walked (λ x y. x ++ y) whole done (both v rest (λ y ys. Stands (y ∷ ys)))
      → Fails (faults_of v) fault → Fails (faults_of whole) fault
  cons_fails whole done v rest fault h k =
      rw h.same (fails_second done (one_before v rest) (λ x y. Stands (x ++ y)) fault
      (fails_first v rest (λ y ys. Stands (y ∷ ys)) fault k))
