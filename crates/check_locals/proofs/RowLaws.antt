-- How a walk over a list tells of the whole.
use Rattle.std.proofs.Common.{◌≡◌, List, [], ◌∷◌, ◌++◌, refl, sym, ap, ◌∙◌, append_assoc}
use Rattle.names_rules.specs.Verdict.{Verdict, Stands, Breaks, Fault, faults_of}
use Rattle.pawn_verdict.specs.declared.fault.CheckFault.{CheckFault}
use Rattle.pawn_verdict.specs.Answers.{Fails}
use Rattle.pawn_verdict.proofs.VerdictLaws.{fails_first, fails_second}
use Rattle.check_locals.specs.Rows.{joined, Walked}

module _ {A : Type 0} (join : A → A → A) where
  faults_joined : (v w : Verdict A) → faults_of (joined join v w) ≡ faults_of v ++ faults_of w
  faults_joined (Stands x) (Stands y) = refl
  faults_joined (Stands x) (Breaks faults) = refl
  faults_joined (Breaks faults) w = refl

  module _ (assoc : (x y z : A) → join x (join y z) ≡ join (join x y) z) where
    joined_assoc : (u v w : Verdict A)
        → joined join u (joined join v w) ≡ joined join (joined join u v) w
    joined_assoc (Stands x) (Stands y) (Stands z) = ap (λ it. Stands it) (assoc x y z)
    joined_assoc (Stands x) (Stands y) (Breaks faults) = refl
    joined_assoc (Stands x) (Breaks faults) w = refl
    joined_assoc (Breaks faults) v w =
        ap (λ fs. Breaks (faults ++ fs)) (faults_joined v w)
        ∙ ap (λ fs. Breaks fs) (sym (append_assoc faults (faults_of v) (faults_of w)))

    pub walked_more : (whole done v rest next : Verdict A)
        → Walked join whole done (joined join v rest)
        → next ≡ joined join done v → Walked join whole next rest
    walked_more whole done v rest next h e =
        record {
          same = h.same ∙ joined_assoc done v rest
              ∙ ap (λ (d : Verdict A). joined join d rest) (sym e);
        }

  starts : (none : A) → ((x : A) → join none x ≡ x) → (v : Verdict A)
      → v ≡ joined join (Stands none) v
  starts none unit (Stands x) = ap (λ it. Stands it) (sym (unit x))
  starts none unit (Breaks faults) = refl

  pub walked_begins : (none : A) → ((x : A) → join none x ≡ x) → (whole : Verdict A)
      → Walked join whole (Stands none) whole
  walked_begins none unit whole = record { same = starts none unit whole }

  ends : (none : A) → ((x : A) → join x none ≡ x) → (v : Verdict A)
      → joined join v (Stands none) ≡ v
  ends none unit (Stands x) = ap (λ it. Stands it) (unit x)
  ends none unit (Breaks faults) = ap (λ fs. Breaks fs) (no_more faults)
    where
      no_more : (fs : List Fault) → fs ++ [] ≡ fs
      no_more [] = refl
      no_more (f ∷ fs) = ap (λ more. f ∷ more) (no_more fs)

  pub walked_all : (none : A) → ((x : A) → join x none ≡ x) → (whole done : Verdict A)
      → Walked join whole done (Stands none) → whole ≡ done
  walked_all none unit whole done h = h.same ∙ ends none unit done

  pub walked_fails : (whole done v rest : Verdict A) (fault : CheckFault)
      → Walked join whole done (joined join v rest)
      → Fails (faults_of v) fault → Fails (faults_of whole) fault
  walked_fails whole done v rest fault h k =
      rw h.same (fails_second done (joined join v rest) (λ x y. Stands (join x y)) fault
      (fails_first v rest (λ x y. Stands (join x y)) fault k))
