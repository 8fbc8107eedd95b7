-- What was told of the elements of a list that were taken so far.
use Rattle.std.proofs.Common.{◌≡◌, ◌<◌, ◌≤◌, ℕ, suc, ◌+◌, List, [], ◌∷◌, ◌++◌, map, drop, length}
use Rattle.std.proofs.Common.{get_or, refl, sym, ap, ◌∙◌, subst, arith}
use Rattle.std.proofs.lemmas.List.{drop_all, length_push}
use Rattle.names_rules.specs.Verdict.{Verdict, Stands, Breaks, faults_of, after, both}
use Rattle.pawn_verdict.specs.declared.fault.CheckFault.{CheckFault}
use Rattle.pawn_verdict.specs.Answers.{Fails}
use Rattle.check_locals.specs.Rows.{joined, Walked}
use Rattle.check_locals.proofs.RowLaws.{walked_begins, walked_more, walked_fails, walked_all}
use Rattle.check_locals.proofs.VarLaws.{seen_from}

-- what a list is by its elements, one behind another
pub record IsRow {A B : Type 0} (join : A → A → A) (none : A) (one : B → Verdict A)
    (from : List B → Verdict A) : Type 0 where
  pub assoc : (x y z : A) → join x (join y z) ≡ join (join x y) z
  pub first : (x : A) → join none x ≡ x
  pub last : (x : A) → join x none ≡ x
  pub base : from [] ≡ Stands none
  pub step : (x : B) (xs : List B) → from (x ∷ xs) ≡ joined join (one x) (from xs)

module _ {A B X : Type 0} (join : A → A → A) (none : A) (one : B → Verdict A)
    (from : List B → Verdict A) (view : X → B) (row : IsRow join none one from) (all : List X) where
  pub record Taken (i : ℕ) (done : Verdict A) : Type 0 where
    pub walked : Walked join (from (map view all)) done (from (map view (drop i all)))

  pub taken_begins : Taken 0 (Stands none)
  taken_begins = record { walked = walked_begins join none row.first (from (map view all)) }

  rest_is : (i : ℕ) (x : X) → i < length all → x ≡ get_or all i x
      → from (map view (drop i all))
      ≡ joined join (one (view x)) (from (map view (drop (i + 1) all)))
  rest_is i x l e =
      ap from (seen_from view all i x l e) ∙ row.step (view x) (map view (drop (i + 1) all))

  pub taken_more : (i : ℕ) (x : X) (done it next : Verdict A) → Taken i done → i < length all
      → x ≡ get_or all i x
      → one (view x) ≡ it → next ≡ joined join done it → Taken (i + 1) next
  taken_more i x done it next h l e v n = record {
    walked = walked_more join row.assoc _ done it (from (map view (drop (i + 1) all))) next
        (record {
          same = h.walked.same ∙ ap (λ (w : Verdict A). joined join done w) (rest_is i x l e
              ∙ ap (λ (w : Verdict A). joined join w (from (map view (drop (i + 1) all)))) v);
        }) n;
  }

  pub taken_fails : (i : ℕ) (x : X) (done : Verdict A) (fault : CheckFault) → Taken i done
      → i < length all → x ≡ get_or all i x
      → Fails (faults_of (one (view x))) fault → Fails (faults_of (from (map view all))) fault
  taken_fails i x done fault h l e f =
      walked_fails join _ done (one (view x)) (from (map view (drop (i + 1) all))) fault
      (record {
        same = h.walked.same
            ∙ ap (λ (w : Verdict A). joined join done w) (rest_is i x l e);
      }) f

  pub taken_all : (i : ℕ) (done : Verdict A) → Taken i done → length all ≤ i
      → from (map view all) ≡ done
  taken_all i done h l =
      walked_all join none row.last _ done
      (record {
        same = h.walked.same
            ∙ ap (λ (w : Verdict A). joined join done w)
            (ap (λ xs. from (map view xs)) (drop_all i all l) ∙ row.base);
      })

  -- the same by the elements that a loop has yielded
  pub yielded_more : (xs : List X) (x : X) (done it next : Verdict A) → Taken (length xs) done
      → (length xs < length all) × (x ≡ get_or all (length xs) x) → one (view x) ≡ it
      → next ≡ joined join done it → Taken (length (xs ++ x ∷ [])) next
  yielded_more xs x done it next h turn v n =
      subst (λ i. Taken i next) (sym (length_push xs x))
      (taken_more (length xs) x done it next h turn.0 turn.1 v n)
