-- The statements of a block and the cases of a `switch`, one by one.
use Rattle.std.proofs.Common.{◌≡◌, ◌<◌, ℕ, ◌+◌, Bool, List, [], ◌∷◌, ◌++◌, map, drop, length}
use Rattle.std.proofs.Common.{get_or, refl, sym, ap, ◌∙◌, arith, append_assoc}
use Rattle.std.proofs.lemmas.List.{append-nil}
use Rattle.pawn_tree.specs.Statements as tree
use Rattle.pawn_tree.specs.Statements.{stmts, cases}
use Rattle.pawn_tree.specs.View.{stmt_view, case_view}
use Rattle.pawn_tree.specs.declared.statement.Stmt as held
use Rattle.pawn_tree.specs.declared.statement.Case as held_case
use Rattle.names_rules.specs.Verdict.{Verdict, Stands, faults_of, both}
use Rattle.pawn_verdict.specs.declared.fault.CheckFault.{CheckFault}
use Rattle.pawn_verdict.specs.Answers.{Fails}
use Rattle.types_rules.specs.Counts.{objects_in_case, slots_in_case, objects_in_cases}
use Rattle.types_rules.specs.Counts.{slots_in_cases}
use Rattle.types_rules.specs.Points.{Point, beyond}
use Rattle.types_rules.specs.Stood.{Stood, stood_behind, nothing_stood}
use Rattle.types_rules.specs.Statements.{CasePart}
use Rattle.check_locals.specs.Rows.{joined, Walked}
use Rattle.check_locals.proofs.RowLaws.{walked_begins, walked_more, walked_fails, walked_all}
use Rattle.check_locals.proofs.VarLaws.{seen_from, seen_none, stood_assoc, nothing_first}
use Rattle.check_locals.proofs.VarLaws.{nothing_last}
use Rattle.check_switches.proofs.ConsLaws.{cons_more, cons_fails}
use Rattle.check_statements.specs.declared.setting.Setting.{Setting}
use Rattle.check_statements.proofs.PointLaws.{beyond_none}
use Rattle.check_statements.specs.BodyJudging.{behind_all, behind_in, stmt_in}
use Rattle.check_statements.specs.BodyJudging.{block_in, one_case_in}
use Rattle.check_statements.specs.BodyJudging.{cases_in}
use Rattle.check_statements.proofs.PlaceLaws.{beyond_then}

module _ (it : Setting) (in_loop : Bool) where
  -- the statements from the one with a number on
  abbrev pub block_from : Point → List held.Stmt → ℕ → Verdict Stood
  block_from p xs i = block_in it p in_loop (stmts (map stmt_view (drop i xs)))

  abbrev pub behind_from : Point → List held.Stmt → ℕ → Point
  behind_from p xs i = behind_all (behind_in it) p (stmts (map stmt_view (drop i xs)))

  -- how far code is: what was told, and the place
  pub record BlockSo (old now : Point) (xs : List held.Stmt) (i : ℕ)
      (done : Verdict Stood) : Type 0 where
    pub walked : Walked stood_behind (block_from old xs 0) done (block_from now xs i)
    pub place : behind_from now xs i ≡ behind_from old xs 0

  pub block_begins : (old : Point) (xs : List held.Stmt)
      → BlockSo old old xs 0 (Stands nothing_stood)
  block_begins old xs = record {
    walked = walked_begins stood_behind nothing_stood nothing_first (block_from old xs 0);
    place = refl;
  }

  block_at : (p : Point) (xs : List held.Stmt) (i : ℕ) (x : held.Stmt) → i < length xs
      → x ≡ get_or xs i x
      → block_from p xs i ≡ joined stood_behind (stmt_in it p in_loop (stmt_view x))
      (block_from (behind_in it p (stmt_view x)) xs (i + 1))
  block_at p xs i x l e =
      ap (λ ss. block_in it p in_loop (stmts ss)) (seen_from stmt_view xs i x l e)

  place_at : (p : Point) (xs : List held.Stmt) (i : ℕ) (x : held.Stmt) → i < length xs
      → x ≡ get_or xs i x
      → behind_from p xs i ≡ behind_from (behind_in it p (stmt_view x)) xs (i + 1)
  place_at p xs i x l e =
      ap (λ ss. behind_all (behind_in it) p (stmts ss)) (seen_from stmt_view xs i x l e)

  pub block_more : (old p q : Point) (xs : List held.Stmt) (i : ℕ) (x : held.Stmt)
      (done told next : Verdict Stood) → BlockSo old p xs i done
      → i < length xs → x ≡ get_or xs i x → stmt_in it p in_loop (stmt_view x) ≡ told
      → q ≡ behind_in it p (stmt_view x)
      → next ≡ joined stood_behind done told → BlockSo old q xs (i + 1) next
  block_more old p q xs i x done told next h l e v b n = record {
    walked = walked_more stood_behind stood_assoc _ done told (block_from q xs (i + 1)) next
        (record {
          same =
              h.walked.same ∙ ap (λ (w : Verdict Stood). joined stood_behind done w)
              (block_at p xs i x l e
              ∙ rw (v, b) refl);
        }) n;
    place = rw b (sym (place_at p xs i x l e)) ∙ h.place;
  }

  pub block_fails : (old p : Point) (xs : List held.Stmt) (i : ℕ) (x : held.Stmt)
      (done : Verdict Stood) (fault : CheckFault) → BlockSo old p xs i done
      → i < length xs → x ≡ get_or xs i x
      → Fails (faults_of (stmt_in it p in_loop (stmt_view x))) fault
      → Fails (faults_of (block_from old xs 0)) fault
  block_fails old p xs i x done fault h l e f =
      walked_fails stood_behind _ done (stmt_in it p in_loop (stmt_view x))
      (block_from (behind_in it p (stmt_view x)) xs (i + 1)) fault
      (record {
        same = h.walked.same
            ∙ ap (λ (w : Verdict Stood). joined stood_behind done w) (block_at p xs i x l e);
      }) f

  none_blocked : (p : Point) (xs : List held.Stmt) (i : ℕ) → length xs < i + 1
      → block_from p xs i ≡ Stands nothing_stood
  none_blocked p xs i l = ap (λ ss. block_in it p in_loop (stmts ss)) (seen_none stmt_view xs i l)

  none_placed : (p : Point) (xs : List held.Stmt) (i : ℕ) → length xs < i + 1
      → behind_from p xs i ≡ p
  none_placed p xs i l =
      ap (λ ss. behind_all (behind_in it) p (stmts ss)) (seen_none stmt_view xs i l)

  pub block_all : (old now : Point) (xs : List held.Stmt) (i : ℕ) (done : Verdict Stood)
      → BlockSo old now xs i done → length xs < i + 1
      → (block_from old xs 0 ≡ done) × (now ≡ behind_from old xs 0)
  block_all old now xs i done h l = (
    walked_all stood_behind nothing_stood nothing_last _ done
        (record {
          same = h.walked.same
              ∙ ap (λ (w : Verdict Stood). joined stood_behind done w) (none_blocked now xs i l);
        }),
    sym (none_placed now xs i l) ∙ h.place,
  )

  -- ---- cases

  abbrev pub cases_from : Point → List held_case.Case → ℕ → Verdict (List CasePart)
  cases_from p xs i = cases_in it p in_loop (cases (map case_view (drop i xs)))

  -- behind the cases from the one with a number on
  abbrev pub past_cases : Point → List held_case.Case → ℕ → Point
  past_cases p xs i =
      beyond p (objects_in_cases (cases (map case_view (drop i xs))))
      (slots_in_cases (cases (map case_view (drop i xs))))

  pub record CasesSo (old now : Point) (xs : List held_case.Case) (i : ℕ)
      (done : Verdict (List CasePart)) : Type 0 where
    pub walked : Walked (λ x y. x ++ y) (cases_from old xs 0) done (cases_from now xs i)
    pub place : past_cases now xs i ≡ past_cases old xs 0

  pub cases_begin : (old : Point) (xs : List held_case.Case) → CasesSo old old xs 0 (Stands [])
  cases_begin old xs = record {
    walked = walked_begins (λ x y. x ++ y) [] (λ x. refl) (cases_from old xs 0);
    place = refl;
  }

  abbrev behind_case : Point → held_case.Case → Point
  behind_case p x = beyond p (objects_in_case (case_view x)) (slots_in_case (case_view x))

  cases_at : (p : Point) (xs : List held_case.Case) (i : ℕ) (x : held_case.Case) → i < length xs
      → x ≡ get_or xs i x
      → cases_from p xs i ≡ both (one_case_in it p in_loop (case_view x))
      (cases_from (behind_case p x) xs (i + 1)) (λ y more. Stands (y ∷ more))
  cases_at p xs i x l e =
      ap (λ cs. cases_in it p in_loop (cases cs)) (seen_from case_view xs i x l e)

  past_at : (p : Point) (xs : List held_case.Case) (i : ℕ) (x : held_case.Case) → i < length xs
      → x ≡ get_or xs i x
      → past_cases p xs i ≡ past_cases (behind_case p x) xs (i + 1)
  past_at p xs i x l e =
      ap (λ cs. beyond p (objects_in_cases (cases cs)) (slots_in_cases (cases cs)))
      (seen_from case_view xs i x l e)
      ∙ sym (beyond_then p _ _ _ _)

  pub cases_more : (old p q : Point) (xs : List held_case.Case) (i : ℕ) (x : held_case.Case)
      (done : Verdict (List CasePart)) (told : Verdict CasePart) (next : Verdict (List CasePart))
      → CasesSo old p xs i done
      → i < length xs → x ≡ get_or xs i x → one_case_in it p in_loop (case_view x) ≡ told
      → q ≡ behind_case p x
      → next ≡ both done told (λ ys y. Stands (ys ++ y ∷ [])) → CasesSo old q xs (i + 1) next
  cases_more old p q xs i x done told next h l e v b n = record {
    walked = cons_more _ done told (cases_from q xs (i + 1)) next
        (record {
          same =
              h.walked.same ∙ ap (λ (w : Verdict (List CasePart)). joined (λ x y. x ++ y) done w)
              (cases_at p xs i x l e
              ∙ rw (v, b) refl);
        }) n;
    place = rw b (sym (past_at p xs i x l e)) ∙ h.place;
  }

  pub cases_fail : (old p : Point) (xs : List held_case.Case) (i : ℕ) (x : held_case.Case)
      (done : Verdict (List CasePart)) (fault : CheckFault) → CasesSo old p xs i done
      → i < length xs → x ≡ get_or xs i x
      → Fails (faults_of (one_case_in it p in_loop (case_view x))) fault
      → Fails (faults_of (cases_from old xs 0)) fault
  cases_fail old p xs i x done fault h l e f =
      cons_fails _ done (one_case_in it p in_loop (case_view x))
      (cases_from (behind_case p x) xs (i + 1)) fault
      (record {
        same = h.walked.same
            ∙ ap (λ (w : Verdict (List CasePart)). joined (λ x y. x ++ y) done w)
            (cases_at p xs i x l e);
      }) f

  no_cases_left : (p : Point) (xs : List held_case.Case) (i : ℕ) → length xs < i + 1
      → cases_from p xs i ≡ Stands []
  no_cases_left p xs i l = ap (λ cs. cases_in it p in_loop (cases cs)) (seen_none case_view xs i l)

  past_none : (p : Point) (xs : List held_case.Case) (i : ℕ) → length xs < i + 1
      → past_cases p xs i ≡ p
  past_none p xs i l =
      ap (λ cs. beyond p (objects_in_cases (cases cs)) (slots_in_cases (cases cs)))
      (seen_none case_view xs i l) ∙ sym (beyond_none p)

  pub cases_all : (old now : Point) (xs : List held_case.Case) (i : ℕ)
      (done : Verdict (List CasePart)) → CasesSo old now xs i done → length xs < i + 1
      → (cases_from old xs 0 ≡ done) × (now ≡ past_cases old xs 0)
  cases_all old now xs i done h l = (
    walked_all (λ x y. x ++ y) [] append-nil _ done
        (record {
          same = h.walked.same
              ∙ ap (λ (w : Verdict (List CasePart)). joined (λ x y. x ++ y) done w)
              (no_cases_left now xs i l);
        }),
    sym (past_none now xs i l) ∙ h.place,
  )
