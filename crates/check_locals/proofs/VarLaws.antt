-- Variables that are declared together, one by one.
use Rattle.std.proofs.Common.{◌≡◌, ◌<◌, ℕ, suc, ◌+◌, Bool, List, [], ◌∷◌, map, drop, length}
use Rattle.std.proofs.Common.{get_or, refl, sym, ap, ◌∙◌, arith, append_assoc}
use Rattle.std.proofs.Common.{drop-cons}
use Rattle.std.proofs.lemmas.List.{append-nil, drop_all}
use Rattle.pawn_tree.specs.declared.name.At.{At}
use Rattle.pawn_tree.specs.declared.variable.Storage.{Storage}
use Rattle.pawn_tree.specs.declared.variable.Var as held
use Rattle.pawn_tree.specs.Variables.{Var}
use Rattle.pawn_tree.specs.View.{var_view}
use Rattle.names_rules.specs.Verdict.{Verdict, Stands, faults_of}
use Rattle.types_rules.specs.Around.{Around}
use Rattle.pawn_verdict.specs.declared.fault.CheckFault.{CheckFault}
use Rattle.pawn_verdict.specs.Answers.{Fails}
use Rattle.types_rules.specs.VariableParts.{Judged, judged, var_part}
use Rattle.types_rules.specs.Points.{Point, behind_var, behind_vars}
use Rattle.types_rules.specs.Stood.{Stood, stood_behind, nothing_stood}
use Rattle.types_rules.specs.Locals.{local, locals, vars_parts}
use Rattle.check_locals.specs.Rows.{joined, Walked}
use Rattle.check_locals.proofs.RowLaws.{walked_begins, walked_more, walked_fails, walked_all}
use Rattle.check_locals.proofs.PathLaws.{Extends, extends_none, extends_by, extends_then}

-- ---- lists seen from an element on

pub seen_from : {A B : Type 0} (view : A → B) (xs : List A) (i : ℕ) (x : A) → i < length xs
    → x ≡ get_or xs i x
    → map view (drop i xs) ≡ view x ∷ map view (drop (i + 1) xs)
seen_from view xs i x l e =
    let next : suc i ≡ i + 1 = omega arith in
    ap (map view) (drop-cons xs i x l) ∙ ap (λ it. view it ∷ map view (drop (suc i) xs)) (sym e)
    ∙ ap (λ n. view x ∷ map view (drop n xs)) next

pub seen_none : {A B : Type 0} (view : A → B) (xs : List A) (i : ℕ) → length xs < i + 1
    → map view (drop i xs) ≡ []
seen_none view xs i l = ap (map view) (drop_all i xs (omega (arith, l)))

-- ---- statements joined

pub stood_assoc : (x y z : Stood)
    → stood_behind x (stood_behind y z) ≡ stood_behind (stood_behind x y) z
stood_assoc x y z =
    rw (
      append_assoc x.stmts y.stmts z.stmts,
      append_assoc x.slots y.slots z.slots,
      append_assoc x.objects y.objects z.objects,
      append_assoc x.returns y.returns z.returns,
      append_assoc x.warned y.warned z.warned,
    ) refl

pub nothing_first : (x : Stood) → stood_behind nothing_stood x ≡ x
nothing_first x = refl

pub nothing_last : (x : Stood) → stood_behind x nothing_stood ≡ x
nothing_last x =
    rw (
      append-nil x.stmts,
      append-nil x.slots,
      append-nil x.objects,
      append-nil x.returns,
      append-nil x.warned,
    ) refl

abbrev pub judge_join : Judged → Judged → Judged
judge_join x y = judged

judged_is : (x : Judged) → judged ≡ x
judged_is judged = refl

module _ (cx : Around) (at : At) (kind : Storage) (constant : Bool) where
  -- the variables from the one with a number on
  abbrev pub parts_from : Point → List held.Var → ℕ → Verdict Judged
  parts_from p xs i = vars_parts cx p at kind constant (map var_view (drop i xs))

  abbrev pub locals_from : Point → List held.Var → ℕ → Verdict Stood
  locals_from p xs i = locals cx p at kind constant (map var_view (drop i xs))

  abbrev pub place_from : Point → List held.Var → ℕ → Point
  place_from p xs i = behind_vars cx p at kind constant (map var_view (drop i xs))

  -- how far code is: what was told, and the place
  pub record PartsSo (old now : Point) (xs : List held.Var) (i : ℕ)
      (done : Verdict Judged) : Type 0 where
    pub walked : Walked judge_join (parts_from old xs 0) done (parts_from now xs i)
    pub place : place_from now xs i ≡ place_from old xs 0

  pub record LocalsSo (old now : Point) (xs : List held.Var) (i : ℕ)
      (done : Verdict Stood) : Type 0 where
    pub walked : Walked stood_behind (locals_from old xs 0) done (locals_from now xs i)
    pub place : place_from now xs i ≡ place_from old xs 0

  pub parts_begin : (old : Point) (xs : List held.Var) → PartsSo old old xs 0 (Stands judged)
  parts_begin old xs = record {
    walked = walked_begins judge_join judged judged_is (parts_from old xs 0);
    place = refl;
  }

  pub locals_begin : (old : Point) (xs : List held.Var)
      → LocalsSo old old xs 0 (Stands nothing_stood)
  locals_begin old xs = record {
    walked = walked_begins stood_behind nothing_stood nothing_first (locals_from old xs 0);
    place = refl;
  }

  parts_at : (p : Point) (xs : List held.Var) (i : ℕ) (x : held.Var) → i < length xs
      → x ≡ get_or xs i x
      → parts_from p xs i ≡ joined judge_join (var_part cx p.scope (var_view x))
      (parts_from (behind_var cx p at kind constant (var_view x)) xs (i + 1))
  unfolding vars_parts
  parts_at p xs i x l e =
      ap (λ vars. vars_parts cx p at kind constant vars) (seen_from var_view xs i x l e)

  locals_at : (p : Point) (xs : List held.Var) (i : ℕ) (x : held.Var) → i < length xs
      → x ≡ get_or xs i x
      → locals_from p xs i ≡ joined stood_behind (local cx p at kind constant (var_view x))
      (locals_from (behind_var cx p at kind constant (var_view x)) xs (i + 1))
  unfolding locals
  locals_at p xs i x l e =
      ap (λ vars. locals cx p at kind constant vars) (seen_from var_view xs i x l e)

  place_at : (p : Point) (xs : List held.Var) (i : ℕ) (x : held.Var) → i < length xs
      → x ≡ get_or xs i x
      → place_from p xs i ≡ place_from (behind_var cx p at kind constant (var_view x)) xs (i + 1)
  unfolding behind_vars
  place_at p xs i x l e =
      ap (λ vars. behind_vars cx p at kind constant vars) (seen_from var_view xs i x l e)

  -- one variable more
  pub parts_more : (old p q : Point) (xs : List held.Var) (i : ℕ) (x : held.Var)
      (done it next : Verdict Judged) → PartsSo old p xs i done
      → i < length xs → x ≡ get_or xs i x → var_part cx p.scope (var_view x) ≡ it
      → q ≡ behind_var cx p at kind constant (var_view x)
      → next ≡ joined judge_join done it → PartsSo old q xs (i + 1) next
  parts_more old p q xs i x done it next h l e v b n = record {
    walked = walked_more judge_join (λ x y z. refl) _ done it (parts_from q xs (i + 1)) next
        (record {
          same =
              h.walked.same ∙ ap (λ (w : Verdict Judged). joined judge_join done w)
              (parts_at p xs i x l e
              ∙ rw (v, b) refl);
        }) n;
    place = rw b (sym (place_at p xs i x l e)) ∙ h.place;
  }

  pub locals_more : (old p q : Point) (xs : List held.Var) (i : ℕ) (x : held.Var)
      (done it next : Verdict Stood) → LocalsSo old p xs i done
      → i < length xs → x ≡ get_or xs i x → local cx p at kind constant (var_view x) ≡ it
      → q ≡ behind_var cx p at kind constant (var_view x)
      → next ≡ joined stood_behind done it → LocalsSo old q xs (i + 1) next
  locals_more old p q xs i x done it next h l e v b n = record {
    walked = walked_more stood_behind stood_assoc _ done it (locals_from q xs (i + 1)) next
        (record {
          same =
              h.walked.same ∙ ap (λ (w : Verdict Stood). joined stood_behind done w)
              (locals_at p xs i x l e
              ∙ rw (v, b) refl);
        }) n;
    place = rw b (sym (place_at p xs i x l e)) ∙ h.place;
  }

  pub parts_fail : (old p : Point) (xs : List held.Var) (i : ℕ) (x : held.Var)
      (done : Verdict Judged) (fault : CheckFault) → PartsSo old p xs i done
      → i < length xs → x ≡ get_or xs i x
      → Fails (faults_of (var_part cx p.scope (var_view x))) fault
      → Fails (faults_of (parts_from old xs 0)) fault
  parts_fail old p xs i x done fault h l e f =
      walked_fails judge_join _ done (var_part cx p.scope (var_view x))
      (parts_from (behind_var cx p at kind constant (var_view x)) xs (i + 1)) fault
      (record {
        same = h.walked.same
            ∙ ap (λ (w : Verdict Judged). joined judge_join done w) (parts_at p xs i x l e);
      }) f

  pub locals_fail : (old p : Point) (xs : List held.Var) (i : ℕ) (x : held.Var)
      (done : Verdict Stood) (fault : CheckFault) → LocalsSo old p xs i done
      → i < length xs → x ≡ get_or xs i x
      → Fails (faults_of (local cx p at kind constant (var_view x))) fault
      → Fails (faults_of (locals_from old xs 0)) fault
  locals_fail old p xs i x done fault h l e f =
      walked_fails stood_behind _ done (local cx p at kind constant (var_view x))
      (locals_from (behind_var cx p at kind constant (var_view x)) xs (i + 1)) fault
      (record {
        same = h.walked.same
            ∙ ap (λ (w : Verdict Stood). joined stood_behind done w) (locals_at p xs i x l e);
      }) f

  none_judged : (p : Point) (xs : List held.Var) (i : ℕ) → length xs < i + 1
      → parts_from p xs i ≡ Stands judged
  unfolding vars_parts
  none_judged p xs i l =
      ap (λ vars. vars_parts cx p at kind constant vars) (seen_none var_view xs i l)

  none_local : (p : Point) (xs : List held.Var) (i : ℕ) → length xs < i + 1
      → locals_from p xs i ≡ Stands nothing_stood
  unfolding locals
  none_local p xs i l = ap (λ vars. locals cx p at kind constant vars) (seen_none var_view xs i l)

  none_placed : (p : Point) (xs : List held.Var) (i : ℕ) → length xs < i + 1 → place_from p xs i ≡ p
  unfolding behind_vars
  none_placed p xs i l =
      ap (λ vars. behind_vars cx p at kind constant vars) (seen_none var_view xs i l)

  pub parts_all : (old now : Point) (xs : List held.Var) (i : ℕ) (done : Verdict Judged)
      → PartsSo old now xs i done → length xs < i + 1
      → (parts_from old xs 0 ≡ done) × (now ≡ place_from old xs 0)
  parts_all old now xs i done h l = (
    walked_all judge_join judged (λ x. judged_is x) _ done
        (record {
          same = h.walked.same
              ∙ ap (λ (w : Verdict Judged). joined judge_join done w) (none_judged now xs i l);
        }),
    sym (none_placed now xs i l) ∙ h.place,
  )

  pub locals_all : (old now : Point) (xs : List held.Var) (i : ℕ) (done : Verdict Stood)
      → LocalsSo old now xs i done → length xs < i + 1
      → (locals_from old xs 0 ≡ done) × (now ≡ place_from old xs 0)
  locals_all old now xs i done h l = (
    walked_all stood_behind nothing_stood nothing_last _ done
        (record {
          same = h.walked.same
              ∙ ap (λ (w : Verdict Stood). joined stood_behind done w) (none_local now xs i l);
        }),
    sym (none_placed now xs i l) ∙ h.place,
  )

  -- behind variables stands a declaration for each
  pub vars_extend : (p : Point) (xs : List Var)
      → Extends (length xs) p.scope (behind_vars cx p at kind constant xs).scope
  unfolding behind_vars
  vars_extend p [] = extends_none p.scope
  vars_extend p (x ∷ xs) =
      let q : Point = behind_var cx p at kind constant x in
      let one : 1 + length xs ≡ suc (length xs) = omega arith in
      rw (sym one) (extends_then 1 (length xs) p.scope q.scope
      (behind_vars cx q at kind constant xs).scope (extends_by p.scope _) (vars_extend q xs))
