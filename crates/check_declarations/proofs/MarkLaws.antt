-- The marks of all functions, body by body.
use Rattle.std.proofs.Common.{◌≡◌, ◌≢◌, ◌<◌, ◌≤◌, ◌+◌, ℕ, zero, suc, Bool, true, false, ◌||◌, ◌&&◌}
use Rattle.std.proofs.Common.{nat_eq, if◌then◌else◌, List, [], ◌∷◌, ◌++◌, map, drop, length, get_or}
use Rattle.std.proofs.Common.{set, replicate, Option, Some, None, Result, Ok, Err, refl, sym, ap}
use Rattle.std.proofs.Common.{subst, ◌∙◌, arith}
use Rattle.std.specs.Prelude.{flat_map}
use Rattle.std.proofs.lemmas.Bool.{false≢true, eq-eqb, eqb-true}
use Rattle.std.proofs.lemmas.List.{drop_more, drop_all, get_or_default, get_or-set_same}
use Rattle.std.proofs.lemmas.List.{get_or-set_other, map-append}
use Rattle.names_rules.specs.Verdict.{Fault}
use Rattle.pawn_verdict.specs.Answers.{Fails}
use Rattle.pawn_verdict.specs.declared.fault.CheckFault.{CheckFault}
use Rattle.types_rules.specs.Stood.{Returned}
use Rattle.types_rules.specs.Declarations.{Bodied}
use Rattle.types_rules.specs.TypedTrees.{returns_of, mixed_returns, return_faults}
use Rattle.check_functions.specs.Finds.{Finds}
use Rattle.pawn_verdict.proofs.VerdictLaws.{fails_left, fails_right}
use Rattle.check_functions.proofs.FindsLaws.{map_at}
use Rattle.check_declarations.specs.Marks.{Seen, seen_in, seen_behind, seen_by, both_seen, mark_of}
use Rattle.check_declarations.specs.Marks.{mixed_at, Agrees, ReturnsAreMarked}
use Rattle.check_declarations.proofs.AgreeLaws.{moved, both_stay}

-- ---- the returns of one function

-- those of a body, if it is of the function
abbrev own : Bodied → ℕ → List Returned
own it number = if nat_eq it.number number then it.returns else []

cut : (it : Bodied) (rest : List Bodied) (number : ℕ)
    → returns_of (it ∷ rest) number ≡ own it number ++ returns_of rest number
cut it rest number = by (nat_eq it.number number) refl
  where
    by : (b : Bool) → nat_eq it.number number ≡ b
        → returns_of (it ∷ rest) number ≡ own it number ++ returns_of rest number
    by true e = rw e refl
    by false e = rw e refl

own_itself : (it : Bodied) → own it it.number ≡ it.returns
own_itself it = ap (λ (b : Bool). if b then it.returns else []) (eq-eqb it.number it.number refl)

own_other : (it : Bodied) (number : ℕ) → number ≢ it.number → own it number ≡ []
own_other it number d = by (nat_eq it.number number) refl
  where
    by : (b : Bool) → nat_eq it.number number ≡ b → own it number ≡ []
    by true e = absurd (d (sym (eqb-true it.number number e)))
    by false e = ap (λ (b : Bool). if b then it.returns else []) e

-- a fault of the returns of a body is one of the function's
pub fails_within : (all : List Bodied) (i : ℕ) (it : Bodied) (fault : CheckFault) → i < length all
    → it ≡ get_or all i it → Fails (mixed_at it.returns) fault
    → Fails (mixed_at (returns_of all it.number)) fault
fails_within [] i it fault lt is h = absurd (omega (arith, lt))
fails_within (x ∷ xs) zero it fault lt is h =
    let here : Fails (mixed_at (own x x.number)) fault =
    rw (own_itself x) (subst (λ (y : Bodied). Fails (mixed_at y.returns) fault) is h) in
    subst (λ (y : Bodied). Fails (mixed_at (returns_of (x ∷ xs) y.number)) fault) (sym is)
    (rw (cut x xs x.number, map-append)
    (fails_left (mixed_at (own x x.number)) (mixed_at (returns_of xs x.number)) fault here))
fails_within (x ∷ xs) (suc i) it fault lt is h =
    let less : i < length xs = omega (arith, lt) in
    rw (cut x xs it.number, map-append)
    (fails_right (mixed_at (own x it.number)) (mixed_at (returns_of xs it.number)) fault
    (fails_within xs i it fault less is h))

-- ---- the whole

-- a fault of one is one of all
fails_of : {X : Type 0} (faults : X → List Fault) (items : List X) (i : ℕ) (it : X)
    (fault : CheckFault) → i < length items → it ≡ get_or items i it
    → Fails (faults it) fault → Fails (flat_map faults items) fault
fails_of faults [] i it fault lt is h = absurd (omega (arith, lt))
fails_of faults (x ∷ xs) zero it fault lt is h =
    fails_left (faults x) (flat_map faults xs) fault (subst (λ y. Fails (faults y) fault) is h)
fails_of faults (x ∷ xs) (suc i) it fault lt is h =
    let less : i < length xs = omega (arith, lt) in
    fails_right (faults x) (flat_map faults xs) fault (fails_of faults xs i it fault less is h)

-- both kinds are among the returns of a function
mixed_is : (returns : List Returned) → seen_in returns ≡ both_seen
    → mixed_returns returns ≡ mixed_at returns
mixed_is returns h =
    ap (λ (s : Seen). if s.with_value && s.without then mixed_at returns else []) h

-- a mark isn't of both kinds
never_both : (mark : Option Bool)
    → ((seen_by mark).with_value || false) && ((seen_by mark).without || false) ≡ false
never_both None = refl
never_both (Some true) = refl
never_both (Some false) = refl

mixed_none : (returns : List Returned) (mark : Option Bool)
    → seen_behind (seen_by mark) [] ≡ seen_in returns → mixed_returns returns ≡ []
mixed_none returns mark h = ap (λ (b : Bool). if b then mixed_at returns else [])
    (ap (λ (s : Seen). s.with_value && s.without) (sym h) ∙ never_both mark)

none_of : (all items : List Bodied) → ((number : ℕ) → mixed_returns (returns_of all number) ≡ [])
    → flat_map (λ (it : Bodied). mixed_returns (returns_of all it.number)) items ≡ []
none_of all [] h = refl
none_of all (x ∷ xs) h = rw (h x.number) (none_of all xs h)

-- ---- body by body

pub no_mark : (count number : ℕ) → mark_of (replicate count None) number ≡ None
no_mark zero number = refl
no_mark (suc count) zero = refl
no_mark (suc count) (suc number) = no_mark count number

pub pushed : (marks : List (Option Bool)) (number : ℕ)
    → mark_of (marks ++ None ∷ []) number ≡ mark_of marks number
pushed [] zero = refl
pushed [] (suc number) = refl
pushed (m ∷ more) zero = refl
pushed (m ∷ more) (suc number) = pushed more number

pub marked_begins : (all : List Bodied) (marks : List (Option Bool))
    → ((number : ℕ) → mark_of marks number ≡ None) → ReturnsAreMarked all all marks
marked_begins all marks h = record {
  same =
      λ number. ap (λ (m : Option Bool). seen_behind (seen_by m) (returns_of all number))
      (h number);
}

pub marked_room : (all rest : List Bodied) (marks more : List (Option Bool))
    → ReturnsAreMarked all rest marks → ((number : ℕ) → mark_of more number ≡ mark_of marks number)
    → ReturnsAreMarked all rest more
marked_room all rest marks more h same = record {
  same =
      λ number. ap (λ (m : Option Bool). seen_behind (seen_by m) (returns_of rest number))
      (same number) ∙ h.same number;
}

-- with the mark of a function behind a body of it
pub marked_one : (all rest : List Bodied) (it : Bodied) (marks : List (Option Bool))
    (next : Option Bool) → ReturnsAreMarked all (it ∷ rest) marks → it.number < length marks
    → Agrees (mark_of marks it.number) it.returns (Ok next)
    → ReturnsAreMarked all rest (set marks it.number next)
marked_one all rest it marks next h lt ok =
    record { same = λ number. by number (nat_eq it.number number) refl }
  where
    here : seen_behind (seen_by (mark_of (set marks it.number next) it.number))
        (returns_of rest it.number) ≡ seen_in (returns_of all it.number)
    here =
        ap (λ (m : Option Bool). seen_behind (seen_by m) (returns_of rest it.number))
        (get_or-set_same marks it.number next None lt)
        ∙ moved (mark_of marks it.number) next it.returns (returns_of rest it.number) ok.told
        ∙ ap (λ (rs : List Returned). seen_behind (seen_by (mark_of marks it.number))
        (rs ++ returns_of rest it.number)) (sym (own_itself it))
        ∙ ap (seen_behind (seen_by (mark_of marks it.number))) (sym (cut it rest it.number))
        ∙ h.same it.number

    there : (number : ℕ) → number ≢ it.number
        → seen_behind (seen_by (mark_of (set marks it.number next) number)) (returns_of rest number)
        ≡ seen_in (returns_of all number)
    there number d =
        ap (λ (m : Option Bool). seen_behind (seen_by m) (returns_of rest number))
        (get_or-set_other marks it.number number next None d)
        ∙ ap (λ (rs : List Returned). seen_behind (seen_by (mark_of marks number))
        (rs ++ returns_of rest number)) (sym (own_other it number d))
        ∙ ap (seen_behind (seen_by (mark_of marks number))) (sym (cut it rest number))
        ∙ h.same number

    by : (number : ℕ) (b : Bool) → nat_eq it.number number ≡ b
        → seen_behind (seen_by (mark_of (set marks it.number next) number)) (returns_of rest number)
        ≡ seen_in (returns_of all number)
    by number true e =
        subst (λ (n : ℕ). seen_behind (seen_by (mark_of (set marks it.number next) n))
        (returns_of rest n) ≡ seen_in (returns_of all n))
        (eqb-true it.number number e) here
    by number false e =
        there number (λ same. false≢true (sym e ∙ eq-eqb it.number number (sym same)))

-- a fault of a body
pub marked_fails : (all rest : List Bodied) (i : ℕ) (it : Bodied) (marks : List (Option Bool))
    (fault : CheckFault) → ReturnsAreMarked all (it ∷ rest) marks
    → i < length all → it ≡ get_or all i it
    → Agrees (mark_of marks it.number) it.returns (Err fault)
    → Finds (return_faults all) (Err fault)
marked_fails all rest i it marks fault h lt is e = record {
  told = fails_of (λ (x : Bodied). mixed_returns (returns_of all x.number)) all i it fault lt is
      (rw (mixed_is (returns_of all it.number) both) (fails_within all i it fault lt is e.told.1));
}
  where
    both : seen_in (returns_of all it.number) ≡ both_seen
    both =
        sym (h.same it.number) ∙ ap (seen_behind (seen_by (mark_of marks it.number)))
        (cut it rest it.number)
        ∙ ap (λ (rs : List Returned). seen_behind (seen_by (mark_of marks it.number))
        (rs ++ returns_of rest it.number)) (own_itself it)
        ∙ both_stay (seen_by (mark_of marks it.number)) it.returns
        (returns_of rest it.number) e.told.0

-- all are marked
pub marked_all : (all : List Bodied) (marks : List (Option Bool)) (x : Unit {0})
    → ReturnsAreMarked all [] marks → Finds (return_faults all) (Ok x)
marked_all all marks x h = record {
  told =
      none_of all all (λ number. mixed_none (returns_of all number) (mark_of marks number)
      (h.same number));
}

-- ---- as code goes through them

module _ {A : Type 0} (view : A → Bodied) (items : List A) where
  ahead : (i : ℕ) (it : A) → i < length items → it ≡ get_or items i it
      → map view (drop i items) ≡ view it ∷ map view (drop (i + 1) items)
  ahead i it lt is =
      ap (map view) (drop_more items i it lt ∙ ap (λ (y : A). y ∷ drop (i + 1) items) (sym is))

  -- the mark that code reads
  read : (marks : List (Option Bool)) (number : ℕ) (mark : Option Bool)
      (given returns : List Returned) (result : Result (Option Bool) CheckFault)
      → number < length marks → mark ≡ get_or marks number mark → given ≡ returns
      → Agrees mark given result
      → Agrees (mark_of marks number) returns result
  read marks number mark given returns result room is same h =
      subst (λ (m : Option Bool). Agrees m returns result)
      (is ∙ get_or_default marks number mark None room)
      (subst (λ (rs : List Returned). Agrees mark rs result) same h)

  pub walk_more : (i : ℕ) (it : A) (marks : List (Option Bool)) (mark next : Option Bool)
      (given : List Returned)
      → ReturnsAreMarked (map view items) (map view (drop i items)) marks
      → i < length items → it ≡ get_or items i it → (view it).number < length marks
      → mark ≡ get_or marks (view it).number mark
      → given ≡ (view it).returns → Agrees mark given (Ok next)
      → ReturnsAreMarked (map view items) (map view (drop (i + 1) items))
      (set marks (view it).number next)
  walk_more i it marks mark next given h lt is room at same ok =
      marked_one (map view items) (map view (drop (i + 1) items)) (view it) marks next
      (subst (λ (rest : List Bodied). ReturnsAreMarked (map view items) rest marks)
      (ahead i it lt is) h)
      room
      (read marks (view it).number mark given (view it).returns (Ok next) room at same ok)

  pub walk_fails : (i : ℕ) (it : A) (marks : List (Option Bool)) (mark : Option Bool)
      (given : List Returned) (fault : CheckFault)
      → ReturnsAreMarked (map view items) (map view (drop i items)) marks
      → i < length items → it ≡ get_or items i it → (view it).number < length marks
      → mark ≡ get_or marks (view it).number mark
      → given ≡ (view it).returns → Agrees mark given (Err fault)
      → Finds (return_faults (map view items)) (Err fault)
  walk_fails i it marks mark given fault h lt is room found same e =
      let at = map_at view items i it lt is in
      marked_fails (map view items) (map view (drop (i + 1) items)) i (view it) marks fault
      (subst (λ (rest : List Bodied). ReturnsAreMarked (map view items) rest marks)
      (ahead i it lt is) h)
      at.0 at.1
      (read marks (view it).number mark given (view it).returns (Err fault) room found same e)

  pub walk_all : (i : ℕ) (marks : List (Option Bool)) (x : Unit {0})
      → ReturnsAreMarked (map view items) (map view (drop i items)) marks → length items ≤ i
      → Finds (return_faults (map view items)) (Ok x)
  walk_all i marks x h past =
      marked_all (map view items) marks x
      (subst (λ (rest : List A). ReturnsAreMarked (map view items) (map view rest) marks)
      (drop_all i items past) h)
