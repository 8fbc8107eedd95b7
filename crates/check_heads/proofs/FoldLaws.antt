-- Lists whose elements have a verdict each, and stand where those before them lead.
use Rattle.std.proofs.Common.{◌≡◌, ◌+◌, ◌<◌, ◌≤◌, ℕ, Bool, true, false, List, [], ◌∷◌, ◌++◌, length}
use Rattle.std.proofs.Common.{drop, get_or, map, refl, sym, ap, subst, ◌∙◌, append-nil, arith}
use Rattle.std.proofs.lemmas.List.{drop_all}
use Rattle.std.specs.List.{Contains}
use Rattle.std.proofs.lemmas.List.Elements.{Contains-append_left, Contains-append_right}
use Rattle.pawn_cells.specs.declared.place.Place.{Place}
use Rattle.names_rules.specs.Verdict.{Verdict, Stands, Breaks, Fault, both, faults_of}
use Rattle.check_nodes.specs.declared.fault.PartFault.{PartFault}
use Rattle.check_nodes.specs.declared.fault.PartFault.TheVariants.{Source, Fallen, Memory}
use Rattle.check_nodes.specs.PartAnswers.{FailsPart}
use Rattle.check_nodes.proofs.ThreadLaws.{next}
use Rattle.check_heads.specs.SoFar.{so_far, joined, IsBehind, IsBroken}

-- no fault is one of none
no_fault : {A : Type 0} (f : Fault) → Contains [] f → A
no_fault f h = let k : h.0 < 0 = h.1 in absurd (omega (arith, k))

-- ---- one element more

module _ {A : Type 0} (behind : A → A → A) where
  -- how parts are put together
  pub record Joins : Type 0 where
    pub assoc : (x y z : A) → behind x (behind y z) ≡ behind (behind x y) z

  both_stand : Joins → (done v : A) (rest : Verdict A)
      → joined behind (Stands done) (joined behind (Stands v) rest)
      ≡ joined behind (Stands (behind done v)) rest
  both_stand law done v (Stands y) = ap (λ (it : A). Stands it) (law.assoc done v y)
  both_stand law done v (Breaks faults) = refl

  one_fell : (v : A) (rest : Verdict A)
      → joined behind (Breaks []) (joined behind (Stands v) rest) ≡ joined behind (Breaks []) rest
  one_fell v (Stands y) = refl
  one_fell v (Breaks faults) = refl

  stood : Joins → (fell : Bool) (done v now : A) → now ≡ behind done v
      → IsBehind behind (so_far fell done) (Stands v) (so_far fell now)
  stood law false done v now e =
      record { same = λ rest. rw e (both_stand law done v rest) }
  stood law true done v now e = record { same = λ rest. one_fell v rest }

  -- one that stands
  pub stands_behind : Joins → (fell : Bool) (done v now : A) (this : Verdict A) → this ≡ Stands v
      → now ≡ behind done v → IsBehind behind (so_far fell done) this (so_far fell now)
  stands_behind law fell done v now this h e =
      let P : Verdict A → Type 0 = λ w. IsBehind behind (so_far fell done) w (so_far fell now) in
      subst P (sym h) (stood law fell done v now e)

  fell_here : (fell : Bool) (done now : A)
      → IsBehind behind (so_far fell done) (Breaks []) (so_far true now)
  fell_here false done now = record { same = λ rest. refl }
  fell_here true done now = record { same = λ rest. refl }

  -- one that falls
  pub falls_behind : (fell : Bool) (done now : A) (this : Verdict A) → FailsPart this Fallen
      → IsBehind behind (so_far fell done) this (so_far true now)
  falls_behind fell done now this h =
      let P : Verdict A → Type 0 = λ w. IsBehind behind (so_far fell done) w (so_far true now) in
      subst P (sym h.cause) (fell_here fell done now)

-- one with a fault
pub breaks_here : {A : Type 0} (this : Verdict A) (kind : ℕ) (place : Place)
    → FailsPart this (Source kind place) → IsBroken this (Source kind place)
breaks_here this kind place h = record { cause = h.cause }

pub ruleset steps = (breaks_here)

-- ---- verdicts one behind the other

module _ {A : Type 0} (behind : A → A → A) where
  first_broken : (v w : Verdict A) (fault : PartFault) → IsBroken v fault
      → IsBroken (joined behind v w) fault
  first_broken (Stands x) w (Source kind place) h = no_fault _ h.cause
  first_broken (Breaks faults) w (Source kind place) h =
      record { cause = Contains-append_left faults (faults_of w) _ h.cause }
  first_broken v w Memory h = record { cause = tt }
  first_broken v w Fallen h = absurd h.cause

  second_broken : (v w : Verdict A) (fault : PartFault) → IsBroken w fault
      → IsBroken (joined behind v w) fault
  second_broken v (Stands x) (Source kind place) h = no_fault _ h.cause
  second_broken (Stands x) (Breaks faults) (Source kind place) h = record { cause = h.cause }
  second_broken (Breaks others) (Breaks faults) (Source kind place) h =
      record { cause = Contains-append_right others faults _ h.cause }
  second_broken v w Memory h = record { cause = tt }
  second_broken v w Fallen h = absurd h.cause

as_part : {A : Type 0} (v : Verdict A) (fault : PartFault) → IsBroken v fault → FailsPart v fault
as_part v (Source kind place) h = record { cause = h.cause }
as_part v Memory h = record { cause = tt }
as_part v Fallen h = absurd h.cause

-- ---- the list

-- how the verdict of a list is made, and where its elements lead
pub record Fold (A S T E : Type 0) : Type 0 where
  pub this : S → T → Verdict A
  pub next : S → T → S
  pub all : S → List T → Verdict A
  pub out : S → E
  pub end : S → List T → E
  pub nothing : A
  pub behind : A → A → A

-- and that it is made so
pub record IsFold {A S T E : Type 0} (f : Fold A S T E) : Type 0 where
  pub all_none : (s : S) → f.all s [] ≡ Stands f.nothing
  pub all_more : (s : S) (x : T) (xs : List T)
      → f.all s (x ∷ xs) ≡ joined f.behind (f.this s x) (f.all (f.next s x) xs)
  pub end_none : (s : S) → f.end s [] ≡ f.out s
  pub end_more : (s : S) (x : T) (xs : List T) → f.end s (x ∷ xs) ≡ f.end (f.next s x) xs
  pub before : (x : A) → f.behind f.nothing x ≡ x
  pub beyond : (x : A) → f.behind x f.nothing ≡ x

module _ {A S T E H : Type 0} (f : Fold A S T E) (view : H → T) (begin : S) (list : List H) where
  -- so many elements are known, and the rest goes on from there
  pub record Folded (i : ℕ) (s : S) (before : Verdict A) : Type 0 where
    pub same : f.all begin (map view list)
        ≡ joined f.behind before (f.all s (map view (drop i list)))
    pub ends : f.end begin (map view list) ≡ f.end s (map view (drop i list))

  begun : IsFold f → (w : Verdict A) → w ≡ joined f.behind (Stands f.nothing) w
  begun law (Stands x) = ap (λ (it : A). Stands it) (sym (law.before x))
  begun law (Breaks faults) = refl

  pub fold_begins : IsFold f → (before : Verdict A) → before ≡ Stands f.nothing
      → Folded 0 begin before
  fold_begins law before e =
      let P : Verdict A → Type 0 = λ w. Folded 0 begin w in
      subst P (sym e) (record { same = begun law (f.all begin (map view list)); ends = refl })

  ended : IsFold f → (w : Verdict A) → joined f.behind w (Stands f.nothing) ≡ w
  ended law (Stands x) = ap (λ (it : A). Stands it) (law.beyond x)
  ended law (Breaks faults) = ap (λ (all : List Fault). Breaks all) (append-nil faults)

  module _ (i : ℕ) (s : S) where
    in_front : IsFold f → (x : H) → i < length list → x ≡ get_or list i x
        → f.all s (map view (drop i list))
        ≡ joined f.behind (f.this s (view x))
        (f.all (f.next s (view x)) (map view (drop (i + 1) list)))
    in_front law x lt e =
        ap (λ (xs : List H). f.all s (map view xs)) (next list i x lt e)
        ∙ law.all_more s (view x) (map view (drop (i + 1) list))

    pub fold_more : (before : Verdict A) → IsFold f → (x : H) (t : S) (now : Verdict A)
        → Folded i s before → i < length list → x ≡ get_or list i x
        → IsBehind f.behind before (f.this s (view x)) now → t ≡ f.next s (view x)
        → Folded (i + 1) t now
    fold_more before law x t now so_far lt e h is =
        let P : S → Type 0 = λ it. Folded (i + 1) it now in
        let rest : Verdict A = f.all (f.next s (view x)) (map view (drop (i + 1) list)) in
        subst P (sym is) (record {
          same = so_far.same
              ∙ ap (λ (w : Verdict A). joined f.behind before w) (in_front law x lt e)
              ∙ h.same rest;
          ends = so_far.ends
              ∙ ap (λ (xs : List H). f.end s (map view xs)) (next list i x lt e)
              ∙ law.end_more s (view x) (map view (drop (i + 1) list));
        })

    pub fold_breaks : (before : Verdict A) → IsFold f → (x : H) (fault : PartFault)
        → Folded i s before → i < length list → x ≡ get_or list i x
        → IsBroken (f.this s (view x)) fault → IsBroken (f.all begin (map view list)) fault
    fold_breaks before law x fault so_far lt e h =
        let rest : Verdict A = f.all (f.next s (view x)) (map view (drop (i + 1) list)) in
        let P : Verdict A → Type 0 = λ w. IsBroken w fault in
        subst P (sym (so_far.same
        ∙ ap (λ (w : Verdict A). joined f.behind before w) (in_front law x lt e)))
        (second_broken f.behind before (joined f.behind (f.this s (view x)) rest) fault
        (first_broken f.behind (f.this s (view x)) rest fault h))

    pub fold_fails : (before : Verdict A) → IsFold f → (x : H) (fault : PartFault)
        → Folded i s before → i < length list → x ≡ get_or list i x
        → IsBroken (f.this s (view x)) fault → FailsPart (f.all begin (map view list)) fault
    fold_fails before law x fault so_far lt e h =
        as_part _ fault (fold_breaks before law x fault so_far lt e h)

    pub fold_all : (before : Verdict A) → IsFold f → Folded i s before → length list ≤ i
        → f.all begin (map view list) ≡ before
    fold_all before law so_far le =
        so_far.same
        ∙ ap (λ (xs : List H). joined f.behind before (f.all s (map view xs))) (drop_all i list le)
        ∙ ap (λ (w : Verdict A). joined f.behind before w) (law.all_none s)
        ∙ ended law before

    pub fold_ends : (before : Verdict A) → IsFold f → Folded i s before → length list ≤ i
        → f.end begin (map view list) ≡ f.out s
    fold_ends before law so_far le =
        so_far.ends
        ∙ ap (λ (xs : List H). f.end s (map view xs)) (drop_all i list le)
        ∙ law.end_none s
