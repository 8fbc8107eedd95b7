-- All parts of a list, of which some may fall.
use Rattle.std.proofs.Common.{◌≡◌, ◌+◌, ◌<◌, ◌≤◌, ℕ, List, [], ◌∷◌, length, drop, get_or, map, Bool}
use Rattle.std.proofs.Common.{true, false, Result, refl, sym, ap, subst, ◌∙◌, arith}
use Rattle.std.specs.List.{Contains}
use Rattle.std.proofs.lemmas.Bool.{false≢true}
use Rattle.std.proofs.lemmas.List.{drop_all}
use Rattle.std.proofs.lemmas.List.Elements.{Contains-append_left}
use Rattle.pawn_tree.specs.declared.variable.Dim.{Dim}
use Rattle.pawn_tree.specs.declared.variable.Init.{Init}
use Rattle.pawn_tree.specs.Variables.{inits}
use Rattle.pawn_tree.specs.View.{dim_view, init_view}
use Rattle.names_rules.specs.Verdict.{Verdict, Stands, Breaks, Fault, after, faults_of}
use Rattle.types_rules.specs.Around.{Around}
use Rattle.types_rules.specs.Scope.{Scope}
use Rattle.types_rules.specs.VariableParts.{Judged, judged, with_part}
use Rattle.types_rules.specs.VariableParts.{all_parts, dim_part, init_part}
use Rattle.types_rules.specs.VariableParts.{init_parts}
use Rattle.check_nodes.specs.declared.fault.PartFault.{PartFault}
use Rattle.check_nodes.specs.declared.fault.PartFault.TheVariants.{Source, Fallen, Memory}
use Rattle.check_nodes.specs.PartAnswers.{FailsPart, PartAnswers}
use Rattle.check_nodes.proofs.ThreadLaws.{next}
use Rattle.check_expressions.specs.Beside.{beside_by, all_by}
use Rattle.check_expressions.specs.JudgedView.{judged_view}

-- how the verdict of a list is made of those of its parts
pub record AreParts {A : Type 0} (one : A → Verdict Judged)
    (all : List A → Verdict Judged) : Type 0 where
  pub none : all [] ≡ Stands judged
  pub more : (x : A) (xs : List A) → all (x ∷ xs) ≡ with_part (one x) (all xs)

-- those behind parts that stand, or of which one has fallen
abbrev pub rest : Bool → Verdict Judged → Verdict Judged
rest true w = w
rest false w = Breaks (faults_of w)

-- so many parts are judged
pub record JudgedSoFar {A : Type 0} (all : List A → Verdict Judged) (list : List A) (i : ℕ)
    (stand : Bool) : Type 0 where
  pub same : all list ≡ rest stand (all (drop i list))

-- ---- one part more

all_behind : (w : Verdict Judged) → after w (λ y. Stands judged) ≡ w
all_behind (Stands judged) = refl
all_behind (Breaks faults) = refl

fallen_behind : (w : Verdict Judged)
    → rest false (after w (λ y. Stands judged)) ≡ rest false w
fallen_behind (Stands y) = refl
fallen_behind (Breaks faults) = refl

abbrev stood : Verdict Bool → Bool
stood (Stands x) = x
stood (Breaks faults) = false

abbrev is_stood : Verdict Bool → Bool
is_stood (Stands x) = true
is_stood (Breaks faults) = false

rest_step : (stand : Bool) (v w : Verdict Judged) (now : Bool) → beside_by stand v ≡ Stands now
    → rest stand (with_part v w) ≡ rest now w
rest_step true (Stands x) w now h = all_behind w ∙ ap (λ (it : Bool). rest it w) (ap stood h)
rest_step false (Stands x) w now h = fallen_behind w ∙ ap (λ (it : Bool). rest it w) (ap stood h)
rest_step true (Breaks []) w now h = ap (λ (it : Bool). rest it w) (ap stood h)
rest_step false (Breaks []) w now h = ap (λ (it : Bool). rest it w) (ap stood h)
rest_step true (Breaks (fault ∷ more)) w now h = absurd (false≢true (ap is_stood h))
rest_step false (Breaks (fault ∷ more)) w now h = absurd (false≢true (ap is_stood h))

-- ---- a part that breaks a rule

none_in : {A : Type 0} (f : Fault) → Contains [] f → A
none_in f h = let k : h.0 < 0 = h.1 in absurd (omega (arith, k))

stands_not : {A : Type 0} (x : Bool) → Stands x ≡ Breaks [] → A
stands_not x h = absurd (false≢true (sym (ap is_stood h)))

abbrev broken_with : List Fault → Verdict Bool
broken_with faults = Breaks faults

not_none : {A : Type 0} (fault : Fault) (more : List Fault)
    → broken_with (fault ∷ more) ≡ broken_with [] → A
not_none fault more h =
    let k : length (fault ∷ more) ≡ 0 = ap (λ (v : Verdict Bool). length (faults_of v)) h in
    absurd (omega (arith, k))

rest_fails : (stand : Bool) (v w : Verdict Judged) (fault : PartFault)
    → FailsPart (beside_by stand v) fault → FailsPart (rest stand (with_part v w)) fault
rest_fails stand v w Memory h = record { cause = tt }
rest_fails stand (Stands x) w (Source kind place) h = none_in _ h.cause
rest_fails stand (Breaks []) w (Source kind place) h = none_in _ h.cause
rest_fails true (Breaks (fault ∷ more)) w (Source kind place) h =
    record { cause = Contains-append_left (fault ∷ more) (faults_of w) _ h.cause }
rest_fails false (Breaks (fault ∷ more)) w (Source kind place) h =
    record { cause = Contains-append_left (fault ∷ more) (faults_of w) _ h.cause }
rest_fails stand (Stands x) w Fallen h = stands_not _ h.cause
rest_fails stand (Breaks []) w Fallen h = stands_not _ h.cause
rest_fails stand (Breaks (fault ∷ more)) w Fallen h = not_none fault more h.cause

-- ---- all of a list

pub parts_begin : {A : Type 0} (all : List A → Verdict Judged) (list : List A)
    → JudgedSoFar all list 0 true
parts_begin all list = record { same = refl }

ends : (stand : Bool) → rest stand (Stands judged) ≡ all_by stand
ends true = refl
ends false = refl

module _ {A : Type 0} (one : A → Verdict Judged) (all : List A → Verdict Judged)
    (law : AreParts one all) (list : List A) (i : ℕ) (stand : Bool) where
  -- the next part in front of the rest
  so_far_is : (x : A) → JudgedSoFar all list i stand → i < length list → x ≡ get_or list i x
      → all list ≡ rest stand (with_part (one x) (all (drop (i + 1) list)))
  so_far_is x so_far lt e =
      so_far.same
      ∙ ap (λ (w : Verdict Judged). rest stand w)
      (ap all (next list i x lt e) ∙ law.more x (drop (i + 1) list))

  pub parts_more : (x : A) (now : Bool) → JudgedSoFar all list i stand → i < length list
      → x ≡ get_or list i x → beside_by stand (one x) ≡ Stands now
      → JudgedSoFar all list (i + 1) now
  parts_more x now so_far lt e stands = record {
    same = so_far_is x so_far lt e
        ∙ rest_step stand (one x) (all (drop (i + 1) list)) now stands;
  }

  pub parts_fail : (x : A) (fault : PartFault) → JudgedSoFar all list i stand → i < length list
      → x ≡ get_or list i x → FailsPart (beside_by stand (one x)) fault
      → FailsPart (all list) fault
  parts_fail x fault so_far lt e h =
      let P : Verdict Judged → Type 0 = λ w. FailsPart w fault in
      subst P (sym (so_far_is x so_far lt e))
      (rest_fails stand (one x) (all (drop (i + 1) list)) fault h)

  pub parts_answer : (result : Result (Unit {0}) PartFault) → JudgedSoFar all list i stand
      → length list ≤ i → PartAnswers judged_view (all_by stand) result
      → PartAnswers judged_view (all list) result
  parts_answer result so_far le h =
      let P : Verdict Judged → Type 0 = λ w. PartAnswers judged_view w result in
      subst P (sym (so_far.same
      ∙ ap (λ (xs : List A). rest stand (all xs)) (drop_all i list le)
      ∙ ap (λ (w : Verdict Judged). rest stand w) law.none
      ∙ ends stand)) h

-- ---- sizes, and values in braces

module _ (cx : Around) (scope : Scope) where
  abbrev pub one_dim : Dim → Verdict Judged
  one_dim x = dim_part cx scope (dim_view x)

  abbrev pub all_dims : List Dim → Verdict Judged
  all_dims xs = all_parts (dim_part cx scope) (map dim_view xs)

  pub dims_law : AreParts one_dim all_dims
  dims_law = record { none = refl; more = λ x xs. refl }

  abbrev pub one_init : Init → Verdict Judged
  one_init x = init_part cx scope (init_view x)

  abbrev pub all_inits : List Init → Verdict Judged
  all_inits xs = init_parts cx scope (inits (map init_view xs))

  pub inits_law : AreParts one_init all_inits
  inits_law = record { none = refl; more = λ x xs. refl }
