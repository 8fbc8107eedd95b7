-- The first values of a list, one behind another, of which some may fall.
use Rattle.std.proofs.Common.{◌≡◌, ◌+◌, ◌<◌, ◌≤◌, ℕ, List, [], ◌∷◌, length, drop, get_or, map}
use Rattle.std.proofs.Common.{Option, Some, None, Bool, true, false, Result, refl, sym, ap, subst}
use Rattle.std.proofs.Common.{◌∙◌, append_assoc, append-nil, arith}
use Rattle.std.specs.List.{Contains}
use Rattle.std.proofs.lemmas.Bool.{false≢true}
use Rattle.std.proofs.lemmas.List.{drop_all}
use Rattle.std.proofs.lemmas.List.Elements.{Contains-append_left}
use Rattle.pawn_tree.specs.declared.name.At.{At}
use Rattle.pawn_tree.specs.declared.variable.Init as held
use Rattle.pawn_tree.specs.Variables.{inits}
use Rattle.pawn_tree.specs.View.{init_view}
use Rattle.names_rules.specs.Verdict.{Verdict, Stands, Breaks, Fault, after, both, faults_of}
use Rattle.types_rules.specs.Around.{Around}
use Rattle.types_rules.specs.Scope.{Scope}
use Rattle.types_rules.specs.FirstValues.{First, no_cells, first_behind, cell_of_list}
use Rattle.types_rules.specs.FirstValues.{cells_of_list, first_cells, rows}
use Rattle.check_nodes.specs.declared.fault.PartFault.{PartFault}
use Rattle.check_nodes.specs.declared.fault.PartFault.TheVariants.{Source, Fallen, Memory}
use Rattle.check_nodes.specs.PartAnswers.{FailsPart, PartAnswers}
use Rattle.check_nodes.proofs.ThreadLaws.{next}
use Rattle.check_expressions.specs.declared.filling.First as cells
use Rattle.check_expressions.specs.Joined.{joined_by, stood_by}
use Rattle.check_expressions.specs.ValueViews.{first_view}

-- how the verdict of a list is made of those of its values
pub record Joins (one : held.Init → Verdict First)
    (all : List held.Init → Verdict First) : Type 0 where
  pub none : all [] ≡ Stands no_cells
  pub more : (x : held.Init) (xs : List held.Init)
      → all (x ∷ xs) ≡ both (one x) (all xs) (λ v others. Stands (first_behind v others))

-- values so far, of which one may have fallen, and those behind them
abbrev pub left : Option First → Verdict First → Verdict First
left None w = Breaks (faults_of w)
left (Some done) w = after w (λ others. Stands (first_behind done others))

-- so many values are judged
pub record Joined (all : List held.Init → Verdict First) (list : List held.Init) (i : ℕ)
    (done : Option First) : Type 0 where
  pub same : all list ≡ left done (all (drop i list))

-- ---- one more value

behind_none : (done : First) → first_behind done no_cells ≡ done
behind_none done = rw (append-nil done.cells, append-nil done.warned) refl

behind_assoc : (x y z : First)
    → first_behind x (first_behind y z) ≡ first_behind (first_behind x y) z
behind_assoc x y z =
    rw (append_assoc x.cells y.cells z.cells, append_assoc x.warned y.warned z.warned) refl

some_one : (done v : First) (w : Verdict First)
    → left (Some done) (after w (λ others. Stands (first_behind v others)))
    ≡ left (Some (first_behind done v)) w
some_one done v (Stands x) = ap (λ (it : First). Stands it) (behind_assoc done v x)
some_one done v (Breaks faults) = refl

none_one : (v : First) (w : Verdict First)
    → left None (after w (λ others. Stands (first_behind v others))) ≡ left None w
none_one v (Stands x) = refl
none_one v (Breaks faults) = refl

abbrev stood : Verdict (Option First) → Option First
stood (Stands x) = x
stood (Breaks faults) = None

abbrev is_stood : Verdict (Option First) → Bool
is_stood (Stands x) = true
is_stood (Breaks faults) = false

left_step : (done : Option First) (v w : Verdict First) (now : Option First)
    → joined_by done v ≡ Stands now
    → left done (both v w (λ x others. Stands (first_behind x others))) ≡ left now w
left_step (Some done) (Stands v) w now h =
    some_one done v w ∙ ap (λ (it : Option First). left it w) (ap stood h)
left_step None (Stands v) w now h =
    none_one v w ∙ ap (λ (it : Option First). left it w) (ap stood h)
left_step (Some done) (Breaks []) w now h = ap (λ (it : Option First). left it w) (ap stood h)
left_step None (Breaks []) w now h = ap (λ (it : Option First). left it w) (ap stood h)
left_step (Some done) (Breaks (fault ∷ more)) w now h = absurd (false≢true (ap is_stood h))
left_step None (Breaks (fault ∷ more)) w now h = absurd (false≢true (ap is_stood h))

-- ---- a value that breaks a rule

none_in : {A : Type 0} (f : Fault) → Contains [] f → A
none_in f h = let k : h.0 < 0 = h.1 in absurd (omega (arith, k))

stands_not : {A : Type 0} (x : Option First) → Stands x ≡ Breaks [] → A
stands_not x h = absurd (false≢true (sym (ap is_stood h)))

abbrev broken_with : List Fault → Verdict (Option First)
broken_with faults = Breaks faults

not_none : {A : Type 0} (fault : Fault) (more : List Fault)
    → broken_with (fault ∷ more) ≡ broken_with [] → A
not_none fault more h =
    let k : length (fault ∷ more) ≡ 0 =
    ap (λ (v : Verdict (Option First)). length (faults_of v)) h in
    absurd (omega (arith, k))

left_fails : (values : Option First) (v w : Verdict First) (fault : PartFault)
    → FailsPart (joined_by values v) fault
    → FailsPart (left values (both v w (λ x others. Stands (first_behind x others)))) fault
left_fails values v w Memory h = record { cause = tt }
left_fails values (Stands v) w (Source kind place) h = none_in _ h.cause
left_fails values (Breaks []) w (Source kind place) h = none_in _ h.cause
left_fails (Some values) (Breaks (fault ∷ more)) w (Source kind place) h =
    record { cause = Contains-append_left (fault ∷ more) (faults_of w) _ h.cause }
left_fails None (Breaks (fault ∷ more)) w (Source kind place) h =
    record { cause = Contains-append_left (fault ∷ more) (faults_of w) _ h.cause }
left_fails values (Stands v) w Fallen h = stands_not _ h.cause
left_fails values (Breaks []) w Fallen h = stands_not _ h.cause
left_fails values (Breaks (fault ∷ more)) w Fallen h = not_none fault more h.cause

-- ---- all of a list

pub joins_begins : (all : List held.Init → Verdict First) (list : List held.Init) (done : First)
    → done ≡ no_cells → Joined all list 0 (Some done)
joins_begins all list done e =
    let P : First → Type 0 = λ it. Joined all list 0 (Some it) in
    subst P (sym e) (record { same = begun (all list) })
  where
    begun : (w : Verdict First) → w ≡ left (Some no_cells) w
    begun (Stands x) = refl
    begun (Breaks faults) = refl

ends : (done : Option First) → left done (Stands no_cells) ≡ stood_by done
ends None = refl
ends (Some done) = ap (λ (it : First). Stands it) (behind_none done)

module _ (one : held.Init → Verdict First) (all : List held.Init → Verdict First)
    (law : Joins one all) (list : List held.Init) (i : ℕ) (done : Option First) where
  -- the next value in front of the rest
  in_front : (x : held.Init) → i < length list → x ≡ get_or list i x
      → all (drop i list) ≡ both (one x) (all (drop (i + 1) list))
      (λ v others. Stands (first_behind v others))
  in_front x lt e = ap all (next list i x lt e) ∙ law.more x (drop (i + 1) list)

  so_far_is : (x : held.Init) → Joined all list i done → i < length list → x ≡ get_or list i x
      → all list ≡ left done (both (one x) (all (drop (i + 1) list))
      (λ v others. Stands (first_behind v others)))
  so_far_is x so_far lt e = so_far.same ∙ ap (λ (w : Verdict First). left done w) (in_front x lt e)

  pub joins_more : (x : held.Init) (now : Option First) → Joined all list i done
      → i < length list → x ≡ get_or list i x → joined_by done (one x) ≡ Stands now
      → Joined all list (i + 1) now
  joins_more x now so_far lt e stands = record {
    same = so_far_is x so_far lt e
        ∙ left_step done (one x) (all (drop (i + 1) list)) now stands;
  }

  pub joins_fails : (x : held.Init) (fault : PartFault) → Joined all list i done
      → i < length list → x ≡ get_or list i x → FailsPart (joined_by done (one x)) fault
      → FailsPart (all list) fault
  joins_fails x fault so_far lt e h =
      let P : Verdict First → Type 0 = λ w. FailsPart w fault in
      subst P (sym (so_far_is x so_far lt e))
      (left_fails done (one x) (all (drop (i + 1) list)) fault h)

  pub joins_answers : (result : Result cells.First PartFault) → Joined all list i done
      → length list ≤ i → PartAnswers first_view (stood_by done) result
      → PartAnswers first_view (all list) result
  joins_answers result so_far le h =
      let P : Verdict First → Type 0 = λ w. PartAnswers first_view w result in
      subst P (sym (so_far.same
      ∙ ap (λ (xs : List held.Init). left done (all xs)) (drop_all i list le)
      ∙ ap (λ (w : Verdict First). left done w) law.none
      ∙ ends done)) h

-- ---- lists of cells, and lists of rows

module _ (cx : Around) (scope : Scope) (at : At) (tag : ℕ) where
  abbrev pub all_cells : List held.Init → Verdict First
  all_cells xs = cells_of_list cx scope at tag (inits (map init_view xs))

  abbrev pub one_cell : held.Init → Verdict First
  one_cell x = cell_of_list cx scope at tag (init_view x)

  pub cells_law : Joins one_cell all_cells
  cells_law = record { none = refl; more = λ x xs. refl }

  abbrev pub all_rows : List ℕ → List held.Init → Verdict First
  all_rows sizes xs = rows cx scope at tag sizes (inits (map init_view xs))

  abbrev pub one_row : List ℕ → held.Init → Verdict First
  one_row sizes x = first_cells cx scope at tag sizes (init_view x)

  pub rows_law : (sizes : List ℕ) → Joins (one_row sizes) (all_rows sizes)
  rows_law sizes = record { none = refl; more = λ x xs. refl }
