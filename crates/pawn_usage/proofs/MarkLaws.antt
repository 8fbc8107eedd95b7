-- Marks that change one by one, each forward, keep what they say of the functions.
use Rattle.std.proofs.Common.{◌≡◌, ◌⊎◌, inl, inr, ◌+◌, ◌-◌, ◌≤◌, ℕ, zero, suc, List, [], ◌∷◌}
use Rattle.std.proofs.Common.{Option, None, Some, Bool, true, false, refl, sym, ap, subst, ◌∙◌}
use Rattle.std.proofs.Common.{arith, slice_get, slice_set, get_or, nat_eq}
use Rattle.std.specs.Prelude.{sum_by}
use Rattle.std.proofs.lemmas.Bool.{eqb-true, eqb-false}
use Rattle.std.proofs.lemmas.List.Sums.{sum_by-set}
use Rattle.std.proofs.lemmas.Option.{slice_get_within, get_or_from_slice_get}
use Rattle.pawn_meaning.specs.Program.{Program}
use Rattle.pawn_usage.specs.declared.search.Progress.{Progress}
use Rattle.pawn_usage.specs.declared.search.Progress.TheVariants.{Fresh, Open, Closed}
use Rattle.pawn_usage.specs.declared.search.Mark.{Mark}
use Rattle.pawn_usage.specs.Chains.{need_at}
use Rattle.pawn_usage.specs.Marks.{stage, stage_of, stage_at, cells_of, steps_left}
use Rattle.pawn_usage.specs.Marks.{IsBelow, LeadsTo, IsMarked, GoesOn}

-- ---- one place of a list

pub get_set_same : {A : Type 0} (xs : List A) (i : ℕ) (x y : A) → slice_get xs i ≡ Some y
    → slice_get (slice_set xs i x) i ≡ Some x
get_set_same [] i x y e = absurd (let differs : ⊥ = cc in differs)
get_set_same (z ∷ zs) zero x y e = refl
get_set_same (z ∷ zs) (suc i) x y e = get_set_same zs i x y e

pub get_set_other : {A : Type 0} (xs : List A) (i j : ℕ) (x : A) → (j ≡ i → ⊥)
    → slice_get (slice_set xs i x) j ≡ slice_get xs j
get_set_other [] i j x differs = refl
get_set_other (z ∷ zs) zero zero x differs = absurd (differs refl)
get_set_other (z ∷ zs) zero (suc j) x differs = refl
get_set_other (z ∷ zs) (suc i) zero x differs = refl
get_set_other (z ∷ zs) (suc i) (suc j) x differs = get_set_other zs i j x (λ e. differs (ap suc e))

either_by : (g f : ℕ) (b : Bool) → nat_eq g f ≡ b → (g ≡ f) ⊎ (g ≡ f → ⊥)
either_by g f true e = inl (eqb-true g f e)
either_by g f false e = inr (eqb-false g f e)

pub same_or : (g f : ℕ) → (g ≡ f) ⊎ (g ≡ f → ⊥)
same_or g f = either_by g f (nat_eq g f) refl

pub some_is : {A : Type 0} (x y : A) → Some x ≡ Some y → x ≡ y
some_is x y e = cc

pub none_clash : {A : Type 0} (x : A) → None ≡ Some x → ⊥
none_clash x e = cc

-- ---- stages

pub stage_closed : (p : Progress) → stage p ≡ 2 → p ≡ Closed
stage_closed (Fresh n) e = absurd (omega (arith, e))
stage_closed (Open n) e = absurd (omega (arith, e))
stage_closed Closed e = refl

module _ (program : Program) where
  -- a function whose search isn't done gets another mark
  pub record IsChange (marks : List Mark) (f : ℕ) (old new : Mark) : Type 0 where
    pub there : slice_get marks f ≡ Some old
    pub undone : stage old.progress ≤ 1
    pub on : stage old.progress ≤ stage new.progress
    pub now_is : IsMarked program marks f new

  module _ (marks : List Mark) (f : ℕ) (old new : Mark) (change : IsChange marks f old new) where
    abbrev next : List Mark
    next = slice_set marks f new

    pub here : slice_get next f ≡ Some new
    here = get_set_same marks f new old change.there

    pub elsewhere : (g : ℕ) → (g ≡ f → ⊥) → slice_get next g ≡ slice_get marks g
    elsewhere g differs = get_set_other marks f g new differs

    pub stage_before : stage_at marks f ≡ stage old.progress
    stage_before = ap stage_of change.there

    pub stage_here : stage_at next f ≡ stage new.progress
    stage_here = ap stage_of here

    -- a function that is done is another one
    done_is_other : (g : ℕ) → stage_at marks g ≡ 2 → g ≡ f → ⊥
    done_is_other g done same =
        let s : stage_at marks g ≡ stage_at marks f = ap (stage_at marks) same in
        absurd (omega (arith, s, done, stage_before, change.undone))

    below_on : (need cells g : ℕ) → IsBelow program marks need cells g
        → IsBelow program next need cells g
    below_on need cells g below mark e = by_place (same_or g f)
      where
        by_place : (g ≡ f) ⊎ (g ≡ f → ⊥) → (mark.progress ≡ Closed) × (need + mark.cells ≤ cells)
        by_place (inl same) =
            let b = below old (ap (slice_get marks) same ∙ change.there) in
            let s : stage old.progress ≡ 2 = ap stage b.0 in
            absurd (omega (arith, s, change.undone))
        by_place (inr differs) = below mark (sym (elsewhere g differs) ∙ e)

    leads_on : (g cells : ℕ) (o : Option ℕ) → LeadsTo program marks g cells o
        → LeadsTo program next g cells o
    leads_on g cells None h = h
    leads_on g cells (Some k) h =
        let same = elsewhere k (done_is_other k h.1) in
        (h.0, ap stage_of same ∙ h.1, h.2 ∙ ap (λ o. need_at program g + cells_of o) (sym same))

    marked_on : (g : ℕ) (mark : Mark) → IsMarked program marks g mark
        → IsMarked program next g mark
    marked_on g mark m = record {
      own = m.own;
      callees = λ i k e l. below_on (need_at program g) mark.cells k (m.callees i k e l);
      next = leads_on g mark.cells mark.next m.next;
    }

    pub all_marked : ((g : ℕ) (mark : Mark) → slice_get marks g ≡ Some mark
        → IsMarked program marks g mark)
        → (g : ℕ) (mark : Mark) → slice_get next g ≡ Some mark → IsMarked program next g mark
    all_marked all g mark e = by_place (same_or g f)
      where
        by_place : (g ≡ f) ⊎ (g ≡ f → ⊥) → IsMarked program next g mark
        by_place (inl same) =
            let is : new ≡ mark =
            some_is new mark (sym here ∙ ap (slice_get next) (sym same) ∙ e) in
            subst (λ x. IsMarked program next g x) is
            (subst (λ x. IsMarked program next x new) (sym same)
            (marked_on f new change.now_is))
        by_place (inr differs) = marked_on g mark (all g mark (sym (elsewhere g differs) ∙ e))

    pub goes_on : GoesOn marks next
    goes_on g = by_place (same_or g f)
      where
        by_place : (g ≡ f) ⊎ (g ≡ f → ⊥) → stage_at marks g ≤ stage_at next g
        by_place (inl same) =
            let a : stage_at marks g ≡ stage_at marks f = ap (stage_at marks) same in
            let b : stage_at next g ≡ stage_at next f = ap (stage_at next) same in
            omega (arith, a, b, stage_before, stage_here, change.on)
        by_place (inr differs) =
            let a : stage_at next g ≡ stage_at marks g = ap stage_of (elsewhere g differs) in
            omega (arith, a)

    pub steps_change : sum_by (λ (mark : Mark). steps_left mark.progress) next + steps_left old.progress
        ≡ sum_by (λ (mark : Mark). steps_left mark.progress) marks + steps_left new.progress
    steps_change =
        let e = sum_by-set (λ (mark : Mark). steps_left mark.progress) marks f new old
        (slice_get_within marks f old change.there) in
        let o : get_or marks f old ≡ old =
        get_or_from_slice_get marks f old old change.there in
        ap (λ (x : Mark). sum_by (λ (mark : Mark). steps_left mark.progress) next + steps_left x.progress)
        (sym o) ∙ e
