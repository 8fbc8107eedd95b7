-- Lists of faults one behind another.
use Rattle.std.proofs.Common.{◌≡◌, ◌<◌, ◌+◌, ℕ, zero, suc, List, [], ◌∷◌, ◌++◌, map, length, get_or}
use Rattle.std.proofs.Common.{drop, Result, Ok, Err, refl, sym, ap, subst, ◌∙◌, arith}
use Rattle.std.specs.Prelude.{flat_map}
use Rattle.std.proofs.lemmas.List.{drop_more}
use Rattle.names_rules.specs.Verdict.{Fault}
use Rattle.pawn_verdict.specs.declared.fault.CheckFault.{CheckFault}
use Rattle.pawn_verdict.specs.declared.fault.CheckFault.TheVariants.{Memory}
use Rattle.pawn_verdict.proofs.VerdictLaws.{fails_left}
use Rattle.check_functions.specs.Finds.{Finds}

-- a fault of the first ones
pub finds_first : (xs ys : List Fault) (fault : CheckFault) → Finds xs (Err fault)
    → Finds (xs ++ ys) (Err fault)
finds_first xs ys fault h = record { told = fails_left xs ys fault h.told }

-- none of the first ones, and then what is told of the others
pub finds_second : (xs ys : List Fault) (x : Unit {0}) (result : Result (Unit {0}) CheckFault)
    → Finds xs (Ok x) → Finds ys result → Finds (xs ++ ys) result
finds_second xs ys x result h k =
    subst (λ (zs : List Fault). Finds (zs ++ ys) result) (sym h.told) k

pub finds_none : (x : Unit {0}) → Finds [] (Ok x)
finds_none x = record { told = refl }

-- want of memory is free
pub finds_memory : (xs : List Fault) → Finds xs (Err Memory)
finds_memory xs = record { told = record { cause = tt } }

pub ruleset finds = (finds_first, finds_second, finds_none, finds_memory)

-- ---- the faults of each element, element by element

module _ {X : Type 0} (faults : X → List Fault) where
  -- those of so many elements aren't there
  pub record FindsSoFar (items : List X) (i : ℕ) : Type 0 where
    pub same : flat_map faults items ≡ flat_map faults (drop i items)

  pub so_far_begins : (items : List X) → FindsSoFar items 0
  so_far_begins items = record { same = refl }

  cut : (items : List X) (i : ℕ) (it : X) → i < length items → it ≡ get_or items i it
      → flat_map faults (drop i items) ≡ faults it ++ flat_map faults (drop (i + 1) items)
  cut items i it lt is =
      ap (flat_map faults) (drop_more items i it lt
      ∙ ap (λ (y : X). y ∷ drop (i + 1) items) (sym is))

  pub so_far_more : (items : List X) (i : ℕ) (it : X) (x : Unit {0}) → FindsSoFar items i
      → i < length items → it ≡ get_or items i it → Finds (faults it) (Ok x)
      → FindsSoFar items (i + 1)
  so_far_more items i it x h lt is ok = record {
    same =
        h.same ∙ cut items i it lt is ∙ ap
        (λ (fs : List Fault). fs ++ flat_map faults (drop (i + 1) items)) ok.told;
  }

  pub so_far_fails : (items : List X) (i : ℕ) (it : X) (fault : CheckFault) → FindsSoFar items i
      → i < length items → it ≡ get_or items i it → Finds (faults it) (Err fault)
      → Finds (flat_map faults items) (Err fault)
  so_far_fails items i it fault h lt is e =
      subst (λ (fs : List Fault). Finds fs (Err fault)) (sym (h.same ∙ cut items i it lt is))
      (finds_first (faults it) (flat_map faults (drop (i + 1) items)) fault e)

-- what stands at a place of a list that is seen by a view
pub map_at : {A B : Type 0} (view : A → B) (items : List A) (i : ℕ) (it : A) → i < length items
    → it ≡ get_or items i it
    → (i < length (map view items)) × (view it ≡ get_or (map view items) i (view it))
map_at view [] i it lt is = absurd (omega (arith, lt))
map_at view (x ∷ xs) zero it lt is = (omega arith, ap view is)
map_at view (x ∷ xs) (suc i) it lt is =
    let less : i < length xs = omega (arith, lt) in
    let rest = map_at view xs i it less is in
    (omega (arith, rest.0), rest.1)
