-- The faults of functions: those of their bodies and those of their heads together.
use Rattle.std.proofs.Common.{◌≡◌, List, [], ◌∷◌, ◌++◌, ◌⊎◌, inl, inr, Result, Ok, Err, refl, sym}
use Rattle.std.proofs.Common.{ap₂, subst, ◌∙◌}
use Rattle.std.specs.Prelude.{flat_map}
use Rattle.std.specs.List.{Contains}
use Rattle.std.proofs.lemmas.List.Elements.{Contains-append_left, Contains-append_right}
use Rattle.std.proofs.lemmas.List.Elements.{Contains-append_cases}
use Rattle.names_rules.specs.Verdict.{Fault}
use Rattle.pawn_verdict.specs.Answers.{Fails}
use Rattle.pawn_verdict.specs.declared.fault.CheckFault.{CheckFault}
use Rattle.pawn_verdict.specs.declared.fault.CheckFault.TheVariants.{Source as Broken, Memory}
use Rattle.check_functions.specs.Finds.{Finds}

module _ {X : Type 0} (f g h whole : X → List Fault)
    (is : (x : X) → whole x ≡ f x ++ (g x ++ h x)) where
  first_in : (x : X) (y : Fault) → Contains (f x ++ g x) y → Contains (whole x) y
  first_in x y c =
      subst (λ (fs : List Fault). Contains fs y) (sym (is x))
      (elim (Contains-append_cases (f x) (g x) y c) [
        | inl a ↦ Contains-append_left (f x) (g x ++ h x) y a
        | inr b ↦ Contains-append_right (f x) (g x ++ h x) y (Contains-append_left (g x) (h x) y b)
      ])

  second_in : (x : X) (y : Fault) → Contains (h x) y → Contains (whole x) y
  second_in x y c =
      subst (λ (fs : List Fault). Contains fs y) (sym (is x))
      (Contains-append_right (f x) (g x ++ h x) y (Contains-append_right (g x) (h x) y c))

  all_in : (part : X → List Fault)
      → ((x : X) (y : Fault) → Contains (part x) y → Contains (whole x) y)
      → (xs : List X) (y : Fault)
      → Contains (flat_map part xs) y → Contains (flat_map whole xs) y
  all_in part mine [] y c = c
  all_in part mine (x ∷ xs) y c =
      by (all_in part mine xs y) (Contains-append_cases (part x) (flat_map part xs) y c)
    where
      by : (Contains (flat_map part xs) y → Contains (flat_map whole xs) y)
          → (Contains (part x) y ⊎ Contains (flat_map part xs) y)
          → Contains (flat_map whole (x ∷ xs)) y
      by rest (inl a) = Contains-append_left (whole x) (flat_map whole xs) y (mine x y a)
      by rest (inr b) = Contains-append_right (whole x) (flat_map whole xs) y (rest b)

  fails_in : (part : X → List Fault)
      → ((x : X) (y : Fault) → Contains (part x) y → Contains (whole x) y)
      → (xs : List X) (fault : CheckFault)
      → Fails (flat_map part xs) fault → Fails (flat_map whole xs) fault
  fails_in part mine xs (Broken kind place) k =
      record { cause = all_in part mine xs (record { kind = kind; place = place }) k.cause }
  fails_in part mine xs Memory k = record { cause = tt }

  pub joined_first : (xs : List X) (fault : CheckFault)
      → Finds (flat_map (λ (x : X). f x ++ g x) xs) (Err fault)
      → Finds (flat_map whole xs) (Err fault)
  joined_first xs fault k =
      record { told = fails_in (λ (x : X). f x ++ g x) first_in xs fault k.told }

  none_left : (a b : List Fault) → a ++ b ≡ [] → a ≡ []
  none_left [] b e = refl
  none_left (x ∷ a) b e = absurd (let no : ⊥ = cc in no)

  none_right : (a b : List Fault) → a ++ b ≡ [] → b ≡ []
  none_right [] b e = e
  none_right (x ∷ a) b e = absurd (let no : ⊥ = cc in no)

  none_whole : (xs : List X) → flat_map (λ (x : X). f x ++ g x) xs ≡ [] → flat_map h xs ≡ []
      → flat_map whole xs ≡ []
  none_whole [] e k = refl
  none_whole (x ∷ xs) e k =
      let fg = none_left (f x ++ g x) (flat_map (λ (y : X). f y ++ g y) xs) e in
      ap₂ (λ (a b : List Fault). a ++ b)
      (is x ∙ ap₂ (λ (a b : List Fault). a ++ b) (none_left (f x) (g x) fg)
      (ap₂ (λ (a b : List Fault). a ++ b) (none_right (f x) (g x) fg)
      (none_left (h x) (flat_map h xs) k)))
      (none_whole xs (none_right (f x ++ g x) (flat_map (λ (y : X). f y ++ g y) xs) e)
      (none_right (h x) (flat_map h xs) k))

  pub joined_second : (xs : List X) (x : Unit {0}) (result : Result (Unit {0}) CheckFault)
      → Finds (flat_map (λ (y : X). f y ++ g y) xs) (Ok x)
      → Finds (flat_map h xs) result → Finds (flat_map whole xs) result
  joined_second xs x (Ok y) e k = record { told = none_whole xs e.told k.told }
  joined_second xs x (Err fault) e k = record { told = fails_in h second_in xs fault k.told }
