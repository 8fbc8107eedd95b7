-- The arguments of a call, one by one.
use Rattle.std.proofs.Common.{◌≡◌, ◌+◌, ◌<◌, ℕ, List, [], ◌∷◌, ◌++◌, length, get_or, map, Option}
use Rattle.std.proofs.Common.{None, refl, ap, subst, sym}
use Rattle.std.proofs.lemmas.List.{length_push}
use Rattle.names_rules.specs.Verdict.{Verdict, Stands}
use Rattle.types_rules.specs.Around as around
use Rattle.types_rules.specs.Filling as filling
use Rattle.check_nodes.specs.declared.context.Param.{Param}
use Rattle.check_nodes.specs.ContextView.{param_view}
use Rattle.check_nodes.proofs.ThreadLaws.{Threaded, thread_more}
use Rattle.check_calls.specs.Empty.{nothing_for}
use Rattle.check_calls.specs.FillingView.{slots_view}

-- slots with nothing in them
pub nothing_seen : (params : List Param) → slots_view (map nothing_for params)
    ≡ map (λ (param : around.Param). None) (map param_view params)
nothing_seen [] = refl
nothing_seen (param ∷ params) =
    ap (λ (slots : List (Option filling.Filled)). None ∷ slots) (nothing_seen params)

module _ {T G H : Type 0} (view : H → G) (step : T → G → Verdict T) (begin : T)
    (list : List H) where
  -- behind one more element of those that a loop has taken
  pub taken_more : (xs : List H) (g : H) (done x : T)
      → Threaded view step begin list (length xs) done
      → (length xs < length list) × (g ≡ get_or list (length xs) g) → step done (view g) ≡ Stands x
      → Threaded view step begin list (length (xs ++ g ∷ [])) x
  taken_more xs g done x so_far turn stands =
      let P : ℕ → Type 0 = λ i. Threaded view step begin list i x in
      subst P (sym (length_push xs g))
      (thread_more view step begin list g x so_far turn.0 turn.1 stands)
