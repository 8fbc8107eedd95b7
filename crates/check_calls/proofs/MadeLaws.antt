-- What was made and found in arguments that aren't judged.
use Rattle.std.proofs.Common.{◌≡◌, ◌+◌, ◌<◌, ◌≤◌, ℕ, List, [], ◌∷◌, ◌++◌, length, drop, get_or, map}
use Rattle.std.proofs.Common.{refl, sym, subst, ◌∙◌, append_assoc, append-nil}
use Rattle.std.specs.Prelude.{flat_map}
use Rattle.std.proofs.lemmas.List.{drop_all, length_push}
use Rattle.check_nodes.proofs.ThreadLaws.{next}

module _ {H G X : Type 0} (view : H → G) (of : G → List X) (list : List H) where
  -- what so many elements have, and what the rest has behind it
  pub record Gathered (i : ℕ) (done : List X) : Type 0 where
    pub same : flat_map of (map view list) ≡ done ++ flat_map of (map view (drop i list))

  pub none_gathered : (done : List X) → done ≡ [] → Gathered 0 done
  none_gathered done e = record { same = rw e refl }

  pub more_gathered : (xs : List H) (g : H) (done both : List X) → Gathered (length xs) done
      → (length xs < length list) × (g ≡ get_or list (length xs) g) → both ≡ done ++ of (view g)
      → Gathered (length (xs ++ g ∷ [])) both
  more_gathered xs g done both so_far turn e =
      let P : ℕ → Type 0 = λ i. Gathered i both in
      let here : Gathered (length xs + 1) both = record {
        same = so_far.same ∙ rw (next list (length xs) g turn.0 turn.1, e)
            (sym (append_assoc done (of (view g))
            (flat_map of (map view (drop (length xs + 1) list)))));
      } in
      subst P (sym (length_push xs g)) here

  pub all_gathered : {i : ℕ} {done : List X} → Gathered i done → length list ≤ i
      → done ≡ flat_map of (map view list)
  all_gathered {i} {done} so_far le =
      sym (so_far.same ∙ rw (drop_all i list le) (append-nil done))
