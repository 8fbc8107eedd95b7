-- A map with keys of bytes, seen as a finite map: what a change at one key leaves.
use Rattle.std.proofs.Common.{◌≡◌, ℕ, List, [], ◌∷◌, true, false, cond, Option, Some, None, ⊎_elim}
use Rattle.std.proofs.Common.{map, refl, sym, ap, subst, ◌∙◌}
use Rattle.std.specs.Str.{bytes_eq}
use Rattle.std.specs.Ordering.{nat_cmp, eq_by_cmp}
use Rattle.std.specs.Cmp.Lexicographic.{slice_cmp, texts_ties, bytes_decides, nat_list_eq_equiv}
use Rattle.std.specs.FinMap.{find, get, insert, remove, get-from_entries, get-insert, get-remove}
use Rattle.std.specs.FinMap.{same_map, slice_cmp-IsAntisymmetric, nat_cmp-IsAntisymmetric}
use Rattle.std.specs.Map.{KeepsOthers, lookup}
use Rattle.std.proofs.lemmas.Cmp.{nat_list_cmp_total}
use Rattle.std.proofs.lemmas.Bool.{cases_Bool, cond-true, cond-false}
use Rattle.pawn_pre.specs.declared.rule.Rule.{Rule}
use Rattle.pawn_pre.specs.Table.{rules_of}

-- a name equals one of two different names at most
apart : (name key known : List ℕ) → bytes_eq name key ≡ false → bytes_eq name known ≡ true
    → bytes_eq key known ≡ false
apart name key known other same =
    nat_list_eq_equiv.symm key known ∙ sym (nat_list_eq_equiv.congr name known key same) ∙ other

-- a table is w at a name, and as it was at others
by_name : {W : Type 0} (old new : List ℕ → W) (name : List ℕ) (w : W) → new name ≡ w →
    ((key : List ℕ) → bytes_eq name key ≡ false → new key ≡ old key) →
    (key : List ℕ) → new key ≡ cond (bytes_eq name key) w (old key)
by_name old new name w here other key =
    ⊎_elim
    (λ y. subst (λ l. new l ≡ w) ((bytes_decides name key).0 y) here
    ∙ sym (cond-true (bytes_eq name key) w (old key) y))
    (λ n. other key n ∙ sym (cond-false (bytes_eq name key) w (old key) n))
    (cases_Bool (bytes_eq name key))

same_test : (name key : List ℕ) → eq_by_cmp (slice_cmp nat_cmp) key name ≡ bytes_eq name key
same_test name key = sym (texts_ties key name) ∙ nat_list_eq_equiv.symm key name

module _ {K : Type 0} (bytes_of : K → List ℕ) where
  found : (es : List (K × Rule)) (name : List ℕ)
      → find (slice_cmp nat_cmp) name (map (λ e. (bytes_of e.0, e.1)) es)
      ≡ lookup (λ k. bytes_eq name (bytes_of k)) es
  found [] name = refl
  found (e ∷ es) name =
      ap (λ t. cond t (Some e.1) (find (slice_cmp nat_cmp) name
      (map (λ e. (bytes_of e.0, e.1)) es))) (sym (texts_ties name (bytes_of e.0)))
      ∙ ap (λ o. cond (bytes_eq name (bytes_of e.0)) (Some e.1) o) (found es name)

  pub find_lookup : (es : List (K × Rule)) (name : List ℕ)
      → get (rules_of bytes_of es) name ≡ lookup (λ k. bytes_eq name (bytes_of k)) es
  find_lookup es name = get-from_entries nat_list_cmp_total _ name ∙ found es name

  module _ (old new : List (K × Rule)) (name : List ℕ) where
    changed : (w : Option Rule) → lookup (λ k. bytes_eq name (bytes_of k)) new ≡ w →
        KeepsOthers (λ x y. bytes_eq (bytes_of x) (bytes_of y))
        (λ k. bytes_eq name (bytes_of k)) old new →
        (key : List ℕ) → get (rules_of bytes_of new) key
        ≡ cond (bytes_eq name key) w (get (rules_of bytes_of old) key)
    unfolding KeepsOthers
    changed w here others key =
        find_lookup new key
        ∙ by_name (λ q. lookup (λ k. bytes_eq q (bytes_of k)) old)
        (λ q. lookup (λ k. bytes_eq q (bytes_of k)) new) name w here
        (λ q n. others (λ k. bytes_eq q (bytes_of k))
        (λ x y. nat_list_eq_equiv.congr q (bytes_of x) (bytes_of y))
        (λ k. apart name q (bytes_of k) n)) key
        ∙ ap (λ o. cond (bytes_eq name key) w o) (sym (find_lookup old key))

    pub inserted : (rule : Rule) → lookup (λ k. bytes_eq name (bytes_of k)) new ≡ Some rule →
        KeepsOthers (λ x y. bytes_eq (bytes_of x) (bytes_of y))
        (λ k. bytes_eq name (bytes_of k)) old new →
        rules_of bytes_of new ≡ insert (rules_of bytes_of old) name rule
    inserted rule here others =
        same_map nat_list_cmp_total (slice_cmp-IsAntisymmetric nat_cmp-IsAntisymmetric) _ _ (λ key.
        changed (Some rule) here others key
        ∙ ap (λ t. cond t (Some rule) (get (rules_of bytes_of old) key)) (sym (same_test name key))
        ∙ sym (get-insert nat_list_cmp_total (rules_of bytes_of old) name rule key))

    pub removed : lookup (λ k. bytes_eq name (bytes_of k)) new ≡ None →
        KeepsOthers (λ x y. bytes_eq (bytes_of x) (bytes_of y))
        (λ k. bytes_eq name (bytes_of k)) old new →
        rules_of bytes_of new ≡ remove (rules_of bytes_of old) name
    removed here others =
        same_map nat_list_cmp_total (slice_cmp-IsAntisymmetric nat_cmp-IsAntisymmetric) _ _ (λ key.
        changed None here others key
        ∙ ap (λ t. cond t None (get (rules_of bytes_of old) key)) (sym (same_test name key))
        ∙ sym (get-remove nat_list_cmp_total (rules_of bytes_of old) name key))
