-- Natives that a script serves are bound.
use Rattle.std.proofs.Common.{◌≡◌, ◌<◌, ◌+◌, inl, inr, ℕ, zero, suc, List, [], ◌∷◌, Bool, true}
use Rattle.std.proofs.Common.{false, not, cond, Option, None, Some, All, Any, map, length, get_or}
use Rattle.std.proofs.Common.{nat_lt, refl, sym, ap, subst, ◌∙◌, arith}
use Rattle.std.specs.Prelude.{is_none, nat_eq, if◌then◌else◌}
use Rattle.std.specs.List.{position_from, position_or_len}
use Rattle.std.specs.Cmp.Lexicographic.{pointwise, bytes_decides}
use Rattle.std.proofs.lemmas.Bool.{ltb-false}
use Rattle.std.proofs.lemmas.List.Elements.{All-head, All-tail}
use Rattle.host_script.specs.declared.script.Script.{Script}
use Rattle.host_script.specs.declared.script.Native.{Native}
use Rattle.amx_ops.specs.declared.amx.Record.{Record}
use Rattle.host_run.specs.Bound.{entry_of, unserved}
use Rattle.gen_agrees.specs.Agrees.{Serves}
use Rattle.gen_agrees.specs.Shape.{native_record}

module _ {X : Type 0} (p : X → Bool) where
  found_by : (x : X) (xs : List X) (b : Bool) → p x ≡ b
      → ((b ≡ false) → position_or_len p xs < length xs)
      → cond (not b) (1 + position_or_len p xs) 0 < suc (length xs)
  found_by x xs true e rest = omega arith
  found_by x xs false e rest = let h = rest refl in omega (arith, h)

  found : (xs : List X) (k : ℕ) (d : X) → k < length xs → p (get_or xs k d) ≡ true
      → position_or_len p xs < length xs
  found [] k d h e = absurd (omega (arith, h))
  found (x ∷ xs) zero d h e =
      let P : Bool → Type 0 = λ b. cond (not b) (1 + position_or_len p xs) 0 < suc (length xs) in
      subst P (sym e) (omega arith)
  found (x ∷ xs) (suc k) d h e = found_by x xs (p x) refl (λ f. found xs k d (omega (arith, h)) e)

module _ (script : Script) where
  abbrev IsListed : List ℕ → Type 0
  IsListed name = Any (λ (it : Native). it.name ≡ name) script.natives

  abbrev is_named : List ℕ → Native → Bool
  is_named name native = pointwise nat_eq native.name name

  entry_by : (name : List ℕ) (b : Bool)
      → nat_lt (position_or_len (is_named name) script.natives) (length script.natives) ≡ b
      → position_or_len (is_named name) script.natives < length script.natives
      → is_none (cond b (Some (position_or_len (is_named name) script.natives)) None) ≡ false
  entry_by name true e h = refl
  entry_by name false e h =
      let past =
      ltb-false (position_or_len (is_named name) script.natives)
      (length script.natives) e in absurd (omega (arith, past, h))

  -- a name that is listed has an entry
  has_entry : (name : List ℕ) → IsListed name → is_none (entry_of script name) ≡ false
  has_entry name it =
      let same : get_or script.natives it.0 it.1 ≡ it.1 = it.3 in
      let named : is_named name (get_or script.natives it.0 it.1) ≡ true =
      ap (is_named name) same ∙ (bytes_decides it.1.name name).1 it.4 in
      entry_by name _ refl (found (is_named name) script.natives it.0 it.1 it.2 named)

  none_unlisted : (i : ℕ) (names : List (List ℕ)) → All IsListed names
      → position_from (λ (it : Record). is_none (entry_of script it.name)) i
      (map native_record names) ≡ None
  none_unlisted i [] all = refl
  none_unlisted i (name ∷ names) all =
      let rest =
      position_from (λ (it : Record). is_none (entry_of script it.name)) (i + 1)
      (map native_record names) in
      ap (λ b. cond b (Some i) rest) (has_entry name (All-head IsListed name names all))
      ∙ none_unlisted (i + 1) names (All-tail IsListed name names all)

  by_others : (b : Bool) (o : Option ℕ) → o ≡ None → (if b then None else o) ≡ None
  by_others true o e = refl
  by_others false o e = e

  by_serves : (names : List (List ℕ)) → Serves script names
      → unserved script (map native_record names) ≡ None
  by_serves names (inl others) =
      ap (λ b. if b then None else position_from
      (λ (it : Record). is_none (entry_of script it.name)) 0 (map native_record names)) others
  by_serves names (inr all) = by_others script.others _ (none_unlisted 0 names all)

  pub bound : (natives : List Record) (names : List (List ℕ)) → natives ≡ map native_record names
      → Serves script names → unserved script natives ≡ None
  bound natives names are serves =
      let P : List Record → Type 0 = λ them. unserved script them ≡ None in
      subst P (sym are) (by_serves names serves)
