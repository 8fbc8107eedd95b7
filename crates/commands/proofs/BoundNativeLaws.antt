-- Natives that a file's binding finds are those that a script serves.
use Rattle.std.proofs.Common.{◌≡◌, ◌+◌, inl, inr, ℕ, List, [], ◌∷◌, Bool, true, false, cond, Option}
use Rattle.std.proofs.Common.{None, Some, All, Any, map, get_or, refl, subst}
use Rattle.std.specs.Prelude.{is_none, nat_eq, if◌then◌else◌}
use Rattle.std.specs.List.{position_from}
use Rattle.std.specs.Cmp.Lexicographic.{pointwise, bytes_decides}
use Rattle.std.proofs.lemmas.List.{get_or_default}
use Rattle.std.proofs.lemmas.List.Elements.{All-nil, All-cons}
use Rattle.std.proofs.lemmas.List.Quantifiers.{position-Some}
use Rattle.host_script.specs.declared.script.Script.{Script}
use Rattle.host_script.specs.declared.script.Native.{Native}
use Rattle.host_script.specs.Script.{unlisted}
use Rattle.amx_ops.specs.declared.amx.Record.{Record}
use Rattle.host_run.specs.Bound.{entry_of, unserved}
use Rattle.gen_agrees.specs.Agrees.{Serves}
use Rattle.gen_agrees.specs.Shape.{native_record}

module _ (script : Script) where
  abbrev IsListed : List ℕ → Type 0
  IsListed name = Any (λ (it : Native). it.name ≡ name) script.natives

  abbrev is_named : List ℕ → Native → Bool
  is_named name native = pointwise nat_eq native.name name

  -- a name with an entry is listed
  listed : (name : List ℕ) (entry : Option ℕ) → entry_of script name ≡ entry → is_none entry ≡ false
      → IsListed name
  listed name None e some = absurd (cc some)
  listed name (Some place) e some =
      let none : Native = unlisted name in
      let found = position-Some (is_named name) script.natives place none e in
      let it : Native = get_or script.natives place none in (
        place,
        it,
        found.0,
        get_or_default script.natives place it none found.0,
        (bytes_decides it.name name).0 found.1,
      )

  abbrev first_unlisted : ℕ → List (List ℕ) → Option ℕ
  first_unlisted i names =
      position_from (λ (it : Record). is_none (entry_of script it.name)) i (map native_record names)

  by_test : (i : ℕ) (name : List ℕ) (names : List (List ℕ)) (b : Bool)
      → is_none (entry_of script name) ≡ b
      → (first_unlisted (i + 1) names ≡ None → All IsListed names)
      → cond b (Some i) (first_unlisted (i + 1) names) ≡ None → All IsListed (name ∷ names)
  by_test i name names true is rest e = absurd (cc e)
  by_test i name names false is rest e =
      All-cons IsListed name names (listed name (entry_of script name) refl is) (rest e)

  all_listed : (i : ℕ) (names : List (List ℕ)) → first_unlisted i names ≡ None → All IsListed names
  all_listed i [] e = All-nil IsListed
  all_listed i (name ∷ names) e =
      by_test i name names (is_none (entry_of script name)) refl (all_listed (i + 1) names) e

  by_others : (names : List (List ℕ)) (b : Bool) → script.others ≡ b
      → (if b then None else first_unlisted 0 names) ≡ None → Serves script names
  by_others names true is e = inl is
  by_others names false is e = inr (all_listed 0 names e)

  pub serves : (natives : List Record) (names : List (List ℕ)) → natives ≡ map native_record names
      → unserved script natives ≡ None → Serves script names
  serves natives names are none =
      let P : List Record → Type 0 = λ them. unserved script them ≡ None in
      by_others names script.others refl (subst P are none)
