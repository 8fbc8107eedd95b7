-- The names that are known everywhere, one by one.
use Rattle.std.proofs.Common.{◌≡◌, ◌<◌, ◌+◌, ℕ, true, false, List, [], ◌∷◌}
use Rattle.std.proofs.Common.{◌++◌, length, get_or, drop, Option, Some, refl, sym, ap, ap₂, ◌∙◌}
use Rattle.std.proofs.Common.{append_assoc}
use Rattle.std.specs.Prelude.{slice_get, flat_map}
use Rattle.std.proofs.lemmas.List.{drop_more}
use Rattle.types_rules.specs.Around.{Head}
use Rattle.types_rules.specs.Scope.{Entry, Native}
use Rattle.types_rules.specs.Groups.{Group}
use Rattle.types_rules.specs.Headings.{Heading}
use Rattle.types_rules.specs.Sources.{Source, Stated, is_native, native_entries}
use Rattle.types_rules.specs.Sources.{function_entries, function_entry, group_tag, entry_for}
use Rattle.types_rules.specs.Sources.{name_of, stated_tag, forward_entry}
use Rattle.check_functions.proofs.CallableLaws.{natives_on, natives_behind, stated_here}
use Rattle.check_functions.proofs.CallableLaws.{native_passed, native_taken}

append_none : (xs : List Entry) → xs ≡ xs ++ []
append_none [] = refl
append_none (x ∷ xs) = ap (λ (r : List Entry). x ∷ r) (append_none xs)

-- ---- forwards

pub forwards_more : (source : Source) (headings : List Heading) (i : ℕ) (it : Heading)
    (old now whole : List Entry)
    → old ++ flat_map (λ (x : Heading). forward_entry source x x.role) (drop i headings) ≡ whole
    → i < length headings → it ≡ get_or headings i it
    → now ≡ old ++ forward_entry source it it.role
    → now ++ flat_map (λ (x : Heading). forward_entry source x x.role)
    (drop (i + 1) headings) ≡ whole
forwards_more source headings i it old now whole h lt is e =
    let rest : List Entry =
    flat_map (λ (x : Heading). forward_entry source x x.role) (drop (i + 1) headings) in
    let cut : drop i headings ≡ it ∷ drop (i + 1) headings =
    drop_more headings i it lt ∙ ap (λ (y : Heading). y ∷ drop (i + 1) headings) (sym is) in
    ap (λ (n : List Entry). n ++ rest) e ∙ append_assoc old (forward_entry source it it.role) rest
    ∙ ap (λ (hs : List Heading). old
    ++ flat_map (λ (x : Heading). forward_entry source x x.role) hs) (sym cut) ∙ h

-- ---- natives

module _ (source : Source) (headings : List Heading) (heads : List (Option Head)) (i : ℕ)
    (it : Heading) (here : slice_get headings i ≡ Some it) where
  abbrev rest : List Stated
  rest = natives_behind source headings heads i

  abbrev this : Stated
  this = stated_here source headings heads i it here

  pub entry_other : (number : ℕ) (old whole : List Entry)
      → old ++ native_entries source number (natives_on source headings heads i) ≡ whole
      → is_native it.role ≡ false → old ++ native_entries source number rest ≡ whole
  entry_other number old whole h other =
      ap (λ (all : List Stated). old ++ native_entries source number all)
      (sym (native_passed source headings heads i it here other))
      ∙ h

  pub entry_native : (number next : ℕ) (old now whole : List Entry)
      → old ++ native_entries source number (natives_on source headings heads i) ≡ whole
      → is_native it.role ≡ true
      → now ≡ old ++ entry_for source (name_of it.head.name)
      (Native number (stated_tag source this)) → next ≡ number + 1
      → now ++ native_entries source next rest ≡ whole
  unfolding native_entries
  entry_native number next old now whole h own e n =
      ap₂ (λ (xs : List Entry) (m : ℕ). xs ++ native_entries source m rest) e n
      ∙ append_assoc old (entry_for source (name_of it.head.name)
      (Native number (stated_tag source this)))
      (native_entries source (number + 1) rest)
      ∙ ap (λ (all : List Stated). old ++ native_entries source number all)
      (sym (native_taken source headings heads i it here own))
      ∙ h

pub natives_end : (source : Source) (n : ℕ) (done : List Entry)
    → done ≡ done ++ native_entries source n []
unfolding native_entries
natives_end source n done = append_none done

-- ---- functions

pub entries_more : (source : Source) (all : List Stated) (groups : List Group) (i : ℕ)
    (group : Group) (old now whole : List Entry)
    → old ++ function_entries source i all (drop i groups) ≡ whole → i < length groups
    → group ≡ get_or groups i group
    → now ≡ old ++ function_entry source i (group_tag source all group) group.key
    → now ++ function_entries source (i + 1) all (drop (i + 1) groups) ≡ whole
unfolding function_entries
entries_more source all groups i group old now whole h lt is e =
    let these : List Entry = function_entry source i (group_tag source all group) group.key in
    let rest : List Entry = function_entries source (i + 1) all (drop (i + 1) groups) in
    let cut : drop i groups ≡ group ∷ drop (i + 1) groups =
    drop_more groups i group lt ∙ ap (λ (y : Group). y ∷ drop (i + 1) groups) (sym is) in
    ap (λ (n : List Entry). n ++ rest) e ∙ append_assoc old these rest
    ∙ ap (λ (gs : List Group). old ++ function_entries source i all gs) (sym cut) ∙ h

pub entries_end : (source : Source) (all : List Stated) (n : ℕ) (done : List Entry)
    → done ≡ done ++ function_entries source n all []
unfolding function_entries
entries_end source all n done = append_none done
