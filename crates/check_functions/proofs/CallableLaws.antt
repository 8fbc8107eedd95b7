-- Functions, natives and user operators one by one.
use Rattle.std.proofs.Common.{◌≡◌, ◌<◌, ◌+◌, ℕ, zero, suc, Bool, true, false, if◌then◌else◌, List}
use Rattle.std.proofs.Common.{[], ◌∷◌, ◌++◌, map, length, get_or, drop, position, Option, Some}
use Rattle.std.proofs.Common.{None, refl, sym, ap, ap₂, ◌∙◌, arith, append_assoc}
use Rattle.std.specs.Prelude.{slice_get}
use Rattle.std.proofs.lemmas.List.{drop_more}
use Rattle.types_rules.specs.Around as plain
use Rattle.types_rules.specs.Around.{Head}
use Rattle.types_rules.specs.Groups as plain_groups
use Rattle.types_rules.specs.Headings.{Heading, belongs}
use Rattle.types_rules.specs.Sources.{Source, Stated, stated, group_tag, group_head, functions_from}
use Rattle.types_rules.specs.Sources.{natives_from, natives_in, is_native, is_called, stated_tag}
use Rattle.check_functions.specs.Stated.{head_at, heading_at, heading_tag, stated_head}
use Rattle.check_functions.proofs.StatedLaws.{group_tag_is, group_head_is}

-- ---- functions

pub function_is : (source : Source) (headings : List Heading) (heads : List (Option Head))
    (group : plain_groups.Group) (number i : ℕ) (first : Option ℕ) (it : plain.Callable)
    → it ≡ record {
      number = number;
      tag = heading_tag source (heading_at headings first);
      head = stated_head headings heads first;
    }
    → number ≡ i → first ≡ position (belongs source.tags source.fallback group.key) headings
    → it ≡ record {
      number = i;
      tag = group_tag source (stated source headings heads) group;
      head = group_head source (stated source headings heads) group;
    }
function_is source headings heads group number i first it e n f =
    let tag = sym (group_tag_is source headings heads group first f) in
    let head = sym (group_head_is source headings heads group first f) in
    e ∙ (λ j. record { number = n j; tag = tag j; head = head j })

module _ {X : Type 0} (view : X → plain_groups.Group) where
  pub functions_more : (source : Source) (all : List Stated) (groups : List X) (i : ℕ) (group : X)
      (old now whole : List plain.Callable)
      → old ++ functions_from source i all (map view (drop i groups)) ≡ whole → i < length groups
      → group ≡ get_or groups i group
      → now ≡ old ++ record {
        number = i;
        tag = group_tag source all (view group);
        head = group_head source all (view group);
      } ∷ []
      → now ++ functions_from source (i + 1) all (map view (drop (i + 1) groups)) ≡ whole
  unfolding functions_from
  functions_more source all groups i group old now whole h lt is e =
      let it : plain.Callable =
      record {
        number = i;
        tag = group_tag source all (view group);
        head = group_head source all (view group);
      } in
      let rest : List plain.Callable =
      functions_from source (i + 1) all (map view (drop (i + 1) groups)) in
      let cut : drop i groups ≡ group ∷ drop (i + 1) groups =
      drop_more groups i group lt ∙ ap (λ (y : X). y ∷ drop (i + 1) groups) (sym is) in
      ap (λ (n : List plain.Callable). n ++ rest) e ∙ append_assoc old (it ∷ []) rest
      ∙ ap (λ (its : List X). old ++ functions_from source i all (map view its)) (sym cut) ∙ h

  pub functions_all : (source : Source) (all : List Stated) (n : ℕ) (done : List plain.Callable)
      → done ≡ done ++ functions_from source n all []
  unfolding functions_from
  functions_all source all n done = append_none done
    where
      append_none : (xs : List plain.Callable) → xs ≡ xs ++ []
      append_none [] = refl
      append_none (x ∷ xs) = ap (λ (r : List plain.Callable). x ∷ r) (append_none xs)

-- ---- natives

abbrev no_heads : List (Option Head)
no_heads = []

drop_none : (i : ℕ) → drop i no_heads ≡ no_heads
drop_none zero = refl
drop_none (suc i) = refl

drop_stated : (source : Source) (headings : List Heading) (heads : List (Option Head)) (i : ℕ)
    (it : Heading) → slice_get headings i ≡ Some it
    → stated source (drop i headings) (drop i heads)
    ≡ record { heading = it; head = head_at heads i }
    ∷ stated source (drop (suc i) headings) (drop (suc i) heads)
drop_stated source [] heads i it h = absurd (let no : ⊥ = cc in no)
drop_stated source (x ∷ xs) [] zero it h =
    let same : x ≡ it = cc in
    ap (λ (y : Heading). record { heading = y; head = None } ∷ stated source xs []) same
drop_stated source (x ∷ xs) (head ∷ heads) zero it h =
    let same : x ≡ it = cc in
    ap (λ (y : Heading). record { heading = y; head = head } ∷ stated source xs heads) same
drop_stated source (x ∷ xs) [] (suc i) it h =
    ap (stated source (drop i xs)) (sym (drop_none i)) ∙ drop_stated source xs [] i it h
drop_stated source (x ∷ xs) (head ∷ heads) (suc i) it h = drop_stated source xs heads i it h

pub stated_drop : (source : Source) (headings : List Heading) (heads : List (Option Head)) (i : ℕ)
    (it : Heading) → slice_get headings i ≡ Some it
    → stated source (drop i headings) (drop i heads)
    ≡ record { heading = it; head = head_at heads i }
    ∷ stated source (drop (i + 1) headings) (drop (i + 1) heads)
stated_drop source headings heads i it h =
    let next : suc i ≡ i + 1 = omega arith in
    drop_stated source headings heads i it h
    ∙ ap (λ (n : ℕ). record { heading = it; head = head_at heads i }
    ∷ stated source (drop n headings) (drop n heads)) next

-- the natives from a heading on, and those behind it
module _ (source : Source) (headings : List Heading) (heads : List (Option Head)) (i : ℕ) where
  abbrev pub natives_on : List Stated
  natives_on = natives_in source (stated source (drop i headings) (drop i heads))

  abbrev pub natives_behind : List Stated
  natives_behind =
      natives_in source (stated source (drop (i + 1) headings) (drop (i + 1) heads))

module _ (source : Source) (headings : List Heading) (heads : List (Option Head)) (i : ℕ)
    (it : Heading) (here : slice_get headings i ≡ Some it) where
  abbrev pub stated_here : Stated
  stated_here = record { heading = it; head = head_at heads i }

  abbrev rest : List Stated
  rest = natives_behind source headings heads i

  on_by : (b : Bool) → is_native it.role ≡ b
      → natives_on source headings heads i ≡ (if b then stated_here ∷ rest else rest)
  on_by b e =
      ap (natives_in source) (stated_drop source headings heads i it here)
      ∙ ap (λ (own : Bool). if own then stated_here ∷ rest else rest) e

  pub native_passed : is_native it.role ≡ false → natives_on source headings heads i ≡ rest
  native_passed e = on_by false e

  pub native_taken : is_native it.role ≡ true
      → natives_on source headings heads i ≡ stated_here ∷ rest
  native_taken e = on_by true e

  -- a heading of another
  pub native_other : (number : ℕ) (old whole : List plain.Callable)
      → old ++ natives_from source number (natives_on source headings heads i) ≡ whole
      → is_native it.role ≡ false → old ++ natives_from source number rest ≡ whole
  native_other number old whole h no_native =
      ap (λ (all : List Stated). old ++ natives_from source number all)
      (sym (native_passed no_native))
      ∙ h

  abbrev native : ℕ → plain.Callable
  native number = record { number = number; tag = stated_tag source stated_here; head = head_at heads i }

  pub native_more : (number next : ℕ) (old now whole : List plain.Callable)
      → old ++ natives_from source number (natives_on source headings heads i) ≡ whole
      → is_native it.role ≡ true
      → now ≡ old ++ native number ∷ []
      → next ≡ (if is_called source it then suc number else number)
      → now ++ natives_from source next rest ≡ whole
  unfolding natives_from
  native_more number next old now whole h own e n =
      ap₂ (λ (xs : List plain.Callable) (m : ℕ). xs ++ natives_from source m rest) e n
      ∙ append_assoc old (native number ∷ [])
      (natives_from source (if is_called source it then suc number else number) rest)
      ∙ ap (λ (all : List Stated). old ++ natives_from source number all) (sym (native_taken own))
      ∙ h

pub natives_all : (source : Source) (n : ℕ) (done : List plain.Callable)
    → done ≡ done ++ natives_from source n []
unfolding natives_from
natives_all source n done = append_none done
  where
    append_none : (xs : List plain.Callable) → xs ≡ xs ++ []
    append_none [] = refl
    append_none (x ∷ xs) = ap (λ (r : List plain.Callable). x ∷ r) (append_none xs)
