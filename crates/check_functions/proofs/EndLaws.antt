-- The lists of a source, one element more, and all of them.
use Rattle.std.proofs.Common.{◌≡◌, ◌≤◌, ◌+◌, ℕ, List, [], ◌∷◌, ◌++◌, map, length, drop, Option}
use Rattle.std.proofs.Common.{Some, None, refl, sym, ap, ap₂, ◌∙◌}
use Rattle.std.specs.Prelude.{slice_get}
use Rattle.std.proofs.lemmas.List.{drop_all, map-append}
use Rattle.pawn_tags.specs.Overloads.{Overloads}
use Rattle.types_rules.specs.Around as plain
use Rattle.types_rules.specs.Around.{Head}
use Rattle.types_rules.specs.Groups.{Group}
use Rattle.types_rules.specs.Headings.{Heading}
use Rattle.types_rules.specs.Sources.{Source, Stated, stated, group_tag, group_head, functions_from}
use Rattle.types_rules.specs.Sources.{natives_from, natives_in, native_entries, function_entries}
use Rattle.types_rules.specs.Sources.{operators_from, stated_tag}
use Rattle.check_nodes.specs.declared.context.Callable.{Callable}
use Rattle.check_nodes.specs.ContextView.{callable_view}
use Rattle.check_functions.specs.Stated.{head_at, heading_at, heading_tag, stated_head}
use Rattle.check_functions.specs.ForwardNames.{forwards_in}
use Rattle.check_functions.proofs.AtLaws.{got_is}
use Rattle.check_functions.proofs.CallableLaws.{functions_more}

without : {A : Type 0} (done rest whole : List A) → rest ≡ [] → done ++ rest ≡ whole → done ≡ whole
without done rest whole e h = append_none done ∙ ap (λ r. done ++ r) (sym e) ∙ h
  where
    append_none : {B : Type 0} (xs : List B) → xs ≡ xs ++ []
    append_none [] = refl
    append_none (x ∷ xs) = ap (λ r. x ∷ r) (append_none xs)

-- ---- functions

pub one_function : (source : Source) (all : List Stated) (groups : List Group) (i : ℕ)
    (group : Group) (list pushed : List Callable) (it : Callable) (whole : List plain.Callable)
    → map callable_view list ++ functions_from source i all (drop i groups) ≡ whole
    → slice_get groups i ≡ Some group
    → pushed ≡ list ++ it ∷ []
    → callable_view it ≡ record {
      number = i;
      tag = group_tag source all group;
      head = group_head source all group;
    }
    → map callable_view pushed ++ functions_from source (i + 1) all (drop (i + 1) groups) ≡ whole
one_function source all groups i group list pushed it whole h here p e =
    let at = got_is groups i group here in
    ap₂ (λ (xs : List plain.Callable) (gs : List Group). xs ++ functions_from source (i + 1) all gs)
    (ap (map callable_view) p ∙ map-append callable_view list (it ∷ [])
    ∙ ap (λ (x : plain.Callable). map callable_view list ++ x ∷ []) e)
    (sym (map_same (drop (i + 1) groups)))
    ∙ functions_more (λ (g : Group). g) source all groups i group (map callable_view list)
    (map callable_view list ++ record
    { number = i; tag = group_tag source all group; head = group_head source all group } ∷ [])
    whole
    (ap (λ (gs : List Group). map callable_view list ++ functions_from source i all gs)
    (map_same (drop i groups)) ∙ h) at.0 at.1 refl
  where
    map_same : (gs : List Group) → map (λ (g : Group). g) gs ≡ gs
    map_same [] = refl
    map_same (g ∷ gs) = ap (λ (r : List Group). g ∷ r) (map_same gs)

pub functions_past : (source : Source) (all : List Stated) (groups : List Group) (i : ℕ)
    (done whole : List plain.Callable) → length groups ≤ i
    → done ++ functions_from source i all (drop i groups) ≡ whole → done ≡ whole
unfolding functions_from
functions_past source all groups i done whole le h =
    without done (functions_from source i all (drop i groups)) whole
    (ap (functions_from source i all) (drop_all i groups le)) h

-- ---- natives

pub native_is : (source : Source) (headings : List Heading) (heads : List (Option Head))
    (i place number : ℕ) (it : Heading) (made : plain.Callable) → slice_get headings i ≡ Some it
    → place ≡ i
    → made ≡ record {
      number = number;
      tag = heading_tag source (heading_at headings (Some place));
      head = stated_head headings heads (Some place);
    }
    → made ≡ record {
      number = number;
      tag = stated_tag source (record { heading = it; head = head_at heads i });
      head =
          head_at heads i;
    }
native_is source headings heads i place number it made here p e =
    e
    ∙ ap (λ (n : ℕ). record {
      number = number;
      tag = heading_tag source (heading_at headings (Some n));
      head =
          stated_head headings heads (Some n);
    }) p
    ∙ ap (λ (x : Option Heading). record
    { number = number; tag = heading_tag source x; head = by x }) here
  where
    by : Option Heading → Option Head
    by None = None
    by (Some x) = head_at heads i

pub pushed_is : (list pushed : List Callable) (it : Callable) (made : plain.Callable)
    → pushed ≡ list ++ it ∷ [] → callable_view it ≡ made
    → map callable_view pushed ≡ map callable_view list ++ made ∷ []
pushed_is list pushed it made p e =
    ap (map callable_view) p ∙ map-append callable_view list (it ∷ [])
    ∙ ap (λ (x : plain.Callable). map callable_view list ++ x ∷ []) e

stated_past : (source : Source) (headings : List Heading) (heads : List (Option Head)) (i : ℕ)
    → length headings ≤ i
    → stated source (drop i headings) (drop i heads) ≡ []
stated_past source headings heads i le =
    ap (λ (hs : List Heading). stated source hs (drop i heads)) (drop_all i headings le)

pub natives_past : (source : Source) (headings : List Heading) (heads : List (Option Head))
    (i number : ℕ) (done whole : List plain.Callable) → length headings ≤ i
    → done ++ natives_from source number
    (natives_in source (stated source (drop i headings) (drop i heads))) ≡ whole → done ≡ whole
unfolding natives_from
natives_past source headings heads i number done whole le h =
    without done (natives_from source number
    (natives_in source (stated source (drop i headings) (drop i heads)))) whole
    (ap (λ (all : List Stated). natives_from source number (natives_in source all))
    (stated_past source headings heads i le)) h

-- ---- names

pub entries_of_none : (source : Source) (headings : List Heading) (heads : List (Option Head))
    (i number : ℕ) → length headings ≤ i
    → native_entries source number
    (natives_in source (stated source (drop i headings) (drop i heads))) ≡ []
unfolding native_entries
entries_of_none source headings heads i number le =
    ap (λ (all : List Stated). native_entries source number (natives_in source all))
    (stated_past source headings heads i le)

pub entries_past : (source : Source) (all : List Stated) (groups : List Group) (i : ℕ)
    → length groups ≤ i → function_entries source i all (drop i groups) ≡ []
unfolding function_entries
entries_past source all groups i le = ap (function_entries source i all) (drop_all i groups le)

pub forwards_past : (source : Source) (headings : List Heading) (i : ℕ) → length headings ≤ i
    → forwards_in source (drop i headings) ≡ []
forwards_past source headings i le = ap (forwards_in source) (drop_all i headings le)

-- ---- user operators

pub operators_past : (source : Source) (groups : List Group) (i : ℕ) (done whole : Overloads)
    → length groups ≤ i
    → done ++ operators_from source i (drop i groups) ≡ whole → done ≡ whole
unfolding operators_from
operators_past source groups i done whole le h =
    without done (operators_from source i (drop i groups)) whole
    (ap (operators_from source i) (drop_all i groups le)) h
