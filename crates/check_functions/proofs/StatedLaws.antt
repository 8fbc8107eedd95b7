-- The first heading of a function with its typed head, by its place.
use Rattle.std.proofs.Common.{◌≡◌, ℕ, zero, suc, Bool, true, false, cond, if◌then◌else◌, List, []}
use Rattle.std.proofs.Common.{◌∷◌, Option, Some, None, option_map, position, refl, sym, ap, ◌∙◌}
use Rattle.std.specs.Prelude.{slice_get, find, unwrap_or}
use Rattle.std.specs.Option.{option_and_then}
use Rattle.pawn_tags.specs.Tags.{untagged}
use Rattle.types_rules.specs.Around.{Head}
use Rattle.types_rules.specs.Keys.{Key}
use Rattle.types_rules.specs.Groups.{Group}
use Rattle.types_rules.specs.Headings.{Heading, belongs}
use Rattle.types_rules.specs.Sources.{Source, Stated, stated, first_head, stated_tag, group_tag}
use Rattle.types_rules.specs.Sources.{group_head}
use Rattle.check_source.proofs.PlaceLaws.{place, place_is}
use Rattle.check_functions.specs.Differ.{stated_at}
use Rattle.check_functions.specs.Stated.{head_at, heading_at, heading_tag, stated_head}

pub stated_get : (source : Source) (headings : List Heading) (heads : List (Option Head)) (i : ℕ)
    → slice_get (stated source headings heads) i ≡ stated_at headings heads i
stated_get source [] heads i = refl
stated_get source (x ∷ xs) [] zero = refl
stated_get source (x ∷ xs) [] (suc i) = stated_get source xs [] i
stated_get source (x ∷ xs) (head ∷ heads) zero = refl
stated_get source (x ∷ xs) (head ∷ heads) (suc i) = stated_get source xs heads i

pub place_stated : (source : Source) (p : Heading → Bool) (headings : List Heading)
    (heads : List (Option Head))
    → place (λ (it : Stated). p it.heading) (stated source headings heads) ≡ place p headings
place_stated source p [] heads = refl
place_stated source p (x ∷ xs) [] =
    ap (λ (r : Option ℕ). if p x then Some 0 else option_map suc r) (place_stated source p xs [])
place_stated source p (x ∷ xs) (head ∷ heads) =
    ap (λ (r : Option ℕ). if p x then Some 0 else option_map suc r) (place_stated source p xs heads)

module _ {A : Type 0} where
  shifted : (x : A) (xs : List A) (r : Option ℕ)
      → option_and_then (slice_get xs) r ≡ option_and_then (slice_get (x ∷ xs)) (option_map suc r)
  shifted x xs None = refl
  shifted x xs (Some n) = refl

  by_first : (b : Bool) (x : A) (xs : List A) (found : Option A) (r : Option ℕ)
      → found ≡ option_and_then (slice_get xs) r
      → cond b (Some x) found ≡ option_and_then (slice_get (x ∷ xs))
      (if b then Some 0 else option_map suc r)
  by_first true x xs found r h = refl
  by_first false x xs found r h = h ∙ shifted x xs r

  pub find_place : (p : A → Bool) (xs : List A)
      → find p xs ≡ option_and_then (slice_get xs) (place p xs)
  find_place p [] = refl
  find_place p (x ∷ xs) = by_first (p x) x xs (find p xs) (place p xs) (find_place p xs)

at_each : (f g : ℕ → Option Stated) → ((i : ℕ) → f i ≡ g i) → (place : Option ℕ)
    → option_and_then f place ≡ option_and_then g place
at_each f g h None = refl
at_each f g h (Some i) = h i

module _ (source : Source) (headings : List Heading) (heads : List (Option Head)) where
  first_at : (key : Key) (first : Option ℕ)
      → first ≡ position (belongs source.tags source.fallback key) headings
      → first_head source (stated source headings heads) key
      ≡ option_and_then (stated_at headings heads) first
  first_at key first h =
      find_place (λ (it : Stated). belongs source.tags source.fallback key it.heading)
      (stated source headings heads)
      ∙ ap (option_and_then (slice_get (stated source headings heads)))
      (place_stated source (belongs source.tags source.fallback key) headings heads
      ∙ sym (place_is (belongs source.tags source.fallback key) headings) ∙ sym h)
      ∙ at_each (slice_get (stated source headings heads)) (stated_at headings heads)
      (stated_get source headings heads) first

  tag_by : (it : Option Heading) (i : ℕ)
      → unwrap_or (option_map (stated_tag source)
      (option_map (λ (x : Heading). record { heading = x; head = head_at heads i }) it))
      untagged
      ≡ heading_tag source it
  tag_by None i = refl
  tag_by (Some it) i = refl

  tag_at : (first : Option ℕ) → unwrap_or
      (option_map (stated_tag source) (option_and_then (stated_at headings heads) first)) untagged
      ≡ heading_tag source (heading_at headings first)
  tag_at None = refl
  tag_at (Some i) = tag_by (slice_get headings i) i

  pub group_tag_is : (group : Group) (first : Option ℕ)
      → first ≡ position (belongs source.tags source.fallback group.key) headings
      → group_tag source (stated source headings heads) group
      ≡ heading_tag source (heading_at headings first)
  group_tag_is group first h =
      ap (λ (it : Option Stated). unwrap_or (option_map (stated_tag source) it) untagged)
      (first_at group.key first h) ∙ tag_at first

  head_by : (it : Option Heading) (i : ℕ)
      → option_and_then (λ (x : Stated). x.head)
      (option_map (λ (x : Heading). record { heading = x; head = head_at heads i }) it)
      ≡ option_and_then (λ (x : Heading). head_at heads i) it
  head_by None i = refl
  head_by (Some it) i = refl

  head_of_first : (first : Option ℕ)
      → option_and_then (λ (x : Stated). x.head) (option_and_then (stated_at headings heads) first)
      ≡ stated_head headings heads first
  head_of_first None = refl
  head_of_first (Some i) = head_by (slice_get headings i) i

  pub group_head_is : (group : Group) (first : Option ℕ)
      → first ≡ position (belongs source.tags source.fallback group.key) headings
      → group_head source (stated source headings heads) group ≡ stated_head headings heads first
  group_head_is group first h =
      ap (option_and_then (λ (x : Stated). x.head)) (first_at group.key first h)
      ∙ head_of_first first
