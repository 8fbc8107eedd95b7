-- The natives that are called, heading by heading.
use Rattle.std.proofs.Common.{◌≡◌, ◌+◌, ◌≤◌, ℕ, Bool, true, false, List, [], ◌∷◌, ◌++◌, cond, map}
use Rattle.std.proofs.Common.{length, drop, refl, sym, ap, ◌∙◌, append_assoc, append-nil}
use Rattle.std.specs.Prelude.{◌&&◌, filter, slice_get, Option, Some, None}
use Rattle.std.proofs.lemmas.List.{drop_all, drop_more}
use Rattle.std.proofs.lemmas.Option.{slice_get_within, get_or_from_slice_get}
use Rattle.types_rules.specs.Around.{Head}
use Rattle.types_rules.specs.Headings.{Heading}
use Rattle.types_rules.specs.Sources.{Source, Stated, stated, is_native, is_called, natives_in}
use Rattle.types_rules.specs.Sources.{name_of}
use Rattle.types_rules.specs.Programs.{natives}
use Rattle.check_declarations.specs.Listed.{listed_by}

module _ (source : Source) where
  -- the names of those among natives that are called
  abbrev called_names : List Stated → List (List ℕ)
  called_names all =
      map (λ (it : Stated). name_of it.heading.head.name)
      (filter (λ (it : Stated). is_called source it.heading) all)

  called_by : (b : Bool) (it : Stated) (rest : List Stated) → is_called source it.heading ≡ b
      → called_names (it ∷ rest) ≡ listed_by b (name_of it.heading.head.name) ++ called_names rest
  called_by true it rest h =
      ap (λ b. map (λ (it : Stated). name_of it.heading.head.name)
      (cond b (it ∷ filter (λ (it : Stated). is_called source it.heading) rest)
      (filter (λ (it : Stated). is_called source it.heading) rest))) h
  called_by false it rest h =
      ap (λ b. map (λ (it : Stated). name_of it.heading.head.name)
      (cond b (it ∷ filter (λ (it : Stated). is_called source it.heading) rest)
      (filter (λ (it : Stated). is_called source it.heading) rest))) h

  native_by : (a : Bool) (it : Stated) (rest : List Stated)
      → called_names (cond a (it ∷ rest) rest)
      ≡ listed_by (a && is_called source it.heading) (name_of it.heading.head.name)
      ++ called_names rest
  native_by true it rest = called_by (is_called source it.heading) it rest refl
  native_by false it rest = refl

  natives_cons : (it : Stated) (rest : List Stated)
      → natives source (it ∷ rest) ≡ listed_by
      (is_native it.heading.role && is_called source it.heading) (name_of it.heading.head.name)
      ++ natives source rest
  natives_cons it rest = native_by (is_native it.heading.role) it (natives_in source rest)

  pub natives_more : (headings : List Heading) (i : ℕ) (it : Heading)
      (old now whole : List (List ℕ))
      → old ++ natives source (stated source (drop i headings) []) ≡ whole
      → slice_get headings i ≡ Some it
      → now ≡ old ++ listed_by (is_native it.role && is_called source it) (name_of it.head.name)
      → now ++ natives source (stated source (drop (i + 1) headings) []) ≡ whole
  natives_more headings i it old now whole h here e =
      let cut : drop i headings ≡ it ∷ drop (i + 1) headings =
      drop_more headings i it (slice_get_within headings i it here)
      ∙ ap (λ (x : Heading). x ∷ drop (i + 1) headings)
      (get_or_from_slice_get headings i it it here) in
      let name : List (List ℕ) =
      listed_by (is_native it.role && is_called source it) (name_of it.head.name) in
      let rest : List (List ℕ) = natives source (stated source (drop (i + 1) headings) []) in
      ap (λ (xs : List (List ℕ)). xs ++ rest) e ∙ append_assoc old name rest
      ∙ ap (λ (xs : List (List ℕ)). old ++ xs)
      (sym (natives_cons (record { heading = it; head = None })
      (stated source (drop (i + 1) headings) [])))
      ∙ ap (λ (hs : List Heading). old ++ natives source (stated source hs [])) (sym cut) ∙ h

  pub natives_all : (headings : List Heading) (i : ℕ) (done whole : List (List ℕ))
      → length headings ≤ i
      → done ++ natives source (stated source (drop i headings) []) ≡ whole → done ≡ whole
  natives_all headings i done whole le h =
      sym (append-nil done) ∙ ap (λ (hs : List Heading). done
      ++ natives source (stated source hs [])) (sym (drop_all i headings le)) ∙ h

  -- typed heads don't matter
  pub natives_same : (headings : List Heading) (heads : List (Option Head))
      → natives source (stated source headings []) ≡ natives source (stated source headings heads)
  natives_same [] heads = refl
  natives_same (it ∷ more) [] = refl
  natives_same (it ∷ more) (head ∷ heads) =
      natives_cons (record { heading = it; head = None }) (stated source more [])
      ∙ ap (λ (xs : List (List ℕ)). listed_by (is_native it.role && is_called source it)
      (name_of it.head.name) ++ xs) (natives_same more heads)
      ∙ sym (natives_cons (record { heading = it; head = head }) (stated source more heads))
