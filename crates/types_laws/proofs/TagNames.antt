-- The tags of a program are mentioned, each once: they have no more bytes than all mentions.
use Rattle.std.proofs.Common.{◌≡◌, ◌+◌, ◌≤◌, ℕ, List, [], ◌∷◌, ◌++◌, Bool, true, false, ◌||◌, refl}
use Rattle.std.proofs.Common.{sym, ap, subst, arith}
use Rattle.std.specs.Prelude.{if◌then◌else◌, length, map, nat_eq}
use Rattle.std.specs.Str.{bytes_eq}
use Rattle.std.proofs.lemmas.List.{length-append}
use Rattle.std.proofs.lemmas.Slice.Eq.{bytes_eq-Decides}
use Rattle.pawn_base.specs.Among.{is_among}
use Rattle.pawn_tags.specs.Tags.{first_names, untagged}
use Rattle.pawn_meaning.specs.Program.{Tag}
use Rattle.pawn_meaning.specs.ProgramNames.{IsName}
use Rattle.names_rules.specs.Mark.{Mark, Opens, Closes, Mentions, Uses, Declares}
use Rattle.names_rules.specs.Around.{tags_of}
use Rattle.types_rules.specs.Programs.{mentions, tags_from}
use Rattle.types_laws.specs.Objects.{Each}
use Rattle.types_laws.proofs.Sizes.{sizes}
use Rattle.types_laws.proofs.TreeCounts.{mention_size, AreNamed}

-- ---- names, each once

abbrev Distinct : List (List ℕ) → Type 0
Distinct [] = Unit {0}
Distinct (name ∷ more) = (is_among name more ≡ false) × Distinct more

or_false : (a b : Bool) → (a || b) ≡ false → (a ≡ false) × (b ≡ false)
or_false true b e = absurd (let never : ⊥ = cc in never)
or_false false b e = (refl, e)

both_false : (a b : Bool) → a ≡ false → b ≡ false → (a || b) ≡ false
both_false true b e d = absurd (let never : ⊥ = cc in never)
both_false false b e d = d

other_way : (x y : List ℕ) → bytes_eq x y ≡ false → bytes_eq y x ≡ false
other_way x y e = by (bytes_eq y x) refl
  where
    by : (b : Bool) → bytes_eq y x ≡ b → bytes_eq y x ≡ false
    by true d =
        let t = (bytes_eq-Decides x y).1 (sym ((bytes_eq-Decides y x).0 d)) in
        absurd (let never : ⊥ = cc in never)
    by false d = d

among_last : (name tag : List ℕ) (names : List (List ℕ)) → is_among name names ≡ false
    → bytes_eq name tag ≡ false → is_among name (names ++ tag ∷ []) ≡ false
among_last name tag [] e d = both_false (bytes_eq name tag) false d refl
among_last name tag (x ∷ more) e d =
    let parts = or_false (bytes_eq name x) (is_among name more) e in
    both_false (bytes_eq name x) _ parts.0 (among_last name tag more parts.1 d)

distinct_last : (tag : List ℕ) (names : List (List ℕ)) → is_among tag names ≡ false
    → Distinct names → Distinct (names ++ tag ∷ [])
distinct_last tag [] e h = (refl, tt)
distinct_last tag (x ∷ more) e h =
    let parts = or_false (bytes_eq tag x) (is_among tag more) e in (
      among_last x tag more h.0 (other_way tag x parts.0),
      distinct_last tag more parts.1 h.1,
    )

distinct_with : (tag : List ℕ) (names : List (List ℕ)) (b : Bool) → is_among tag names ≡ b
    → Distinct names → Distinct (if b then names else names ++ tag ∷ [])
distinct_with tag names true e h = h
distinct_with tag names false e h = distinct_last tag names e h

tags_distinct : (marks : List Mark) → Distinct (tags_of marks)
tags_distinct [] = (refl, (refl, tt))
tags_distinct (Opens ∷ before) = tags_distinct before
tags_distinct (Closes ∷ before) = tags_distinct before
tags_distinct (Mentions tag ∷ before) =
    distinct_with tag (tags_of before) (is_among tag (tags_of before)) refl (tags_distinct before)
tags_distinct (Uses it ∷ before) = tags_distinct before
tags_distinct (Declares it ∷ before) = tags_distinct before

-- ---- the bytes of names that pass a test

abbrev size_if : Bool → List ℕ → ℕ
size_if true name = length name
size_if false name = 0

abbrev sizes_of : (List ℕ → Bool) → List (List ℕ) → ℕ
sizes_of test [] = 0
sizes_of test (name ∷ more) = size_if (test name) name + sizes_of test more

or_size : (a b : Bool) (name : List ℕ) → size_if (a || b) name ≤ size_if a name + size_if b name
or_size true b name = by b
  where
    by : (b : Bool) → length name ≤ length name + size_if b name
    by true = omega arith
    by false = omega arith
or_size false b name = omega arith

or_sizes : (p q : List ℕ → Bool) (names : List (List ℕ))
    → sizes_of (λ n. p n || q n) names ≤ sizes_of p names + sizes_of q names
or_sizes p q [] = omega arith
or_sizes p q (name ∷ more) = omega (arith, or_size (p name) (q name) name, or_sizes p q more)

size_most : (b : Bool) (name : List ℕ) → size_if b name ≤ length name
size_most true name = omega arith
size_most false name = omega arith

last_size : (p : List ℕ → Bool) (names : List (List ℕ)) (tag : List ℕ)
    → sizes_of p (names ++ tag ∷ []) ≤ sizes_of p names + length tag
last_size p [] tag = omega (arith, size_most (p tag) tag)
last_size p (name ∷ more) tag = omega (arith, last_size p more tag)

none_same : (tag : List ℕ) (names : List (List ℕ)) → is_among tag names ≡ false
    → sizes_of (bytes_eq tag) names ≡ 0
none_same tag [] e = refl
none_same tag (name ∷ more) e =
    let parts = or_false (bytes_eq tag name) (is_among tag more) e in
    omega (arith, ap (λ b. size_if b name) parts.0, none_same tag more parts.1)

one_by : (tag name : List ℕ) (more : List (List ℕ)) (b : Bool) → bytes_eq tag name ≡ b
    → is_among name more ≡ false → sizes_of (bytes_eq tag) more ≤ length tag
    → size_if b name + sizes_of (bytes_eq tag) more ≤ length tag
one_by tag name more true e h k =
    let same : tag ≡ name = (bytes_eq-Decides tag name).0 e in
    let none = none_same tag more (subst (λ n. is_among n more ≡ false) (sym same) h) in
    omega (arith, none, ap length same)
one_by tag name more false e h k = omega (arith, k)

one_same : (tag : List ℕ) (names : List (List ℕ)) → Distinct names
    → sizes_of (bytes_eq tag) names ≤ length tag
one_same tag [] h = omega arith
one_same tag (name ∷ more) h =
    one_by tag name more (bytes_eq tag name) refl h.0 (one_same tag more h.1)

-- ---- tags that are mentioned

mention_by : (tag : List ℕ) (before : List Mark) (names : List (List ℕ)) (b : Bool)
    → is_among tag names ≡ b → Distinct names
    → sizes_of (λ n. bytes_eq tag n || mentions before n) (if b then names else names ++ tag ∷ [])
    ≤ length tag + sizes_of (mentions before) names
mention_by tag before names true e h =
    omega (arith, or_sizes (bytes_eq tag) (mentions before) names, one_same tag names h)
mention_by tag before names false e h =
    omega (
      arith,
      last_size (λ n. bytes_eq tag n || mentions before n) names tag,
      or_sizes (bytes_eq tag) (mentions before) names,
      none_same tag names e,
    )

none_mentioned : (names : List (List ℕ)) → sizes_of (mentions []) names ≡ 0
none_mentioned [] = refl
none_mentioned (name ∷ more) = omega (arith, none_mentioned more)

tags_mentioned : (marks : List Mark)
    → sizes_of (mentions marks) (tags_of marks) ≤ mention_size marks
tags_mentioned [] = omega (arith, none_mentioned first_names)
tags_mentioned (Opens ∷ before) = tags_mentioned before
tags_mentioned (Closes ∷ before) = tags_mentioned before
tags_mentioned (Mentions tag ∷ before) =
    omega (
      arith,
      mention_by tag before (tags_of before) (is_among tag (tags_of before)) refl
          (tags_distinct before),
      tags_mentioned before,
    )
tags_mentioned (Uses it ∷ before) = tags_mentioned before
tags_mentioned (Declares it ∷ before) = tags_mentioned before

abbrev pub tag_names : List Tag → List (List ℕ)
tag_names tags = map (λ (tag : Tag). tag.name) tags

from_by : (k : ℕ) (name : List ℕ) (rest : List Tag) (total : ℕ) (a b : Bool)
    → sizes (tag_names rest) ≤ total
    → sizes (tag_names (if a then rest else if b then record { number = k; name = name } ∷ rest
    else rest))
    ≤ size_if b name + total
from_by k name rest total true b h = omega (arith, h)
from_by k name rest total false true h = omega (arith, h)
from_by k name rest total false false h = omega (arith, h)

from_sizes : (marks : List Mark) (k : ℕ) (names : List (List ℕ))
    → sizes (tag_names (tags_from marks k names)) ≤ sizes_of (mentions marks) names
unfolding tags_from
from_sizes marks k [] = omega arith
from_sizes marks k (name ∷ more) =
    from_by k name (tags_from marks (k + 1) more) (sizes_of (mentions marks) more)
    (nat_eq k untagged) (mentions marks name) (from_sizes marks (k + 1) more)

pub tags_size : (marks : List Mark)
    → sizes (tag_names (tags_from marks 0 (tags_of marks))) ≤ mention_size marks
tags_size marks = omega (arith, from_sizes marks 0 (tags_of marks), tags_mentioned marks)

-- ---- they are names

mention_named : (marks : List Mark) (name : List ℕ) → mentions marks name ≡ true → AreNamed marks
    → IsName name
mention_named [] name e h = absurd (let never : ⊥ = cc in never)
mention_named (Opens ∷ before) name e h = mention_named before name e h
mention_named (Closes ∷ before) name e h = mention_named before name e h
mention_named (Mentions tag ∷ before) name e h =
    by (bytes_eq tag name) refl e (λ m. mention_named before name m h.1)
  where
    by : (b : Bool) → bytes_eq tag name ≡ b → (b || mentions before name) ≡ true
        → (mentions before name ≡ true → IsName name) → IsName name
    by true d e k = subst IsName ((bytes_eq-Decides tag name).0 d) h.0
    by false d e k = k e
mention_named (Uses it ∷ before) name e h = mention_named before name e h
mention_named (Declares it ∷ before) name e h = mention_named before name e h

named_by : (k : ℕ) (name : List ℕ) (rest : List Tag) (a b : Bool) → (b ≡ true → IsName name)
    → Each IsName (tag_names rest)
    → Each IsName (tag_names (if a then rest else if b
    then record { number = k; name = name } ∷ rest
    else rest))
named_by k name rest true b h r = r
named_by k name rest false true h r = (h refl, r)
named_by k name rest false false h r = r

pub tags_named : (marks : List Mark) (k : ℕ) (names : List (List ℕ)) → AreNamed marks
    → Each IsName (tag_names (tags_from marks k names))
unfolding tags_from
tags_named marks k [] h = tt
tags_named marks k (name ∷ more) h =
    named_by k name (tags_from marks (k + 1) more) (nat_eq k untagged) (mentions marks name)
    (λ e. mention_named marks name e h) (tags_named marks (k + 1) more h)

-- ---- how many there are

with_count : (tag : List ℕ) (names : List (List ℕ)) (b : Bool)
    → length (if b then names else names ++ tag ∷ []) ≤ length names + 1
with_count tag names true = omega arith
with_count tag names false = omega (arith, length-append names (tag ∷ []))

pub tags_count : (marks : List Mark) → AreNamed marks
    → length (tags_of marks) ≤ mention_size marks + 2
tags_count [] h = omega arith
tags_count (Opens ∷ before) h = tags_count before h
tags_count (Closes ∷ before) h = tags_count before h
tags_count (Mentions tag ∷ before) h =
    omega (
      arith,
      with_count tag (tags_of before) (is_among tag (tags_of before)),
      tags_count before h.1,
      h.0.least,
    )
tags_count (Uses it ∷ before) h = tags_count before h
tags_count (Declares it ∷ before) h = tags_count before h
