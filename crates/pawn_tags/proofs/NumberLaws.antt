-- A name that was mentioned has a number.
use Rattle.std.proofs.Common.{◌≡◌, ◌<◌, ℕ, List, [], ◌∷◌, Bool, true, false, ◌||◌, length, IsSome}
use Rattle.std.proofs.Common.{refl, sym, ap, ◌∙◌, arith, true≢false}
use Rattle.std.specs.List.{position_or_len}
use Rattle.std.specs.Str.{bytes_eq}
use Rattle.std.specs.Cmp.Lexicographic.{bytes_decides}
use Rattle.std.proofs.lemmas.Bool.Decides.{nat_tests}
use Rattle.std.proofs.lemmas.List.Folds.{list_any-append}
use Rattle.pawn_base.specs.Among.{is_among, with_name}
use Rattle.pawn_tags.specs.Tags.{number_of}

-- a name that is among others has a place there
placed : (name : List ℕ) (names : List (List ℕ)) → is_among name names ≡ true
    → position_or_len (bytes_eq name) names < length names
placed name [] among = absurd (true≢false (sym among))
placed name (first ∷ names) among = by (bytes_eq name first) refl (placed name names)
  where
    by : (b : Bool) → bytes_eq name first ≡ b
        → (is_among name names ≡ true → position_or_len (bytes_eq name) names < length names)
        → position_or_len (bytes_eq name) (first ∷ names) < length (first ∷ names)
    by true e rest = rw e (omega arith)
    by false e rest =
        let within = rest (sym (ap (λ b. b || is_among name names) e) ∙ among) in
        rw e (omega (arith, within))

-- a name is among those that it was added to
added : (name : List ℕ) (names : List (List ℕ)) → is_among name (with_name names name) ≡ true
added name names = by (is_among name names) refl
  where
    by : (b : Bool) → is_among name names ≡ b → is_among name (with_name names name) ≡ true
    by true e = rw e e
    by false e =
        let same : bytes_eq name name ≡ true = (bytes_decides name name).1 refl in
        rw (e, list_any-append, e, same) refl

numbered : (name : List ℕ) (names : List (List ℕ)) → is_among name names ≡ true
    → IsSome (number_of names name)
numbered name names among =
    let h = placed name names among in
    grind (arith, nat_tests, h)

pub mentioned : (name : List ℕ) (names : List (List ℕ))
    → IsSome (number_of (with_name names name) name)
mentioned name names = numbered name (with_name names name) (added name names)
