-- A set with keys of bytes, seen as a list of names.
use Rattle.std.proofs.Common.{◌≡◌, ◌+◌, ℕ, suc, List, [], ◌∷◌, ◌++◌, false, ◌||◌, not, cond, nat_lt}
use Rattle.std.proofs.Common.{length, if◌then◌else◌, None, Some, map, position, refl, sym, ap, ap₂}
use Rattle.std.proofs.Common.{◌∙◌}
use Rattle.std.specs.List.{list_any, position_or_len}
use Rattle.std.specs.Str.{bytes_eq}
use Rattle.std.proofs.lemmas.List.{map-append}
use Rattle.pawn_base.specs.Among.{is_among}

module _ {K : Type 0} (bytes_of : K → List ℕ) where
  pub among_map : (name : List ℕ) (keys : List K)
      → list_any (λ k. bytes_eq name (bytes_of k)) keys ≡ is_among name (map bytes_of keys)
  among_map name [] = refl
  among_map name (k ∷ keys) = ap (λ b. bytes_eq name (bytes_of k) || b) (among_map name keys)

  passed_map : (name : List ℕ) (keys : List K)
      → position_or_len (λ k. bytes_eq name (bytes_of k)) keys
      ≡ position_or_len (bytes_eq name) (map bytes_of keys)
  passed_map name [] = refl
  passed_map name (k ∷ keys) =
      ap (λ n. cond (not (bytes_eq name (bytes_of k))) (1 + n) 0) (passed_map name keys)

  sized : (keys : List K) → length (map bytes_of keys) ≡ length keys
  sized [] = refl
  sized (k ∷ keys) = ap suc (sized keys)

  pub place_map : (name : List ℕ) (keys : List K)
      → position (λ k. bytes_eq name (bytes_of k)) keys
      ≡ position (bytes_eq name) (map bytes_of keys)
  place_map name keys =
      ap₂ (λ n size. cond (nat_lt n size) (Some n) None) (passed_map name keys) (sym (sized keys))

  -- a name that isn't among the keys goes last
  pub pushed : (keys more : List K) (key : K) (name : List ℕ) (names : List (List ℕ))
      → bytes_of key ≡ name → map bytes_of keys ≡ names → is_among name names ≡ false
      → more ≡ (if list_any (λ k. bytes_eq (bytes_of key) (bytes_of k)) keys then keys
      else keys ++ key ∷ [])
      → map bytes_of more ≡ names ++ name ∷ []
  pushed keys more key name names same view none is =
      let apart : list_any (λ k. bytes_eq (bytes_of key) (bytes_of k)) keys ≡ false =
      among_map (bytes_of key) keys ∙ ap₂ is_among same view ∙ none in
      ap (map bytes_of) (is ∙ ap (λ t. if t then keys else keys ++ key ∷ []) apart)
      ∙ map-append bytes_of keys (key ∷ []) ∙ ap₂ (λ ns n. ns ++ n ∷ []) view same
