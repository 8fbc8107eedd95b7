-- Names: each byte of a text is one, and a name isn't among others.
use Rattle.std.proofs.Common.{◌≡◌, ◌<◌, ℕ, zero, suc, Bool, true, false, List, [], ◌∷◌, ◌++◌}
use Rattle.std.proofs.Common.{length, refl, sym, ◌∙◌, arith, true≢false, get_or}
use Rattle.std.specs.Prelude.{◌&&◌, ◌||◌, All, nat_le, nat_lt, nat_eq}
use Rattle.std.specs.Str.{bytes_eq}
use Rattle.std.specs.List.{IsDistinct, AllByRecursion, list_all}
use Rattle.std.specs.Cmp.Lexicographic.{pointwise}
use Rattle.std.proofs.lemmas.Bool.{leb-true, lt-ltb}
use Rattle.std.proofs.lemmas.Slice.Eq.{bytes_eq-Decides}
use Rattle.pawn_base.specs.Among.{is_among}
use Rattle.host_script.specs.declared.script.TheConstants.{NAME_LIMIT}
use Rattle.host_script.specs.Ranges.{IsName}
use Rattle.script_reader.specs.Natives.{is_name}

pub both_true : (a b : Bool) → (a && b) ≡ true → (a ≡ true) × (b ≡ true)
both_true true true e = (refl, refl)
both_true true false e = (refl, e)
both_true false b e = absurd (true≢false (sym e))

neither : (a b : Bool) → (a || b) ≡ false → (a ≡ false) × (b ≡ false)
neither false b e = (refl, e)
neither true b e = absurd (true≢false e)

-- ---- the length of a name

all_bytes : (text : List ℕ) → ((k : ℕ) → get_or text k 0 < 256)
    → list_all (λ byte. nat_lt byte 256) text ≡ true
all_bytes [] h = refl
all_bytes (byte ∷ bytes) h = rw (lt-ltb byte 256 (h 0), all_bytes bytes (λ k. h (suc k))) refl

-- all that is left to test of bytes is their count
pub is_name_by : (text : List ℕ) → ((k : ℕ) → get_or text k 0 < 256)
    → (nat_le 1 (length text) && nat_le (length text) NAME_LIMIT) ≡ is_name text
unfolding is_name
is_name_by text h = rw (all_bytes text h) refl

bytes_below : (text : List ℕ) → list_all (λ byte. nat_lt byte 256) text ≡ true
    → All (λ byte. byte < 256) text
bytes_below [] e k d h = absurd (omega (arith, h))
bytes_below (byte ∷ bytes) e zero d h =
    leb-true (suc byte) 256 (both_true (nat_lt byte 256)
    (list_all (λ byte. nat_lt byte 256) bytes) e).0
bytes_below (byte ∷ bytes) e (suc k) d h =
    bytes_below bytes (both_true (nat_lt byte 256) (list_all (λ byte. nat_lt byte 256) bytes) e).1 k
    d (omega (arith, h))

pub is_name_tells : (text : List ℕ) → is_name text ≡ true → IsName text
unfolding is_name
is_name_tells text e =
    let bytes = both_true (list_all (λ byte. nat_lt byte 256) text) _ e in
    let count = both_true (nat_le 1 (length text)) (nat_le (length text) NAME_LIMIT) bytes.1 in
    record {
      some = leb-true 1 (length text) count.0;
      few = leb-true (length text) NAME_LIMIT count.1;
      bytes = bytes_below text bytes.0;
    }

-- ---- a name among others

other_way : (x y : List ℕ) → bytes_eq x y ≡ false → bytes_eq y x ≡ false
other_way x y e = cases (bytes_eq y x) (bytes_eq-Decides y x).0 where
  cases : (b : Bool) → (b ≡ true → y ≡ x) → b ≡ false
  cases false h = refl
  cases true h = absurd (true≢false (sym ((bytes_eq-Decides x y).1 (sym (h refl))) ∙ e))

pub not_among : (name : List ℕ) (names : List (List ℕ)) → is_among name names ≡ false
    → AllByRecursion (λ x. pointwise nat_eq x name ≡ false) names
not_among name [] e = tt
not_among name (x ∷ names) e =
    let apart = neither (bytes_eq name x) (is_among name names) e in
    (other_way name x apart.0, not_among name names apart.1)

all_more : {K : Type 0} (P : K → Type 0) (xs : List K) (y : K) → AllByRecursion P xs → P y
    → AllByRecursion P (xs ++ y ∷ [])
all_more P [] y h g = (g, tt)
all_more P (x ∷ xs) y h g = (h.0, all_more P xs y h.1 g)

-- distinct keys with one more at their end
pub distinct_more : {K : Type 0} (eq : K → K → Bool) (xs : List K) (y : K) → IsDistinct eq xs
    → AllByRecursion (λ x. eq x y ≡ false) xs → IsDistinct eq (xs ++ y ∷ [])
unfolding IsDistinct
distinct_more eq [] y h g = (tt, tt)
distinct_more eq (x ∷ xs) y h g =
    (all_more (λ z. eq x z ≡ false) xs y h.0 g.0, distinct_more eq xs y h.1 g.1)
