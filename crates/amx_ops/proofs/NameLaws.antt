-- Names up to a zero.
use Rattle.std.proofs.Common.{◌≡◌, ◌≢◌, ◌<◌, ◌≤◌, ℕ, zero, suc, List, [], ◌∷◌}
use Rattle.std.proofs.Common.{get_or, length, take, refl, ap, arith}
use Rattle.std.specs.Prelude.{All}
use Rattle.std.proofs.lemmas.List.Elements.{All-head, All-tail}
use Rattle.amx_ops.specs.Names.{name_from}

-- bytes without a zero up to a zero are a name
pub name_from-take : (text : List ℕ) (i : ℕ) → i < length text
    → All (λ byte. byte ≢ 0) (take i text) → get_or text i 0 ≡ 0 → take i text ≡ name_from text
name_from-take [] i h none zero_ = absurd (omega arith)
name_from-take (zero ∷ text) zero h none zero_ = refl
name_from-take (suc byte ∷ text) zero h none zero_ = absurd (omega (arith, zero_))
name_from-take (zero ∷ text) (suc i) h none zero_ =
    absurd (All-head (λ byte. byte ≢ 0) zero (take i text) none refl)
name_from-take (suc byte ∷ text) (suc i) h none zero_ =
    ap (λ (bytes : List ℕ). suc byte ∷ bytes)
    (name_from-take text i (omega arith)
    (All-tail (λ byte. byte ≢ 0) (suc byte) (take i text) none) zero_)

-- and all bytes, where none is a zero
pub name_from-all : (text : List ℕ) → All (λ byte. byte ≢ 0) text → text ≡ name_from text
name_from-all [] none = refl
name_from-all (zero ∷ text) none = absurd (All-head (λ byte. byte ≢ 0) zero text none refl)
name_from-all (suc byte ∷ text) none =
    ap (λ (bytes : List ℕ). suc byte ∷ bytes)
    (name_from-all text (All-tail (λ byte. byte ≢ 0) (suc byte) text none))

-- a name has more bytes than stand before one that isn't a zero
pub name_from-long : (text : List ℕ) (i : ℕ) → i < length text
    → All (λ byte. byte ≢ 0) (take i text) → get_or text i 0 ≢ 0 → i < length (name_from text)
name_from-long [] i h none more = absurd (omega arith)
name_from-long (zero ∷ text) zero h none more = absurd (more refl)
name_from-long (suc byte ∷ text) zero h none more = omega arith
name_from-long (zero ∷ text) (suc i) h none more =
    absurd (All-head (λ byte. byte ≢ 0) zero (take i text) none refl)
name_from-long (suc byte ∷ text) (suc i) h none more =
    let ih = name_from-long text i (omega arith)
    (All-tail (λ byte. byte ≢ 0) (suc byte) (take i text) none) more in
    omega (arith, ih)

-- a name has no more bytes than it was looked for in
pub name_from-few : (text : List ℕ) → length (name_from text) ≤ length text
name_from-few [] = omega arith
name_from-few (zero ∷ text) = omega arith
name_from-few (suc byte ∷ text) = let ih = name_from-few text in omega (arith, ih)
