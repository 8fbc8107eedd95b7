-- The names of a file in the bytes up to its last zero.
use Rattle.std.proofs.Common.{◌≡◌, ◌+◌, ◌-◌, ◌<◌, ◌≤◌, ℕ, zero, suc, List, [], ◌∷◌}
use Rattle.std.proofs.Common.{get_or, length, take, drop, refl, sym, ap, arith, ◌∙◌}
use Rattle.std.proofs.lemmas.List.{drop-drop}
use Rattle.amx_ops.specs.Names.{name_from}
use Rattle.amx_format.specs.NameText.{HasNames}

-- a name that begins before a zero, or there, is the same in the bytes up to it
front-name : (bytes : List ℕ) (place end : ℕ) → place ≤ end → end < length bytes
    → get_or bytes end 0 ≡ 0
    → name_from (drop place (take (suc end) bytes)) ≡ name_from (drop place bytes)
front-name [] place end h within zero_ = absurd (omega (arith, within))
front-name (zero ∷ bytes) zero end h within zero_ = refl
front-name (suc byte ∷ bytes) zero zero h within zero_ = absurd (omega (arith, zero_))
front-name (suc byte ∷ bytes) zero (suc end) h within zero_ =
    ap (λ (name : List ℕ). suc byte ∷ name)
    (front-name bytes zero end (omega arith) (omega (arith, within)) zero_)
front-name (byte ∷ bytes) (suc place) zero h within zero_ = absurd (omega (arith, h))
front-name (byte ∷ bytes) (suc place) (suc end) h within zero_ =
    front-name bytes place end (omega (arith, h)) (omega (arith, within)) zero_

-- the bytes from a place on, up to the last zero or none, have the names of a file
pub has_names : (bytes text : List ℕ) (first past : ℕ) → past ≤ length bytes
    → (0 < past → get_or bytes (past - 1) 0 ≡ 0)
    → length text ≤ past - first → text ≡ drop first (take past bytes)
    → HasNames bytes text first
has_names bytes text first past within zero_ few is place behind before =
    let last : ℕ = past - 1 in
    let some : 0 < past = omega (arith, few, behind, before) in
    let low : place ≤ last = omega (arith, few, behind, before) in
    let whole : suc last ≡ past = omega (arith, some) in
    let high : last < length bytes = omega (arith, whole, within) in
    let sum : first + (place - first) ≡ place = omega (arith, behind) in
    let there : drop (place - first) text ≡ drop place (take (suc last) bytes) =
    ap (drop (place - first)) is ∙ drop-drop (place - first) first (take past bytes)
    ∙ ap (λ k. drop k (take past bytes)) sum
    ∙ ap (λ k. drop place (take k bytes)) (sym whole) in
    ap name_from there ∙ front-name bytes place last low high (zero_ some)
