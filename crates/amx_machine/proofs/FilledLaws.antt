-- A cell of cells some of which were set to one value.
use Rattle.std.proofs.Common.{◌≡◌, ◌+◌, ◌-◌, ◌<◌, ◌≤◌, ◌++◌, ℕ, ℤ, pos, List, Bool, true, false}
use Rattle.std.proofs.Common.{cond, length, take, drop, replicate, get_or, nat_lt, refl, ap, ◌∙◌}
use Rattle.std.proofs.Common.{arith, ltb-true, length-append, length-take, length-drop}
use Rattle.std.proofs.lemmas.Bool.{ltb-false}
use Rattle.std.proofs.lemmas.List.{get_or-take, get_or-drop, get_or_append_left}
use Rattle.std.proofs.lemmas.List.{get_or-append_right}
use Rattle.std.proofs.lemmas.List.{length-replicate, get_or-replicate, take-append-drop}

-- cells h to k, which are n
abbrev pub put : List ℤ → ℤ → (h k n : ℕ) → List ℤ
put xs v h k n = take h xs ++ (replicate n v ++ drop k xs)

-- none
pub put_none : (xs : List ℤ) (v : ℤ) (h k n : ℕ) → n ≡ 0 → k ≡ h → put xs v h k n ≡ xs
put_none xs v h k n e f = rw (e, f) (take-append-drop h xs)

module _ (xs : List ℤ) (v : ℤ) (h k n : ℕ) (count : h + n ≡ k) (high : k ≤ length xs) where
  front : length (take h xs) ≡ h
  front = omega (arith, count, high, length-take h xs)

  pub length_put : length (put xs v h k n) ≡ length xs
  length_put =
      omega (
        arith,
        count,
        high,
        front,
        length-append (take h xs) (replicate n v ++ drop k xs),
        length-append (replicate n v) (drop k xs),
        length-replicate n v,
        length-drop k xs,
      )

  module _ (j : ℕ) where
    rest_by : (b : Bool) → nat_lt j k ≡ b → h ≤ j
        → get_or (replicate n v ++ drop k xs) (j - h) (pos 0) ≡ cond b v (get_or xs j (pos 0))
    rest_by true e l =
        let under = ltb-true j k e in
        let there : j - h < n = omega (arith, under, l, count) in
        get_or_append_left (replicate n v) (drop k xs) (pos 0) (j - h)
        (omega (arith, there, length-replicate n v))
        ∙ get_or-replicate n (j - h) v (pos 0) there
    rest_by false e l =
        let past = ltb-false j k e in
        let there : k + (j - h - n) ≡ j = omega (arith, past, count, l) in
        get_or-append_right (replicate n v) (drop k xs) n (j - h) (pos 0)
        (length-replicate n v) (omega (arith, past, count))
        ∙ get_or-drop k xs (j - h - n) (pos 0) ∙ ap (λ m. get_or xs m (pos 0)) there

    put_by : (b : Bool) → nat_lt j h ≡ b → get_or (put xs v h k n) j (pos 0)
        ≡ cond b (get_or xs j (pos 0)) (cond (nat_lt j k) v (get_or xs j (pos 0)))
    put_by true e =
        let under = ltb-true j h e in
        get_or_append_left (take h xs) (replicate n v ++ drop k xs) (pos 0) j
        (omega (arith, under, front))
        ∙ get_or-take h xs j (pos 0) under
    put_by false e =
        let l = ltb-false j h e in
        get_or-append_right (take h xs) (replicate n v ++ drop k xs) h j (pos 0) front l
        ∙ rest_by (nat_lt j k) refl l

    pub put_at : get_or (put xs v h k n) j (pos 0)
        ≡ cond (nat_lt j h) (get_or xs j (pos 0)) (cond (nat_lt j k) v (get_or xs j (pos 0)))
    put_at = put_by (nat_lt j h) refl
