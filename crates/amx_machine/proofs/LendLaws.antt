-- A live part that was lent: what is dead is swept after it as before it, whatever comes back.
use Rattle.std.proofs.Common.{◌≡◌, ◌+◌, ◌-◌, ◌*◌, ◌/◌, ◌%◌, ◌==◌, ◌&&◌, ◌||◌, ◌<◌, ◌≤◌, ◌++◌, ℕ, ℤ, pos, List, []}
use Rattle.std.proofs.Common.{Bool, true, false, cond, length, take, drop, replicate, get_or, nat_le, nat_lt}
use Rattle.std.proofs.Common.{refl, sym, ap, ◌∙◌, arith, ltb-true, length-append, length-take, length-drop}
use Rattle.std.specs.Prelude.{if◌then◌else◌}
use Rattle.std.specs.List.{refill, length_refill}
use Rattle.std.proofs.lemmas.Bool.{ltb-false, false≢true}
use Rattle.std.proofs.lemmas.List.{get_or-take, get_or-drop, get_or_append_left, get_or-append_right}
use Rattle.std.proofs.lemmas.List.{ext_get_or, length-replicate, get_or-replicate}
use Rattle.amx_block.specs.Lending.{written_over}
use Rattle.amx_ops.specs.declared.amx.Amx.{Amx}
use Rattle.amx_ops.specs.State.{State, stp, swept}
use Rattle.amx_ops.specs.Access.{is_live}
use Rattle.amx_step.specs.Hosting.{AreInOrder, with_live}
use Rattle.amx_machine.specs.declared.mode.Mode.{Mode}
use Rattle.amx_machine.specs.declared.mode.Mode.TheVariants as mode
use Rattle.amx_machine.specs.Machine.{resting}
use Rattle.amx_machine.proofs.SleepLaws.{length_stays, swept_length}

abbrev zero : ℤ
zero = pos 0

-- ---- a cell once others are written over, from cell i on

abbrev over_at : (i : ℕ) → List ℤ → ℕ → ℤ → ℤ
over_at i new j x = cond (nat_lt j i) x (cond (nat_lt (j - i) (length new)) (get_or new (j - i) zero) x)

module _ (cells new : List ℤ) (at j : ℕ) (fit : at / 4 ≤ length cells) (h : j < length cells) where
  abbrev i : ℕ
  i = at / 4

  abbrev behind : List ℤ
  behind = drop (length new) (drop i cells)

  abbrev all : List ℤ
  all = take i cells ++ (new ++ behind)

  front : length (take i cells) ≡ i
  front = omega (arith, fit, length-take i cells)

  long : j < length all
  long =
      omega (
        arith,
        h,
        fit,
        front,
        length-append (take i cells) (new ++ behind),
        length-append new behind,
        length-drop (length new) (drop i cells),
        length-drop i cells,
      )

  first : get_or (written_over cells at new) j zero ≡ get_or all j zero
  first =
      get_or-take (length cells) (all ++ drop (length all) cells) j zero h
      ∙ get_or_append_left all (drop (length all) cells) zero j long

  last_by : (b : Bool) → nat_lt (j - i) (length new) ≡ b → i ≤ j
      → get_or (new ++ behind) (j - i) zero ≡ cond b (get_or new (j - i) zero) (get_or cells j zero)
  last_by true e l = get_or_append_left new behind zero (j - i) (ltb-true (j - i) (length new) e)
  last_by false e l =
      let past = ltb-false (j - i) (length new) e in
      let there : i + (length new + (j - i - length new)) ≡ j = omega (arith, l, past) in
      get_or-append_right new behind (length new) (j - i) zero refl past
      ∙ get_or-drop (length new) (drop i cells) (j - i - length new) zero
      ∙ get_or-drop i cells (length new + (j - i - length new)) zero
      ∙ ap (λ n. get_or cells n zero) there

  all_by : (b : Bool) → nat_lt j i ≡ b → get_or all j zero
      ≡ cond b (get_or cells j zero) (cond (nat_lt (j - i) (length new)) (get_or new (j - i) zero) (get_or cells j zero))
  all_by true e =
      let low = ltb-true j i e in
      get_or_append_left (take i cells) (new ++ behind) zero j (omega (arith, low, front))
      ∙ get_or-take i cells j zero low
  all_by false e =
      let l = ltb-false j i e in
      get_or-append_right (take i cells) (new ++ behind) i j zero front l
      ∙ last_by (nat_lt (j - i) (length new)) refl l

  written_at : get_or (written_over cells at new) j zero ≡ over_at i new j (get_or cells j zero)
  written_at = first ∙ all_by (nat_lt j i) refl

-- ---- a cell once what is dead is swept

module _ (h k : ℕ) (low : h ≤ k) where
  abbrev swept_cells : List ℤ → List ℤ
  swept_cells xs = take h xs ++ (replicate (k - h) zero ++ drop k xs)

  abbrev swept_at : ℕ → ℤ → ℤ
  swept_at j x = cond (nat_lt j h) x (cond (nat_lt j k) zero x)

  module _ (xs : List ℤ) (high : k ≤ length xs) (j : ℕ) where
    size : length (take h xs) ≡ h
    size = omega (arith, low, high, length-take h xs)

    rest_by : (b : Bool) → nat_lt j k ≡ b → h ≤ j
        → get_or (replicate (k - h) zero ++ drop k xs) (j - h) zero ≡ cond b zero (get_or xs j zero)
    rest_by true e l =
        let under = ltb-true j k e in
        let there : j - h < k - h = omega (arith, under, l) in
        get_or_append_left (replicate (k - h) zero) (drop k xs) zero (j - h)
        (omega (arith, there, length-replicate (k - h) zero))
        ∙ get_or-replicate (k - h) (j - h) zero zero there
    rest_by false e l =
        let past = ltb-false j k e in
        let there : k + (j - h - (k - h)) ≡ j = omega (arith, past, low, l) in
        get_or-append_right (replicate (k - h) zero) (drop k xs) (k - h) (j - h) zero
        (length-replicate (k - h) zero) (omega (arith, past, low))
        ∙ get_or-drop k xs (j - h - (k - h)) zero ∙ ap (λ n. get_or xs n zero) there

    is_by : (b : Bool) → nat_lt j h ≡ b → get_or (swept_cells xs) j zero
        ≡ cond b (get_or xs j zero) (cond (nat_lt j k) zero (get_or xs j zero))
    is_by true e =
        let under = ltb-true j h e in
        get_or_append_left (take h xs) (replicate (k - h) zero ++ drop k xs) zero j (omega (arith, under, size))
        ∙ get_or-take h xs j zero under
    is_by false e =
        let l = ltb-false j h e in
        get_or-append_right (take h xs) (replicate (k - h) zero ++ drop k xs) h j zero size l
        ∙ rest_by (nat_lt j k) refl l

    swept_is : get_or (swept_cells xs) j zero ≡ swept_at j (get_or xs j zero)
    swept_is = is_by (nat_lt j h) refl

  again_by : (b c : Bool) (x : ℤ) (f : ℤ → ℤ) → cond b (f x) (cond c zero (f x))
      ≡ cond b (f (cond b x (cond c zero x))) (cond c zero (f (cond b x (cond c zero x))))
  again_by true c x f = refl
  again_by false true x f = refl
  again_by false false x f = refl

  module _ (xs new : List ℤ) (high : k ≤ length xs) (at : ℕ) (fit : at / 4 ≤ length xs) where
    same_size : length (swept_cells xs) ≡ length xs
    same_size = length_stays xs h k low high

    wide : (zs : List ℤ) → length (written_over zs at new) ≡ length zs
    wide zs =
        sym (length_refill (length zs) zs
        (take (at / 4) zs ++ (new ++ drop (length new) (drop (at / 4) zs))) refl)

    swept_wide : (zs : List ℤ) → k ≤ length zs → length (swept_cells (written_over zs at new)) ≡ length zs
    swept_wide zs l = length_stays (written_over zs at new) h k low (omega (arith, l, wide zs)) ∙ wide zs

    at_each : (j : ℕ) → j < length xs → get_or (swept_cells (written_over xs at new)) j zero
        ≡ get_or (swept_cells (written_over (swept_cells xs) at new)) j zero
    at_each j l =
        swept_is (written_over xs at new) (omega (arith, high, wide xs)) j
        ∙ ap (swept_at j) (written_at xs new at j fit l)
        ∙ again_by (nat_lt j h) (nat_lt j k) (get_or xs j zero) (over_at (at / 4) new j)
        ∙ ap (λ x. swept_at j (over_at (at / 4) new j x)) (sym (swept_is xs high j))
        ∙ ap (swept_at j) (sym (written_at (swept_cells xs) new at j (omega (arith, fit, same_size))
        (omega (arith, l, same_size))))
        ∙ sym (swept_is (written_over (swept_cells xs) at new)
        (omega (arith, high, same_size, wide (swept_cells xs))) j)

    pub swept_over : swept_cells (written_over xs at new) ≡ swept_cells (written_over (swept_cells xs) at new)
    swept_over =
        let left = swept_wide xs high in
        let right = swept_wide (swept_cells xs) (omega (arith, high, same_size)) in
        ext_get_or zero _ _ (left ∙ sym same_size ∙ sym right) (λ j l. at_each j (omega (arith, l, left)))

-- ---- in each mode

module _ (amx : Amx) (s : State) (o : AreInOrder amx s) (at : ℕ) (new : List ℤ) where
  fits_by : (a b c d : Bool) → (at % 4 == 0) ≡ a → nat_lt at s.hea ≡ b → nat_le s.stk at ≡ c → nat_lt at (stp s) ≡ d
      → (if is_live s at then at else 0) / 4 ≤ length s.cells
  fits_by true true c d p q r t =
      rw (p, q) (omega (arith, ltb-true at s.hea q, o.order.1, o.order.2))
  fits_by true false true true p q r t = rw (p, q, r, t) (omega (arith, ltb-true at (stp s) t))
  fits_by true false true false p q r t = rw (p, q, r, t) (omega arith)
  fits_by true false false d p q r t = rw (p, q, r) (omega arith)
  fits_by false b c d p q r t = rw p (omega arith)

  asleep : swept (with_live s at new) ≡ swept (with_live (swept s) at new)
  asleep =
      let top : stp (swept s) ≡ stp s = ap (λ n. 4 * n) (swept_length amx s o) in
      let place : (if is_live s at then at else 0) ≡ (if is_live (swept s) at then at else 0) =
      ap (λ n. if (at % 4 == 0) && (nat_lt at s.hea || (nat_le s.stk at && nat_lt at n)) then at else 0) (sym top) in
      ap (λ (cells : List ℤ). record s { cells = cells })
      (swept_over (s.hea / 4) (s.stk / 4) (omega (arith, o.order.1)) s.cells new
      (omega (arith, o.order.2)) (if is_live s at then at else 0)
      (fits_by (at % 4 == 0) (nat_lt at s.hea) (nat_le s.stk at) (nat_lt at (stp s)) refl refl refl refl))
      ∙ ap (λ p. swept (record (swept s) { cells = written_over (swept s).cells p new })) place

  pub lent_in : (m : Mode) → resting m (with_live s at new) ≡ resting m (with_live (resting m s) at new)
  lent_in mode.Loaded = refl
  lent_in mode.Running = refl
  lent_in mode.Asleep = asleep
  lent_in mode.Waiting = refl
  lent_in (mode.Halted code) = refl
  lent_in (mode.Failed code) = refl
