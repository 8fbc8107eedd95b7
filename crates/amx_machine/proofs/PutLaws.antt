-- Cells that are put into a live part, from its first on.
use Rattle.std.proofs.Common.{◌≡◌, ◌+◌, ◌-◌, ◌/◌, ◌%◌, ◌==◌, ◌≤◌, ◌++◌, ℕ, zero, suc, ℤ, pos, List}
use Rattle.std.proofs.Common.{[], ◌∷◌, Bool, true, false, cond, length, take, drop, replicate}
use Rattle.std.proofs.Common.{nat_le, nat_lt, refl, sym, ap, ap₂, ◌∙◌, arith, length-append}
use Rattle.std.proofs.Common.{length-drop, leb-true, ltb-true}
use Rattle.std.specs.Prelude.{if◌then◌else◌}
use Rattle.std.specs.List.{refill}
use Rattle.std.proofs.lemmas.List.{length-take, length-replicate, take_at, drop_at, drop-drop}
use Rattle.std.proofs.lemmas.List.{take-take, take-append-le, drop-append-le, take-append-drop}
use Rattle.std.proofs.lemmas.List.{append_assoc}
use Rattle.std.proofs.Math.Seq.{take-append-add, drop-append-add}
use Rattle.amx_block.specs.Lending.{written_over}
use Rattle.amx_ops.specs.declared.amx.Amx.{Amx}
use Rattle.amx_ops.specs.State.{State, swept}
use Rattle.amx_ops.specs.Access.{is_live}
use Rattle.amx_ops.specs.Moves.{live_from, with_write}
use Rattle.amx_step.specs.Hosting.{AreInOrder, with_live}
use Rattle.amx_step.proofs.HostLaws.{no_part}
use Rattle.amx_machine.specs.declared.mode.Mode.{Mode}
use Rattle.amx_machine.specs.declared.mode.Mode.TheVariants as mode
use Rattle.amx_machine.specs.Machine.{Machine, IsClean, IsKept, resting}

-- ---- cells over others

-- from cell i on
abbrev over : ℕ → List ℤ → List ℤ → List ℤ
over i new xs = take i xs ++ (new ++ drop (i + length new) xs)

no_cells : (new : List ℤ) → length new ≤ 0 → new ≡ []
no_cells [] h = refl
no_cells (x ∷ new) h = absurd (omega (arith, h))

-- none are put anywhere
over_none : (i : ℕ) (new xs : List ℤ) → length new ≤ 0 → over i new xs ≡ xs
over_none i new xs h =
    let at : i + length new ≡ i = omega (arith, h) in
    ap (λ n. take i xs ++ (new ++ drop n xs)) at
    ∙ ap (λ l. take i xs ++ (l ++ drop i xs)) (no_cells new h) ∙ take-append-drop i xs

length_over : (i : ℕ) (new xs : List ℤ) → length new ≤ length xs - i
    → length (over i new xs) ≡ length xs
length_over i new xs h =
    omega (
      arith,
      h,
      length-append (take i xs) (new ++ drop (i + length new) xs),
      length-append new (drop (i + length new) xs),
      length-take i xs,
      length-drop (i + length new) xs,
    )

-- among the first cells
over_first : (i : ℕ) (new a b : List ℤ) → i + length new ≤ length a
    → over i new (a ++ b) ≡ over i new a ++ b
over_first i new a b h =
    let low : i ≤ length a = omega (arith, h) in
    ap₂ (λ x y. x ++ (new ++ y)) (take-append-le i a b low) (drop-append-le (i + length new) a b h)
    ∙ ap (λ l. take i a ++ l) (sym (append_assoc new (drop (i + length new) a) b))
    ∙ sym (append_assoc (take i a) (new ++ drop (i + length new) a) b)

-- behind them
over_rest : (i j : ℕ) (new a b : List ℤ) → i ≡ length a + j
    → over i new (a ++ b) ≡ a ++ over j new b
over_rest i j new a b e =
    let end : i + length new ≡ length a + (j + length new) = omega (arith, e) in
    ap (λ n. take n (a ++ b) ++ (new ++ drop (i + length new) (a ++ b))) e
    ∙ ap (λ n. take (length a + j) (a ++ b) ++ (new ++ drop n (a ++ b))) end
    ∙ ap₂ (λ x y. x ++ (new ++ y)) (take-append-add a b j) (drop-append-add a b (j + length new))
    ∙ append_assoc a (take j b) (new ++ drop (j + length new) b)

-- ---- the part itself

front_back : (h : ℕ) (xs : List ℤ) → take h xs ++ drop (length (take h xs)) xs ≡ xs
front_back zero xs = refl
front_back (suc h) [] = refl
front_back (suc h) (x ∷ xs) = ap (λ l. x ∷ l) (front_back h xs)

part_back : (i h : ℕ) (xs : List ℤ)
    → drop i (take h xs) ++ drop (length (drop i (take h xs))) (drop i xs) ≡ drop i xs
part_back zero h xs = front_back h xs
part_back (suc i) zero xs = refl
part_back (suc i) (suc h) [] = refl
part_back (suc i) (suc h) (x ∷ xs) = part_back i h xs

all_back : (xs : List ℤ) → xs ++ drop (length xs) xs ≡ xs
all_back [] = refl
all_back (x ∷ xs) = ap (λ l. x ∷ l) (all_back xs)

back_by : (s : State) (i : ℕ) (aligned below from : Bool)
    →
    (let part = cond aligned (cond below (drop i (take (s.hea / 4) s.cells)) (cond from (drop i s.cells) [])) [] in
    part ++ drop (length part) (drop i s.cells) ≡ drop i s.cells)
back_by s i true true from = part_back i (s.hea / 4) s.cells
back_by s i true false true = all_back (drop i s.cells)
back_by s i true false false = refl
back_by s i false below from = refl

-- a live part, and all cells behind it
live_back : (s : State) (at : ℕ)
    → live_from s at ++ drop (length (live_from s at)) (drop (at / 4) s.cells)
    ≡ drop (at / 4) s.cells
live_back s at = back_by s (at / 4) (at % 4 == 0) (nat_lt at s.hea) (nat_le s.stk at)

module _ (new part ys : List ℤ) (short : length new ≤ length part)
    (back : part ++ drop (length part) ys ≡ ys) where
  abbrev put : List ℤ
  put = new ++ drop (length new) part

  put_back : put ++ drop (length put) ys ≡ new ++ drop (length new) ys
  put_back =
      let size : length put ≡ length part =
      omega (
        arith,
        short,
        length-append new (drop (length new) part),
        length-drop (length new) part,
      ) in
      ap (λ n. put ++ drop n ys) size
      ∙ append_assoc new (drop (length new) part) (drop (length part) ys)
      ∙ ap (λ l. new ++ l) (sym (drop-append-le (length new) part (drop (length part) ys) short)
      ∙ ap (drop (length new)) back)

refill_same : (xs ys : List ℤ) → length ys ≡ length xs → refill (length xs) xs ys ≡ ys
refill_same xs ys e = take_at ys (drop (length ys) xs) (length xs) e

-- the part comes back with the new cells in front
put_over : (cells : List ℤ) (at : ℕ) (new part : List ℤ) → length new ≤ length part
    → part ++ drop (length part) (drop (at / 4) cells) ≡ drop (at / 4) cells
    → written_over cells at (new ++ drop (length new) part) ≡ over (at / 4) new cells
put_over cells at new part short back =
    let i = at / 4 in
    let room : length new ≤ length cells - i =
    omega (
      arith,
      short,
      length-append part (drop (length part) (drop i cells)),
      ap length back,
      length-drop i cells,
    ) in
    ap (λ l. refill (length cells) cells (take i cells ++ l))
    (put_back new part (drop i cells) short back)
    ∙ ap (λ l. refill (length cells) cells (take i cells ++ (new ++ l)))
    (drop-drop (length new) i cells)
    ∙ refill_same cells (over i new cells) (length_over i new cells room)

module _ (s : State) (at : ℕ) (new : List ℤ) (short : length new ≤ length (live_from s at)) where
  lent_by : (b : Bool) → is_live s at ≡ b
      → written_over s.cells (if is_live s at then at else 0)
      (new ++ drop (length new) (live_from s at)) ≡ over (at / 4) new s.cells
  lent_by true e =
      ap (λ b. written_over s.cells (if b then at else 0)
      (new ++ drop (length new) (live_from s at))) e
      ∙ put_over s.cells at new (live_from s at) short (live_back s at)
  lent_by false e =
      let part : live_from s at ≡ [] = sym (no_part s at e) in
      let none : length new ≤ 0 = omega (arith, short, ap length part) in
      ap (λ b. written_over s.cells (if b then at else 0)
      (new ++ drop (length new) (live_from s at))) e
      ∙ put_over s.cells 0 new (live_from s at) short (ap (λ l. l ++ drop (length l) s.cells) part)
      ∙ over_none 0 new s.cells none ∙ sym (over_none (at / 4) new s.cells none)

  pub put_live : with_live s at (new ++ drop (length new) (live_from s at))
      ≡ record s { cells = with_write (record { to = at; values = new }) s.cells }
  put_live = ap (λ (cells : List ℤ). record s { cells = cells }) (lent_by (is_live s at) refl)

-- ---- what is dead stays 0

module _ (h k : ℕ) (xs : List ℤ) (low : h ≤ k) (high : k ≤ length xs) where
  abbrev swept_cells : List ℤ → List ℤ
  swept_cells ys = take h ys ++ (replicate (k - h) (pos 0) ++ drop k ys)

  below_stays : (i : ℕ) (new : List ℤ) → i + length new ≤ h
      → swept_cells (over i new xs) ≡ over i new (swept_cells xs)
  below_stays i new e =
      let size : length (take h xs) ≡ h = omega (arith, low, high, length-take h xs) in
      let fits : i + length new ≤ length (take h xs) = omega (arith, e, size) in
      let room : length new ≤ length (take h xs) - i = omega (arith, fits) in
      let first = over i new (take h xs) in
      let there : length first ≡ h = omega (arith, size, length_over i new (take h xs) room) in
      let apart : over i new xs ≡ first ++ drop h xs =
      ap (over i new) (sym (take-append-drop h xs))
      ∙ over_first i new (take h xs) (drop h xs) fits in
      let at : k ≡ h + (k - h) = omega (arith, low) in
      let behind : drop k (first ++ drop h xs) ≡ drop k xs =
      ap (λ n. drop n (first ++ drop h xs)) at ∙ sym (drop-drop (k - h) h (first ++ drop h xs))
      ∙ ap (drop (k - h)) (drop_at first (drop h xs) h there) ∙ drop-drop (k - h) h xs
      ∙ ap (λ n. drop n xs) (sym at) in
      ap swept_cells apart
      ∙ ap₂ (λ a b. a ++ (replicate (k - h) (pos 0) ++ b))
      (take_at first (drop h xs) h there) behind
      ∙ sym (over_first i new (take h xs) (replicate (k - h) (pos 0) ++ drop k xs) fits)

  above_stays : (i : ℕ) (new : List ℤ) → k ≤ i
      → swept_cells (over i new xs) ≡ over i new (swept_cells xs)
  above_stays i new e =
      let size : length (take k xs) ≡ k = omega (arith, high, length-take k xs) in
      let at : i ≡ length (take k xs) + (i - k) = omega (arith, e, size) in
      let rest = over (i - k) new (drop k xs) in
      let zeros = replicate (k - h) (pos 0) in
      let apart : over i new xs ≡ take k xs ++ rest =
      ap (over i new) (sym (take-append-drop k xs))
      ∙ over_rest i (i - k) new (take k xs) (drop k xs) at in
      let within : h ≤ length (take k xs) = omega (arith, low, size) in
      let dead : i ≡ length (take h xs ++ zeros) + (i - k) =
      omega (
        arith,
        e,
        low,
        high,
        length-append (take h xs) zeros,
        length-take h xs,
        length-replicate (k - h) (pos 0),
      ) in
      ap swept_cells apart
      ∙ ap₂ (λ a b. a ++ (zeros ++ b))
      (take-append-le h (take k xs) rest within ∙ take-take h k xs low)
      (drop_at (take k xs) rest k size)
      ∙ sym (append_assoc (take h xs) zeros rest)
      ∙ sym (over_rest i (i - k) new (take h xs ++ zeros) (drop k xs) dead)
      ∙ ap (over i new) (append_assoc (take h xs) zeros (drop k xs))

  none_stays : (i : ℕ) (new : List ℤ) → length new ≤ 0
      → swept_cells (over i new xs) ≡ over i new (swept_cells xs)
  none_stays i new e =
      ap swept_cells (over_none i new xs e) ∙ sym (over_none i new (swept_cells xs) e)

module _ (amx : Amx) (s : State) (o : AreInOrder amx s) (at : ℕ) (new : List ℤ) where
  low : s.hea / 4 ≤ s.stk / 4
  low = omega (arith, o.order.1)

  high : s.stk / 4 ≤ length s.cells
  high = omega (arith, o.order.2)

  abbrev stays : Type 0
  stays = swept_cells (s.hea / 4) (s.stk / 4) s.cells low high (over (at / 4) new s.cells)
      ≡ over (at / 4) new (swept_cells (s.hea / 4) (s.stk / 4) s.cells low high s.cells)

  stays_by : (aligned below from : Bool) → nat_lt at s.hea ≡ below → nat_le s.stk at ≡ from
      → length new ≤ length (cond aligned
      (cond below (drop (at / 4) (take (s.hea / 4) s.cells))
      (cond from (drop (at / 4) s.cells) [])) []) → stays
  stays_by true true from b f short =
      let under = ltb-true at s.hea b in
      below_stays (s.hea / 4) (s.stk / 4) s.cells low high (at / 4) new
      (omega (
        arith,
        under,
        short,
        o.whole.0,
        length-drop (at / 4) (take (s.hea / 4) s.cells),
        length-take (s.hea / 4) s.cells,
      ))
  stays_by true false true b f short =
      let past = leb-true s.stk at f in
      above_stays (s.hea / 4) (s.stk / 4) s.cells low high (at / 4) new (omega (arith, past))
  stays_by true false false b f short =
      none_stays (s.hea / 4) (s.stk / 4) s.cells low high (at / 4) new short
  stays_by false below from b f short =
      none_stays (s.hea / 4) (s.stk / 4) s.cells low high (at / 4) new short

  -- in each mode
  pub put_in : (m : Mode) → length new ≤ length (live_from s at)
      → resting m (with_live s at (new ++ drop (length new) (live_from s at)))
      ≡ record (resting m s) {
        cells = with_write (record { to = at; values = new })
            (resting m s).cells;
      }
  put_in mode.Loaded h = put_live s at new h
  put_in mode.Running h = put_live s at new h
  put_in mode.Asleep h =
      ap swept (put_live s at new h)
      ∙ ap (λ (cells : List ℤ). record s { cells = cells })
      (stays_by (at % 4 == 0) (nat_lt at s.hea) (nat_le s.stk at) refl refl h)
  put_in mode.Waiting h = put_live s at new h
  put_in (mode.Halted code) h = put_live s at new h
  put_in (mode.Failed code) h = put_live s at new h

-- ---- in a machine

clean_rests : (m : Mode) (s : State) → IsClean m s → resting m s ≡ s
clean_rests mode.Loaded s h = refl
clean_rests mode.Running s h = refl
clean_rests mode.Asleep s h = h
clean_rests mode.Waiting s h = refl
clean_rests (mode.Halted code) s h = refl
clean_rests (mode.Failed code) s h = refl

-- a live part that comes back with other cells in front is a write of these
pub put_kept : (m : Machine) (at : ℕ) (new : List ℤ) → IsKept m
    → length new ≤ length (live_from m.state at)
    → record m {
      state = resting m.mode
          (with_live m.state at (new ++ drop (length new) (live_from m.state at)));
    }
    ≡ record m {
      state = record m.state {
        cells = with_write (record { to = at; values = new }) m.state.cells;
      };
    }
put_kept m at new k h =
    ap (λ (s : State). record m { state = s })
    (put_in m.amx m.state k.in_order at new m.mode h
    ∙ ap (λ (s : State). record s {
      cells = with_write (record { to = at; values = new }) s.cells;
    }) (clean_rests m.mode m.state k.clean))
