-- Rows of cells in bytes and in a memory.
use Rattle.std.proofs.Common.{◌≡◌, ◌+◌, ◌-◌, ◌*◌, ◌/◌, ◌%◌, ◌<◌, ◌≤◌, ◌++◌, ◌&&◌, ℕ, zero}
use Rattle.std.proofs.Common.{suc, ℤ, pos, List, [], ◌∷◌, inl, inr, Bool, true, false, cond, All}
use Rattle.std.proofs.Common.{length, take, drop, replicate, set, nat_le, nat_lt, refl, sym, ap}
use Rattle.std.proofs.Common.{◌∙◌, arith, ltb-true}
use Rattle.std.specs.Cmp.{signed_Decides}
use Rattle.std.proofs.lemmas.Bool.{eq-eqb, false≢true, leb-false, ltb-false}
use Rattle.std.proofs.lemmas.List.{append_assoc, append-nil, drop-replicate, drop-set, drop-set-add}
use Rattle.std.proofs.lemmas.List.{drop_all, drop_at, length-append, length-drop, length-replicate}
use Rattle.std.proofs.lemmas.List.{length-take, set-append_right, take-replicate, take_at}
use Rattle.std.proofs.lemmas.List.Elements.{All-nil, All-cons}
use Rattle.std.proofs.Math.Seq.{take-append-add}
use Rattle.pawn_cells.specs.Cells.{IsCell, equal}
use Rattle.pawn_cells.proofs.CellLaws.{cell_of_cell}
use Rattle.amx_ops.specs.State.{State}
use Rattle.amx_ops.specs.Moves.{live_from}
use Rattle.amx_step.specs.Hosting.{with_live}
use Rattle.amx_format.specs.Numbers.{word_at, cell_at, cells_at}
use Rattle.amx_machine.specs.Machine.{Machine, IsKept, resting}
use Rattle.amx_machine.proofs.PutLaws.{put_kept}
use Rattle.amx_image.specs.Faults.{are_zero}
use Rattle.amx_image.specs.Rows.{IsLiveRow, with_row}

-- ---- in bytes

pub length-cells_at : (bytes : List ℕ) (place n : ℕ) → length (cells_at bytes place n) ≡ n
length-cells_at bytes place zero = refl
length-cells_at bytes place (suc n) = omega (arith, length-cells_at bytes (place + 4) n)

pub cells_fit : (bytes : List ℕ) (place n : ℕ) → All IsCell (cells_at bytes place n)
cells_fit bytes place zero = All-nil IsCell
cells_fit bytes place (suc n) =
    All-cons IsCell (cell_at bytes place) (cells_at bytes (place + 4) n)
    (cell_of_cell (word_at bytes place)) (cells_fit bytes (place + 4) n)

-- so many cells, and those behind them
pub cells_at-split : (bytes : List ℕ) (place a b : ℕ)
    → cells_at bytes place (a + b) ≡ cells_at bytes place a ++ cells_at bytes (place + 4 * a) b
cells_at-split bytes place zero b =
    let n : 0 + b ≡ b = omega arith in
    let p : place ≡ place + 4 * 0 = omega arith in
    ap (cells_at bytes place) n ∙ ap (λ q. cells_at bytes q b) p
cells_at-split bytes place (suc a) b =
    let n : suc a + b ≡ suc (a + b) = omega arith in
    let p : place + 4 + 4 * a ≡ place + 4 * suc a = omega arith in
    ap (cells_at bytes place) n
    ∙ ap (λ zs. cell_at bytes place ∷ zs)
    (cells_at-split bytes (place + 4) a b
    ∙ ap (λ q. cells_at bytes (place + 4) a ++ cells_at bytes q b) p)

-- ---- zeros

pub are_zero-replicate : (n : ℕ) → are_zero (replicate n (pos 0)) ≡ true
are_zero-replicate zero = refl
are_zero-replicate (suc n) = are_zero-replicate n

both_true : (a b : Bool) → (a && b) ≡ true → (a ≡ true) × (b ≡ true)
both_true true b h = (refl, h)
both_true false b h = absurd (false≢true h)

pub zeros_of : (zs : List ℤ) → are_zero zs ≡ true → zs ≡ replicate (length zs) (pos 0)
zeros_of [] h = refl
zeros_of (z ∷ zs) h =
    let b = both_true (equal z (pos 0)) (are_zero zs) h in
    ap (λ y. y ∷ zs) ((signed_Decides z (pos 0)).0 b.0) ∙ ap (λ ys. pos 0 ∷ ys) (zeros_of zs b.1)

-- ---- in a memory

-- a row of h cells, and one from number k on, written over n zeros
module _ (heap stack : List ℤ) (h k n : ℕ) (low : h ≤ k) (high : k ≤ n) (front : length heap ≡ h)
    (back : length stack ≡ n - k) where
  abbrev pub all_cells : List ℤ
  all_cells = heap ++ (replicate (k - h) (pos 0) ++ stack)

  abbrev pub first_written : List ℤ
  first_written =
      take 0 (replicate n (pos 0)) ++ (heap ++ drop (0 + length heap) (replicate n (pos 0)))

  first_is : first_written ≡ heap ++ replicate (n - h) (pos 0)
  first_is =
      let at : 0 + length heap ≡ h = omega (arith, front) in
      ap (λ i. heap ++ drop i (replicate n (pos 0))) at
      ∙ ap (λ zs. heap ++ zs) (drop-replicate h n (pos 0))

  front_of : take k (heap ++ replicate (n - h) (pos 0)) ≡ heap ++ replicate (k - h) (pos 0)
  front_of =
      let at : k ≡ length heap + (k - h) = omega (arith, front, low) in
      ap (λ i. take i (heap ++ replicate (n - h) (pos 0))) at
      ∙ take-append-add heap (replicate (n - h) (pos 0)) (k - h)
      ∙ ap (λ zs. heap ++ zs) (take-replicate (k - h) (n - h) (pos 0) (omega (arith, low, high)))

  back_of : drop (k + length stack) (heap ++ replicate (n - h) (pos 0)) ≡ []
  back_of =
      drop_all (k + length stack) (heap ++ replicate (n - h) (pos 0))
      (omega (
        arith,
        front,
        back,
        low,
        high,
        length-append heap (replicate (n - h) (pos 0)),
        length-replicate (n - h) (pos 0),
      ))

  pub both_written : take k first_written ++ (stack ++ drop (k + length stack) first_written)
      ≡ all_cells
  both_written =
      ap (λ zs. take k zs ++ (stack ++ drop (k + length stack) zs)) first_is
      ∙ ap (λ zs. zs ++ (stack ++ drop (k + length stack) (heap ++ replicate (n - h) (pos 0))))
      front_of
      ∙ ap (λ zs. (heap ++ replicate (k - h) (pos 0)) ++ (stack ++ zs)) back_of
      ∙ ap (λ zs. (heap ++ replicate (k - h) (pos 0)) ++ zs) (append-nil stack)
      ∙ append_assoc heap (replicate (k - h) (pos 0)) stack

  pub size : length all_cells ≡ n
  size =
      omega (
        arith,
        front,
        back,
        low,
        high,
        length-append heap (replicate (k - h) (pos 0) ++ stack),
        length-append (replicate (k - h) (pos 0)) stack,
        length-replicate (k - h) (pos 0),
      )

  pub below : take h all_cells ≡ heap
  below = take_at heap (replicate (k - h) (pos 0) ++ stack) h front

  pub above : drop k all_cells ≡ stack
  above =
      ap (drop k) (sym (append_assoc heap (replicate (k - h) (pos 0)) stack))
      ∙ drop_at (heap ++ replicate (k - h) (pos 0)) stack k
      (omega (
        arith,
        front,
        low,
        length-append heap (replicate (k - h) (pos 0)),
        length-replicate (k - h) (pos 0),
      ))

-- n cells at a place, in three parts
module _ (bytes : List ℕ) (place h k n : ℕ) (low : h ≤ k) (high : k ≤ n) where
  pub parts : cells_at bytes place n
      ≡ cells_at bytes place h ++ (cells_at bytes (place + 4 * h) (k - h)
      ++ cells_at bytes (place + 4 * k) (n - k))
  parts =
      let all : n ≡ h + (k - h + (n - k)) = omega (arith, low, high) in
      let there : place + 4 * h + 4 * (k - h) ≡ place + 4 * k = omega (arith, low) in
      ap (cells_at bytes place) all ∙ cells_at-split bytes place h (k - h + (n - k))
      ∙ ap (λ zs. cells_at bytes place h ++ zs)
      (cells_at-split bytes (place + 4 * h) (k - h) (n - k))
      ∙ ap (λ q. cells_at bytes place h
      ++ (cells_at bytes (place + 4 * h) (k - h) ++ cells_at bytes q (n - k))) there

-- ---- a search for a cell that isn't 0

-- the cells left, one by one
left : (bytes : List ℕ) (place n index : ℕ) → index < n
    → cells_at bytes (place + 4 * index) (n - index)
    ≡ cell_at bytes (place + 4 * index)
    ∷ cells_at bytes (place + 4 * (index + 1)) (n - (index + 1))
left bytes place n index h =
    let m : n - index ≡ suc (n - (index + 1)) = omega (arith, h) in
    let p : place + 4 * index + 4 ≡ place + 4 * (index + 1) = omega arith in
    ap (cells_at bytes (place + 4 * index)) m
    ∙ ap (λ q. cell_at bytes (place + 4 * index) ∷ cells_at bytes q (n - (index + 1))) p

pub zero_more : (bytes : List ℕ) (place n index : ℕ) → index < n
    → cell_at bytes (place + 4 * index) ≡ pos 0
    → are_zero (cells_at bytes (place + 4 * index) (n - index))
    ≡ are_zero (cells_at bytes (place + 4 * (index + 1)) (n - (index + 1)))
zero_more bytes place n index h e =
    ap are_zero (left bytes place n index h)
    ∙ ap (λ z. are_zero (z ∷ cells_at bytes (place + 4 * (index + 1)) (n - (index + 1)))) e

with_other : (z : ℤ) (zs : List ℤ) (b : Bool) → equal z (pos 0) ≡ b → (z ≡ pos 0 → ⊥)
    → are_zero (z ∷ zs) ≡ false
with_other z zs true e h = absurd (h ((signed_Decides z (pos 0)).0 e))
with_other z zs false e h = ap (λ (b : Bool). b && are_zero zs) e

pub other_cell : (bytes : List ℕ) (place n index : ℕ) → index < n
    → (cell_at bytes (place + 4 * index) ≡ pos 0 → ⊥)
    → are_zero (cells_at bytes (place + 4 * index) (n - index)) ≡ false
other_cell bytes place n index h e =
    ap are_zero (left bytes place n index h)
    ∙ with_other (cell_at bytes (place + 4 * index))
    (cells_at bytes (place + 4 * (index + 1)) (n - (index + 1))) _ refl e

-- ---- one cell more in a row

-- the row from a place on with the next cell
pub next_cell : (bytes : List ℕ) (place i : ℕ)
    → cells_at bytes place (i + 1) ≡ cells_at bytes place i ++ cell_at bytes (place + 4 * i) ∷ []
next_cell bytes place i = cells_at-split bytes place i 1

-- a row that begins with cells of bytes, and the next cell written
pub row_more : (row : List ℤ) (bytes : List ℕ) (place i : ℕ) (v : ℤ)
    → v ≡ cell_at bytes (place + 4 * i) → i < length row
    → set (cells_at bytes place i ++ drop i row) i v
    ≡ cells_at bytes place (i + 1) ++ drop (i + 1) row
row_more row bytes place i v e l =
    let read = cells_at bytes place i in
    let none : i - i ≡ 0 = omega arith in
    set-append_right read (drop i row) i i v (length-cells_at bytes place i) (omega arith)
    ∙ ap (λ j. read ++ set (drop i row) j v) none
    ∙ ap (λ zs. read ++ zs) (first_set i row v l)
    ∙ ap (λ z. read ++ z ∷ drop (i + 1) row) e
    ∙ sym (append_assoc read (cell_at bytes (place + 4 * i) ∷ []) (drop (i + 1) row))
    ∙ ap (λ zs. zs ++ drop (i + 1) row) (sym (next_cell bytes place i))
  where
    first_set : (j : ℕ) (ys : List ℤ) (z : ℤ) → j < length ys
        → set (drop j ys) 0 z ≡ z ∷ drop (j + 1) ys
    first_set j ys z g =
        let at : j ≡ j + 0 = omega arith in
        sym (drop-set-add j ys 0 z) ∙ ap (λ q. drop j (set ys q z)) (sym at) ∙ drop-set ys j z g

-- ---- a row in a state

live_by : (s : State) (at count : ℕ) (below from : Bool) → nat_lt at s.hea ≡ below
    → nat_le s.stk at ≡ from → IsLiveRow s at count → s.hea ≤ s.stk
    → count ≤ length (cond below (drop (at / 4) (take (s.hea / 4) s.cells))
    (cond from (drop (at / 4) s.cells) []))
live_by s at count true from b f row o = elim row.within [
  | inl l ↦
      omega (
        arith,
        l,
        row.below,
        row.aligned,
        length-drop (at / 4) (take (s.hea / 4) s.cells),
        length-take (s.hea / 4) s.cells,
      )
  | inr l ↦ absurd (omega (arith, l, o, ltb-true at s.hea b))
]
live_by s at count false true b f row o =
    omega (arith, row.below, row.aligned, length-drop (at / 4) s.cells)
live_by s at count false false b f row o = elim row.within [
  | inl l ↦ omega (arith, l, ltb-false at s.hea b)
  | inr l ↦ absurd (omega (arith, l, leb-false s.stk at f))
]

-- it lies within the live part there
pub live_row : (s : State) (at count : ℕ) → IsLiveRow s at count → s.hea ≤ s.stk
    → count ≤ length (live_from s at)
live_row s at count row o =
    rw (eq-eqb (at % 4) 0 row.aligned)
    (live_by s at count (nat_lt at s.hea) (nat_le s.stk at) refl refl row o)

-- cells put at the front of that part are the row
pub row_put : (m : Machine) (at count : ℕ) (row part : List ℤ) → IsKept m
    → IsLiveRow m.state at count → length row ≡ count
    → part ≡ row ++ drop count (live_from m.state at)
    → record m { state = resting m.mode (with_live m.state at part) }
    ≡ record m { state = with_row m.state at row }
row_put m at count row part k live size is =
    let fits : length row ≤ length (live_from m.state at) =
    omega (arith, size, live_row m.state at count live k.in_order.order.1) in
    ap (λ (cells : List ℤ). record m { state = resting m.mode (with_live m.state at cells) })
    (is ∙ ap (λ n. row ++ drop n (live_from m.state at)) (sym size))
    ∙ put_kept m at row k fits
