-- A sweep of what is dead leaves what is live, and a second one changes nothing.
use Rattle.std.proofs.Common.{◌≡◌, ◌+◌, ◌*◌, ◌-◌, ◌/◌, ◌%◌, ◌==◌, ◌&&◌, ◌≤◌, ◌++◌, ℕ, ℤ, pos, List}
use Rattle.std.proofs.Common.{[], Option, None, Some, Bool, true, false, if◌then◌else◌, length}
use Rattle.std.proofs.Common.{take, drop, replicate, get_or, nat_le, nat_lt, refl, sym, ap, ◌∙◌}
use Rattle.std.proofs.Common.{arith, leb-true, length-append, length-take}
use Rattle.std.proofs.lemmas.List.{length-drop, length-replicate, take_at, drop_at, drop-drop}
use Rattle.std.proofs.lemmas.List.{append_assoc, get_or-drop, drop-replicate, take-replicate}
use Rattle.std.proofs.lemmas.List.{replicate-append-replicate}
use Rattle.pawn_cells.specs.Cells.{bits_of}
use Rattle.amx_ops.specs.declared.amx.Amx.{Amx}
use Rattle.amx_ops.specs.State.{State, stp, swept, cell_at}
use Rattle.amx_ops.specs.Moves.{live_from, arguments}
use Rattle.amx_step.specs.Hosting.{AreInOrder}

-- cells from number h to before number k made 0
module _ (xs : List ℤ) (h k : ℕ) (low : h ≤ k) (high : k ≤ length xs) where
  abbrev zeros : List ℤ
  zeros = replicate (k - h) (pos 0)

  abbrev ys : List ℤ
  ys = take h xs ++ (zeros ++ drop k xs)

  front : length (take h xs) ≡ h
  front = omega (arith, low, high, length-take h xs)

  pub front_stays : take h ys ≡ take h xs
  front_stays = take_at (take h xs) (zeros ++ drop k xs) h front

  -- both in one front
  both : length (take h xs ++ zeros) ≡ k
  both =
      omega (arith, low, front, length-append (take h xs) zeros, length-replicate (k - h) (pos 0))

  pub back_stays : drop k ys ≡ drop k xs
  back_stays =
      ap (drop k) (sym (append_assoc (take h xs) zeros (drop k xs)))
      ∙ drop_at (take h xs ++ zeros) (drop k xs) k both

  pub behind_stays : (i : ℕ) → k ≤ i → drop i ys ≡ drop i xs
  behind_stays i l =
      let there : i ≡ k + (i - k) = omega (arith, l) in
      ap (λ n. drop n ys) there ∙ sym (drop-drop (i - k) k ys) ∙ ap (drop (i - k)) back_stays
      ∙ drop-drop (i - k) k xs ∙ ap (λ n. drop n xs) (sym there)

  pub length_stays : length ys ≡ length xs
  length_stays =
      omega (
        arith,
        low,
        high,
        both,
        length-append (take h xs ++ zeros) (drop k xs),
        ap length (append_assoc (take h xs) zeros (drop k xs)),
        length-drop k xs,
      )

  pub again : take h ys ++ (zeros ++ drop k ys) ≡ ys
  again =
      ap (λ zs. zs ++ (zeros ++ drop k ys)) front_stays
      ∙ ap (λ zs. take h xs ++ (zeros ++ zs)) back_stays

-- so many zeros stay
pub zeros_stay : (n h k : ℕ) → h ≤ k → k ≤ n
    → take h (replicate n (pos 0)) ++ (replicate (k - h) (pos 0) ++ drop k (replicate n (pos 0)))
    ≡ replicate n (pos 0)
zeros_stay n h k low high =
    let all : h + (k - h + (n - k)) ≡ n = omega (arith, low, high) in
    ap (λ zs. zs ++ (replicate (k - h) (pos 0) ++ drop k (replicate n (pos 0))))
    (take-replicate h n (pos 0) (omega (arith, low, high)))
    ∙ ap (λ zs. replicate h (pos 0) ++ (replicate (k - h) (pos 0) ++ zs))
    (drop-replicate k n (pos 0))
    ∙ ap (λ zs. replicate h (pos 0) ++ zs) (replicate-append-replicate (k - h) (n - k) (pos 0))
    ∙ replicate-append-replicate h (k - h + (n - k)) (pos 0)
    ∙ ap (λ m. replicate m (pos 0)) all

-- ---- states

module _ (amx : Amx) (s : State) (o : AreInOrder amx s) where
  low : s.hea / 4 ≤ s.stk / 4
  low = omega (arith, o.order.1)

  high : s.stk / 4 ≤ length s.cells
  high = omega (arith, o.order.2)

  pub swept_again : swept (swept s) ≡ swept s
  swept_again =
      ap (λ cells. record s { cells = cells }) (again s.cells (s.hea / 4) (s.stk / 4) low high)

  pub swept_length : length (swept s).cells ≡ length s.cells
  swept_length = length_stays s.cells (s.hea / 4) (s.stk / 4) low high

  -- a part from STK on, or none
  from_by : (at : ℕ) (b : Bool) → nat_le s.stk at ≡ b
      → (if nat_le s.stk at then drop (at / 4) (swept s).cells else [])
      ≡ (if nat_le s.stk at then drop (at / 4) s.cells else [])
  from_by at true e =
      rw e (behind_stays s.cells (s.hea / 4) (s.stk / 4) low high (at / 4)
      (omega (arith, leb-true s.stk at e)))
  from_by at false e = rw e refl

  pub live_stays : (at : ℕ) → live_from (swept s) at ≡ live_from s at
  live_stays at =
      ap (λ (front : List ℤ). if at % 4 == 0
      then (if nat_lt at s.hea then drop (at / 4) front
      else (if nat_le s.stk at then drop (at / 4) (swept s).cells else [])) else [])
      (front_stays s.cells (s.hea / 4) (s.stk / 4) low high)
      ∙ ap (λ (rest : List ℤ). if at % 4 == 0
      then (if nat_lt at s.hea then drop (at / 4) (take (s.hea / 4) s.cells) else rest) else [])
      (from_by at (nat_le s.stk at) refl)

  -- arguments by the top, the count and what lies above it
  abbrev made : ℕ → ℤ → List ℤ → Option (List ℤ)
  made top cell above =
      if nat_lt s.stk top && (bits_of cell % 4 == 0) && nat_le (s.stk + 4 + bits_of cell) top
      then Some (take (bits_of cell / 4) above)
      else None

  cell_stays : cell_at (swept s) s.stk ≡ cell_at s s.stk
  cell_stays =
      let k = s.stk / 4 in
      let there : k ≡ k + 0 = omega arith in
      ap (λ n. get_or (swept s).cells n (pos 0)) there
      ∙ sym (get_or-drop k (swept s).cells 0 (pos 0))
      ∙ ap (λ (zs : List ℤ). get_or zs 0 (pos 0)) (back_stays s.cells (s.hea / 4) k low high)
      ∙ get_or-drop k s.cells 0 (pos 0) ∙ ap (λ n. get_or s.cells n (pos 0)) (sym there)

  pub arguments_stay : arguments (swept s) ≡ arguments s
  arguments_stay =
      ap (λ n. made (4 * n) (cell_at (swept s) s.stk) (drop (s.stk / 4 + 1) (swept s).cells))
      swept_length
      ∙ ap (λ cell. made (stp s) cell (drop (s.stk / 4 + 1) (swept s).cells)) cell_stays
      ∙ ap (made (stp s) (cell_at s s.stk))
      (behind_stays s.cells (s.hea / 4) (s.stk / 4) low high (s.stk / 4 + 1) (omega arith))
