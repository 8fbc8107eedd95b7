-- What a host sees of a machine's memory.
use Rattle.std.proofs.Common.{◌≡◌, ◌+◌, ◌*◌, ◌-◌, ◌/◌, ◌%◌, ◌==◌, ◌<◌, ◌≤◌, ℕ, ℤ, pos, List, []}
use Rattle.std.proofs.Common.{◌++◌, Bool, true, false, length, take, drop, replicate, nat_le}
use Rattle.std.proofs.Common.{nat_lt, refl, sym, ap, ◌∙◌, arith}
use Rattle.std.proofs.lemmas.Bool.{eq-eqb, eqb-true, ltb-false, lt-ltb, le-ltb, le-leb, false≢true}
use Rattle.std.proofs.lemmas.List.{append-nil, length-drop, drop-take, drop_all, take_all}
use Rattle.amx_block.specs.Contents.{with_part}
use Rattle.amx_ops.specs.State.{State, stp}
use Rattle.amx_ops.specs.Access.{is_live}
use Rattle.amx_ops.specs.Moves.{live_from}

-- ---- live parts

module _ (s : State) (at : ℕ) where
  pub part_below : at % 4 ≡ 0 → at < s.hea → s.hea % 4 ≡ 0
      → take ((s.hea - at) / 4) (drop (at / 4) s.cells) ≡ live_from s at
  part_below a l w =
      let whole : s.hea / 4 ≡ at / 4 + (s.hea - at) / 4 = omega (arith, a, l, w) in
      rw (eq-eqb (at % 4) 0 a, lt-ltb at s.hea l)
      (sym (ap (λ n. drop (at / 4) (take n s.cells)) whole
      ∙ drop-take (at / 4) ((s.hea - at) / 4) s.cells))

  pub part_above : at % 4 ≡ 0 → s.hea ≤ at → s.stk ≤ at → at < stp s
      → take ((stp s - at) / 4) (drop (at / 4) s.cells) ≡ live_from s at
  part_above a h k t =
      rw (eq-eqb (at % 4) 0 a, le-ltb at s.hea h, le-leb s.stk at k)
      (take_all ((stp s - at) / 4) (drop (at / 4) s.cells)
      (omega (arith, a, t, length-drop (at / 4) s.cells)))

  no_part_by : (aligned below from : Bool) → (at % 4 == 0) ≡ aligned → nat_lt at s.hea ≡ below
      → nat_le s.stk at ≡ from → is_live s at ≡ false
      → [] ≡ live_from s at
  no_part_by false below from a b f e = rw a refl
  no_part_by true true from a b f e = absurd (false≢true (sym e ∙ rw (a, b) refl))
  no_part_by true false false a b f e = rw (a, b, f) refl
  no_part_by true false true a b f e =
      let past : nat_lt at (stp s) ≡ false = rw (a, b, f) at e in
      rw (a, b, f) (sym (drop_all (at / 4) s.cells
      (omega (arith, ltb-false at (stp s) past, eqb-true (at % 4) 0 a))))

  pub no_part : is_live s at ≡ false → [] ≡ live_from s at
  no_part e = no_part_by (at % 4 == 0) (nat_lt at s.hea) (nat_le s.stk at) refl refl refl e

-- ---- cleared memory

-- all cells written with 0
pub cleared_cells : (cells : List ℤ) (top : ℕ) → top ≡ 4 * length cells
    → with_part cells 0 (top / 4) (replicate (top / 4) (pos 0)) ≡ replicate (length cells) (pos 0)
cleared_cells cells top e =
    let n : top / 4 ≡ length cells = omega (arith, e) in
    let behind : 0 / 4 + top / 4 ≡ length cells = omega (arith, e) in
    ap (λ k. replicate (top / 4) (pos 0) ++ drop k cells) behind
    ∙ ap (λ zs. replicate (top / 4) (pos 0) ++ zs) (drop_all (length cells) cells (omega arith))
    ∙ append-nil (replicate (top / 4) (pos 0))
    ∙ ap (λ k. replicate k (pos 0)) n

-- the ways in which a part is live
pub ruleset parts = (part_below, part_above, no_part)
