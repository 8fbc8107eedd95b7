-- A jump whose target is written when it is known.
use Rattle.std.proofs.Common.{◌≡◌, ◌+◌, ◌*◌, ℕ, ℤ, pos, List, [], ◌∷◌, ◌++◌, length, slice_set}
use Rattle.std.proofs.Common.{refl, sym, ap, ◌∙◌, arith, append_assoc, length-append}
use Rattle.std.proofs.Math.Seq.{set-append_seam}
use Rattle.amx_ops.specs.declared.op.Op.{Op}
use Rattle.amx_ops.specs.declared.op.Op.TheVariants as op
use Rattle.amx_ops.specs.Table.{number_of}
use Rattle.gen_sim.specs.Items.{Item, size, item_cells, past, waits_from}
use Rattle.gen_sim.specs.SimpleCode.{taking}
use Rattle.gen_sim.specs.JumpCode.{jump_to, other_at, end_at, choice_code}
use Rattle.gen_sim.specs.TestCode.{Test, IsZero, IsSet, AreSame, AreOther, IsLess, IsAtMost}
use Rattle.gen_sim.specs.TestCode.{IsGreater, IsAtLeast, test_op}
use Rattle.gen_expr.specs.Built.{Built, with_items}
use Rattle.gen_expr.specs.Filled.{filled}
use Rattle.gen_expr.proofs.GrowLaws.{then_grow, next_at}

-- an operation with a cell for its operand
pub record Wide (o : Op) : Type 0 where
  pub number : ℤ
  pub two : (v : ℤ) → size (taking o v) ≡ 2
  pub cells : (v : ℤ) (is : List Item) → item_cells (taking o v ∷ is) ≡ number ∷ v ∷ item_cells is
  pub waits : (at : ℕ) (v : ℤ) (is : List Item)
      → waits_from at (taking o v ∷ is) ≡ waits_from (at + 2) is

pub jzer_wide : Wide op.Jzer
jzer_wide = record {
  number = pos (number_of op.Jzer);
  two = λ v. refl;
  cells = λ v is. refl;
  waits = λ at v is. refl;
}

pub jump_wide : Wide op.Jump
jump_wide = record {
  number = pos (number_of op.Jump);
  two = λ v. refl;
  cells = λ v is. refl;
  waits = λ at v is. refl;
}

-- so are the jumps of tests
pub test_wide : (t : Test) → Wide (test_op t)
test_wide IsZero = record {
  number = pos (number_of op.Jzer);
  two = λ v. refl;
  cells = λ v is. refl;
  waits = λ at v is. refl;
}
test_wide IsSet = record {
  number = pos (number_of op.Jnz);
  two = λ v. refl;
  cells = λ v is. refl;
  waits = λ at v is. refl;
}
test_wide AreSame = record {
  number = pos (number_of op.Jeq);
  two = λ v. refl;
  cells = λ v is. refl;
  waits = λ at v is. refl;
}
test_wide AreOther = record {
  number = pos (number_of op.Jneq);
  two = λ v. refl;
  cells = λ v is. refl;
  waits = λ at v is. refl;
}
test_wide IsLess = record {
  number = pos (number_of op.Jsless);
  two = λ v. refl;
  cells = λ v is. refl;
  waits = λ at v is. refl;
}
test_wide IsAtMost = record {
  number = pos (number_of op.Jsleq);
  two = λ v. refl;
  cells = λ v is. refl;
  waits = λ at v is. refl;
}
test_wide IsGreater = record {
  number = pos (number_of op.Jsgrtr);
  two = λ v. refl;
  cells = λ v is. refl;
  waits = λ at v is. refl;
}
test_wide IsAtLeast = record {
  number = pos (number_of op.Jsgeq);
  two = λ v. refl;
  cells = λ v is. refl;
  waits = λ at v is. refl;
}

-- behind it
pub wide_past : (o : Op) (wide : Wide o) (p : ℕ) (v : ℤ) (is : List Item)
    → past p (taking o v ∷ is) ≡ past (p + 8) is
wide_past o wide p v is = ap (λ n. past (p + 4 * n) is) (wide.two v)

pub wide_cells : (o : Op) (wide : Wide o) (b m : Built) (v : ℤ)
    → m ≡ with_items (taking o v ∷ []) b → length m.code ≡ length b.code + 2
wide_cells o wide b m v e =
    ap (λ (z : Built). length z.code) e ∙ length-append b.code (item_cells (taking o v ∷ []))
    ∙ ap (λ l. length b.code + length l) (wide.cells v [])

pub wide_filled : (o : Op) (wide : Wide o) (m n : Built) (is : List Item) (v : ℤ)
    → n ≡ with_items (taking o (pos 0) ∷ is) m
    → filled (length m.code + 1) v n ≡ with_items (taking o v ∷ is) m
wide_filled o wide m n is v e =
    let front = m.code ++ wide.number ∷ [] in
    let seen : n.code ≡ front ++ (pos 0 ∷ item_cells is) =
    ap (λ (x : Built). x.code) e ∙ ap (λ l. m.code ++ l) (wide.cells (pos 0) is)
    ∙ sym (append_assoc m.code (wide.number ∷ []) (pos 0 ∷ item_cells is)) in
    let place : length m.code + 1 ≡ length front = sym (length-append m.code (wide.number ∷ [])) in
    let code : slice_set n.code (length m.code + 1) v ≡ m.code ++ item_cells (taking o v ∷ is) =
    ap (λ l. slice_set l (length m.code + 1) v) seen
    ∙ ap (λ k. slice_set (front ++ (pos 0 ∷ item_cells is)) k v) place
    ∙ set-append_seam front (pos 0) (item_cells is) v
    ∙ append_assoc m.code (wide.number ∷ []) (v ∷ item_cells is)
    ∙ ap (λ l. m.code ++ l) (sym (wide.cells v is)) in
    let waits : n.waits ≡ m.waits ++ waits_from (length m.code) (taking o v ∷ is) =
    ap (λ (x : Built). x.waits) e
    ∙ ap (λ l. m.waits ++ l) (wide.waits (length m.code) (pos 0) is
    ∙ sym (wide.waits (length m.code) v is)) in
    ap (λ l. record { code = l; waits = n.waits }) code
    ∙ ap (λ l. record { code = m.code ++ item_cells (taking o v ∷ is); waits = l }) waits

pub jzer_filled : (m n : Built) (is : List Item) (v : ℤ)
    → n ≡ with_items (taking op.Jzer (pos 0) ∷ is) m
    → filled (length m.code + 1) v n ≡ with_items (taking op.Jzer v ∷ is) m
jzer_filled m n is v e = wide_filled op.Jzer jzer_wide m n is v e

pub jump_filled : (m n : Built) (is : List Item) (v : ℤ)
    → n ≡ with_items (taking op.Jump (pos 0) ∷ is) m
    → filled (length m.code + 1) v n ≡ with_items (taking op.Jump v ∷ is) m
jump_filled m n is v e = wide_filled op.Jump jump_wide m n is v e

module _ (o : Op) (wide : Wide o) where
  -- the second of two parts, behind the first one and a jump over it
  pub second_done : (c led t y r : Built) (first : List Item) (second : ℕ → List Item) (end : ℕ)
      → led ≡ with_items (jump_to o (other_at (4 * length c.code) first) ∷ first) c
      → t ≡ with_items (jump_to op.Jump 0 ∷ []) led
      → end + 1 ≡ length t.code → y ≡ with_items (second (4 * length t.code)) t
      → r ≡ filled end (pos (4 * length y.code)) y
      → let p = 4 * length c.code in
      r ≡ with_items (jump_to o (other_at p first)
      ∷ (first ++ (jump_to op.Jump (end_at p first (second (other_at p first)))
      ∷ second (other_at p first)))) c
  second_done c led t y r first second end el et ee ey er =
      let p = 4 * length c.code in
      let target = other_at p first in
      let rest = jump_to op.Jump 0 ∷ [] in
      let led_ends : 4 * length led.code ≡ past (p + 8) first =
      next_at c led (jump_to o target ∷ first) el ∙ wide_past o wide p (pos target) first in
      let t_ends : 4 * length t.code ≡ target = next_at led t rest et ∙ ap (λ n. n + 8) led_ends in
      let cells_t : length t.code ≡ length led.code + 2 =
      ap (λ (z : Built). length z.code) et ∙ length-append led.code (item_cells rest) in
      let end_is : end ≡ length led.code + 1 = omega arith in
      let behind = second target in
      let there : y ≡ with_items behind t = ey ∙ ap (λ q. with_items (second q) t) t_ends in
      let ys : y ≡ with_items (jump_to op.Jump 0 ∷ behind) led =
      then_grow led t y rest behind et there in
      let y_ends : 4 * length y.code ≡ past target behind =
      next_at t y behind there ∙ ap (λ q. past q behind) t_ends in
      let rs : r ≡ with_items (jump_to op.Jump (past target behind) ∷ behind) led =
      er ∙ ap (λ n. filled n (pos (4 * length y.code)) y) end_is
      ∙ ap (λ n. filled (length led.code + 1) (pos n) y) y_ends
      ∙ jump_filled led y behind (pos (past target behind)) ys in
      then_grow c led r (jump_to o target ∷ first)
      (jump_to op.Jump (past target behind) ∷ behind) el rs

  -- the first one, behind its jump, which is led
  first_led : (c j x : Built) (first : List Item) (other : ℕ) (to : ℤ)
      → j ≡ with_items (jump_to o 0 ∷ []) c
      → other + 1 ≡ length j.code → x ≡ with_items first j
      → filled other to x ≡ with_items (taking o to ∷ first) c
  first_led c j x first other to ej eo ex =
      let cells_j : length j.code ≡ length c.code + 2 = wide_cells o wide c j (pos 0) ej in
      let other_is : other ≡ length c.code + 1 = omega arith in
      let xs : x ≡ with_items (jump_to o 0 ∷ first) c =
      then_grow c j x (jump_to o 0 ∷ []) first ej ex in
      ap (λ n. filled n to x) other_is ∙ wide_filled o wide c x first to xs

  first_ends : (c j x : Built) (first : List Item) → j ≡ with_items (jump_to o 0 ∷ []) c
      → x ≡ with_items first j → 4 * length x.code ≡ past (4 * length c.code + 8) first
  first_ends c j x first ej ex =
      next_at c x (jump_to o 0 ∷ first) (then_grow c j x (jump_to o 0 ∷ []) first ej ex)
      ∙ wide_past o wide (4 * length c.code) (pos 0) first

  -- to the second one
  pub first_done : (c j x : Built) (first : List Item) (other : ℕ)
      → j ≡ with_items (jump_to o 0 ∷ []) c
      → other + 1 ≡ length j.code → x ≡ with_items first j
      → filled other (pos (4 * length x.code + 8)) x
      ≡ with_items (jump_to o (other_at (4 * length c.code) first) ∷ first) c
  first_done c j x first other ej eo ex =
      first_led c j x first other (pos (4 * length x.code + 8)) ej eo ex
      ∙ ap (λ n. with_items (jump_to o (n + 8) ∷ first) c) (first_ends c j x first ej ex)

  -- with the jump over the second one
  pub first_turned : (c j x t : Built) (first : List Item) (other : ℕ)
      → j ≡ with_items (jump_to o 0 ∷ []) c
      → other + 1 ≡ length j.code → x ≡ with_items first j
      → t ≡ with_items (jump_to op.Jump 0 ∷ []) (filled other (pos (4 * length x.code + 8)) x)
      → t ≡ with_items (jump_to o (other_at (4 * length c.code) first)
      ∷ (first ++ jump_to op.Jump 0 ∷ [])) c
  first_turned c j x t first other ej eo ex et =
      then_grow c (filled other (pos (4 * length x.code + 8)) x) t
      (jump_to o (other_at (4 * length c.code) first) ∷ first) (jump_to op.Jump 0 ∷ [])
      (first_done c j x first other ej eo ex) et

-- one of two parts, of which the second begins where the first one's end leads
pub choice_done : (c j x t y r : Built) (first : List Item) (second : ℕ → List Item) (other end : ℕ)
    → j ≡ with_items (jump_to op.Jzer 0 ∷ []) c → other + 1 ≡ length j.code → x ≡ with_items first j
    → t ≡ with_items (jump_to op.Jump 0 ∷ []) (filled other (pos (4 * length x.code + 8)) x)
    → end + 1 ≡ length t.code
    → y ≡ with_items (second (4 * length t.code)) t → r ≡ filled end (pos (4 * length y.code)) y
    → r ≡ with_items (choice_code (4 * length c.code) first
    (second (other_at (4 * length c.code) first))) c
choice_done c j x t y r first second other end ej eo ex et ee ey er =
    second_done op.Jzer jzer_wide c (filled other (pos (4 * length x.code + 8)) x) t y r first second
    end (first_done op.Jzer jzer_wide c j x first other ej eo ex) et ee ey er
