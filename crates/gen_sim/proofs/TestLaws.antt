-- Tests, their opposites, and the jumps that are taken where they hold.
use Rattle.std.proofs.Common.{◌≡◌, ◌+◌, ◌*◌, ◌^◌, ◌<◌, ℕ, ℤ, pos, List, ◌∷◌, Bool, true}
use Rattle.std.proofs.Common.{false, length, refl, sym, ap, ◌∙◌, arith, not as no}
use Rattle.std.proofs.Common.{length-append}
use Rattle.std.proofs.lemmas.Int.{ints}
use Rattle.pawn_cells.specs.Cells.{bits_of, is_zero, less, less_eq}
use Rattle.amx_ops.specs.declared.amx.Amx.{Amx}
use Rattle.amx_ops.specs.Written.{cells_of}
use Rattle.amx_ops.specs.State.{State, Goes}
use Rattle.amx_ops.specs.Effects.{jump_if}
use Rattle.amx_ops.specs.Step.{act}
use Rattle.gen_sim.specs.Items.{Item, item_cells, past, size, with}
use Rattle.gen_sim.specs.JumpCode.{jump_to}
use Rattle.gen_sim.specs.TestCode.{Test, IsZero, IsSet, AreSame, AreOther, IsLess, IsAtMost}
use Rattle.gen_sim.specs.TestCode.{IsGreater, IsAtLeast, holds, test_op, opposite}

-- ---- the opposite

pub twice_no : (b : Bool) → no (no b) ≡ b
twice_no true = refl
twice_no false = refl

-- a comparison doesn't hold where the opposite one does
apart : (a b : ℤ) → less_eq a b ≡ no (less b a)
apart a b = grind arith

pub opposite_holds : (t : Test) (y z : ℤ) → holds (opposite t) y z ≡ no (holds t y z)
opposite_holds IsZero y z = refl
opposite_holds IsSet y z = sym (twice_no (is_zero y))
opposite_holds AreSame y z = refl
opposite_holds AreOther y z = sym (twice_no (holds AreSame y z))
opposite_holds IsLess y z = apart z y
opposite_holds IsAtMost y z = sym (ap no (apart y z) ∙ twice_no (less z y))
opposite_holds IsGreater y z = apart y z
opposite_holds IsAtLeast y z = sym (ap no (apart z y) ∙ twice_no (less y z))

-- ---- a jump takes two cells

pub two_cells : (t : Test) (at : ℕ) → size (jump_to (test_op t) at) ≡ 2
two_cells IsZero at = refl
two_cells IsSet at = refl
two_cells AreSame at = refl
two_cells AreOther at = refl
two_cells IsLess at = refl
two_cells IsAtMost at = refl
two_cells IsGreater at = refl
two_cells IsAtLeast at = refl

pub test_past : (p : ℕ) (t : Test) (at : ℕ) (js : List Item)
    → past p (jump_to (test_op t) at ∷ js) ≡ past (p + 8) js
test_past p t at js = ap (λ n. past (p + 4 * n) js) (two_cells t at)

pub test_count : (t : Test) (at : ℕ) (js : List Item)
    → length (item_cells (jump_to (test_op t) at ∷ js)) ≡ 2 + length (item_cells js)
test_count t at js =
    length-append (cells_of (with (test_op t) (pos at))) (item_cells js)
    ∙ ap (λ n. n + length (item_cells js)) (two_cells t at)

-- ---- the jump

bits_are : (n : ℕ) → n < 2 ^ 31 → bits_of (pos n) ≡ n
bits_are n h = omega (arith, ints, h)

test_act : (amx : Amx) (t : Test) (at q : ℕ) (s : State)
    → act amx (test_op t) (pos at) q s ≡ jump_if (holds t s.pri s.alt) (bits_of (pos at)) q s
test_act amx IsZero at q s = refl
test_act amx IsSet at q s = refl
test_act amx AreSame at q s = refl
test_act amx AreOther at q s = refl
test_act amx IsLess at q s = refl
test_act amx IsAtMost at q s = refl
test_act amx IsGreater at q s = refl
test_act amx IsAtLeast at q s = refl

pub taken_act : (amx : Amx) (t : Test) (at q : ℕ) (s : State) → at < 2 ^ 31
    → holds t s.pri s.alt ≡ true
    → act amx (test_op t) (pos at) q s ≡ Goes (record s { cip = at })
taken_act amx t at q s small h =
    test_act amx t at q s ∙ ap (λ b. jump_if b (bits_of (pos at)) q s) h
    ∙ ap (λ n. Goes (record s { cip = n })) (bits_are at small)

pub passed_act : (amx : Amx) (t : Test) (at q : ℕ) (s : State) → holds t s.pri s.alt ≡ false
    → act amx (test_op t) (pos at) q s ≡ Goes (record s { cip = q })
passed_act amx t at q s h =
    test_act amx t at q s ∙ ap (λ b. jump_if b (bits_of (pos at)) q s) h

-- ---- where it doesn't hold

-- a test holds where a value isn't 0, so that the opposite one holds where it is
pub leaves : (t : Test) (y : ℤ) (s : State) → holds t s.pri s.alt ≡ no (is_zero y)
    → holds (opposite t) s.pri s.alt ≡ is_zero y
leaves t y s h =
    opposite_holds t s.pri s.alt ∙ ap no h ∙ twice_no (is_zero y)
