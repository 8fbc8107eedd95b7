-- What instructions make of cells are cells.
use Rattle.std.proofs.Common.{◌≡◌, ◌%◌, ◌^◌, ◌<◌, ℕ, zero, suc, Bool, true, false, ℤ, pos, negsuc}
use Rattle.std.proofs.Common.{arith}
use Rattle.std.proofs.Math.Nat.{div-le_self}
use Rattle.std.proofs.lemmas.Int.{ints, SFits-int_wrap}
use Rattle.std.proofs.lemmas.Nat.{div-add-mod'}
use Rattle.pawn_cells.specs.Cells.{IsCell, wrap, bits_of, cell_of, wrapped_sum, floor_rem, shr}
use Rattle.pawn_cells.specs.Cells.{is_zero, truth}

pub wrap_cell : (z : ℤ) → IsCell (wrap z)
wrap_cell z = SFits-int_wrap _ z

pub cell_of_cell : (n : ℕ) → IsCell (cell_of n)
cell_of_cell n = omega (arith, ints)

pub bits_fit : (a : ℤ) → IsCell a → bits_of a < 2 ^ 32
bits_fit (pos n) h = omega (arith, ints)
bits_fit (negsuc n) h = omega (arith, ints)

pub sum_fits : (m n : ℕ) → wrapped_sum m n < 2 ^ 32
sum_fits m n = omega arith

pub shr_cell : (a b : ℤ) → IsCell a → IsCell (shr a b)
shr_cell (pos n) b h = omega (arith, ints, div-le_self n (2 ^ (bits_of b % 32)))
shr_cell (negsuc n) b h = omega (arith, ints, div-le_self n (2 ^ (bits_of b % 32)))

pub truth_cell : (b : Bool) → IsCell (truth b)
truth_cell true = omega (arith, ints)
truth_cell false = omega (arith, ints)

pub small_cell : (n : ℕ) → n < 2 ^ 31 → IsCell (pos n)
small_cell n h = omega (arith, ints)

pub floor_rem_cell : (a d : ℤ) → IsCell a → IsCell d → is_zero d ≡ false → IsCell (floor_rem a d)
floor_rem_cell (pos a) (pos zero) f g z = absurd (let no : ⊥ = cc in no)
floor_rem_cell (negsuc a) (pos zero) f g z = absurd (let no : ⊥ = cc in no)
floor_rem_cell (pos a) (pos (suc d)) f g z = omega (arith, ints, div-add-mod' a (suc d))
floor_rem_cell (negsuc a) (pos (suc d)) f g z = omega (arith, ints, div-add-mod' a (suc d))
floor_rem_cell (pos zero) (negsuc d) f g z = omega (arith, ints)
floor_rem_cell (pos (suc a)) (negsuc d) f g z = omega (arith, ints, div-add-mod' a (suc d))
floor_rem_cell (negsuc a) (negsuc d) f g z = omega (arith, ints, div-add-mod' (suc a) (suc d))
