-- The code of nodes with jumps: `&&`, `||` and `?:`. Jumps lead to starts in the node's own code,
-- or to its end.
use Rattle.std.specs.Prelude.{◌+◌, ℕ, pos, List, [], ◌∷◌, ◌++◌}
use Rattle.amx_ops.specs.declared.op.Op.{Op}
use Rattle.amx_ops.specs.declared.op.Op.TheVariants as op
use Rattle.gen_sim.specs.Items.{Item, past}
use Rattle.gen_sim.specs.SimpleCode.{alone, taking, const_code}

-- a jump to an address
abbrev pub jump_to : Op → ℕ → Item
jump_to operation at = taking operation (pos at)

-- behind a condition that ends at an address: where the second of two parts begins, and where it
-- ends
abbrev pub other_at : ℕ → List Item → ℕ
other_at p first = past (p + 8) first + 8

-- where both parts meet, behind the second one
abbrev pub end_at : ℕ → (first second : List Item) → ℕ
end_at p first second = past (other_at p first) second

-- one of two, by the value in PRI: the second one for 0
abbrev pub choice_code : ℕ → (first second : List Item) → List Item
choice_code p first second =
    jump_to op.Jzer (other_at p first)
    ∷ (first ++ (jump_to op.Jump (end_at p first second) ∷ second))

-- a condition, and one of two parts by its value
abbrev pub cond_code : (begin : ℕ) → (condition first second : List Item) → List Item
cond_code begin condition first second =
    condition ++ choice_code (past begin condition) first second

-- 1 or 0 of the value in PRI
abbrev pub truth_code : List Item
truth_code = alone op.Not ∷ alone op.Not ∷ []

-- `&&`: the right operand isn't evaluated where the left one is 0
abbrev pub and_code : (begin : ℕ) → (left right : List Item) → List Item
and_code begin left right = cond_code begin left (right ++ truth_code) (const_code (pos 0))

-- `||`: the right operand is evaluated only where the left one is 0
abbrev pub or_code : (begin : ℕ) → (left right : List Item) → List Item
or_code begin left right = cond_code begin left (const_code (pos 1)) (right ++ truth_code)
