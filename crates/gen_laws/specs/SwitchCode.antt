-- The code of `switch`: the value, SWITCH, its table with a record for each value of each range,
-- then the cases, each with a jump to the end, and what stands behind `default`.
use Rattle.std.specs.Prelude.{◌+◌, ◌*◌, ℕ, zero, suc, ℤ, pos, ◌+ℤ◌, List, [], ◌∷◌, ◌++◌}
use Rattle.pawn_meaning.specs.Program.{Cases, no_cases, then_case}
use Rattle.pawn_meaning.specs.Weight.{values_in}
use Rattle.amx_ops.specs.declared.op.Op.TheVariants as op
use Rattle.gen_sim.specs.Items.{Item, Plain}
use Rattle.gen_sim.specs.SimpleCode.{taking}
use Rattle.gen_sim.specs.JumpCode.{jump_to}

-- so many values from one on lead to an address
abbrev pub values_from : ℤ → ℕ → ℕ → List ℤ
values_from v zero at = []
values_from v (suc n) at = v ∷ pos at ∷ values_from (v +ℤ pos 1) n at

-- the values of some ranges do
abbrev pub ranges_table : List (ℤ × ℤ) → ℕ → List ℤ
ranges_table [] at = []
ranges_table (range ∷ ranges) at =
    values_from range.0 (values_in range) at ++ ranges_table ranges at

-- how many values some ranges have
abbrev pub values_of : List (ℤ × ℤ) → ℕ
values_of [] = 0
values_of (range ∷ ranges) = values_in range + values_of ranges

-- and some cases
abbrev pub cases_values : Cases → ℕ
cases_values no_cases = 0
cases_values (then_case ranges s cases) = values_of ranges + cases_values cases

-- a table with its default address and its pairs
abbrev pub table_item : (count other : ℕ) → List ℤ → Item
table_item count other table =
    Plain (record { op = op.Casetbl; operand = pos count; table = pos other ∷ table })

-- behind the value SWITCH takes 8 bytes, and the cases begin behind the table
abbrev pub cases_at : ℕ → Cases → ℕ
cases_at p cases = p + 8 + 4 * (3 + 2 * cases_values cases)

-- one case, and those behind it
abbrev pub case_code : (end : ℕ) → (one others : List Item) → List Item
case_code end one others = one ++ (jump_to op.Jump end ∷ others)

-- from where the value ends
abbrev pub table_code : ℕ → Cases → (other : ℕ) → (table : List ℤ) → (items : List Item) → List Item
table_code p cases other table items =
    taking op.Switch (pos (p + 8)) ∷ table_item (cases_values cases) other table ∷ items

-- with the value itself before it
abbrev pub switch_code : ℕ → Cases → (other : ℕ) → (value : List Item) → (table : List ℤ)
    → (items : List Item) → List Item
switch_code p cases other value table items = value ++ table_code p cases other table items
