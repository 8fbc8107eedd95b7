-- The numbers of the table, and a name of each kind.
use Rattle.std.proofs.Common.{◌≡◌, ℕ, zero, suc, List, [], ◌∷◌, ◌++◌, Some, codes, map, option_map}
use Rattle.std.proofs.Common.{refl}
use denote.Enum.Declared.{tag_of}
use Rattle.amx_ops.specs.contracts.op.Op.{the_type}
use Rattle.amx_ops.specs.Table.{Row, row_at, row_of, table}

-- so many numbers from one on
abbrev up : ℕ → ℕ → List ℕ
up n zero = []
up n (suc count) = n ∷ up (suc n) count

-- 1 to 37, 39 to 123, 128 to 134 and 137
numbers : map (λ (it : Row). it.number) table ≡ up 1 37 ++ (up 39 85 ++ (up 128 7 ++ 137 ∷ []))
numbers = refl

-- a row for each operation, in their order
operations : map (λ (it : Row). tag_of the_type it.op) table ≡ up 0 130
operations = refl

names_of : option_map (λ (it : Row). it.name) (row_of 48) ≡ Some (codes "RETN")
unfolding row_at
names_of = refl
