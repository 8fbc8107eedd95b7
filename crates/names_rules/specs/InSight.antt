-- Declarations in sight, each of which hides what its name meant before: a list, the latest first,
-- with None where a block begins. A table tells of each name what it means by them.
use Rattle.std.specs.Prelude.{◌≡◌, ℕ, suc, if◌then◌else◌, List, [], ◌∷◌, Option, Some, None}
use Rattle.std.specs.Borrow.{Bor}
use Rattle.std.specs.Map.{lookup}
use Rattle.std.specs.Str.{bytes_eq}

-- what is seen of a declaration: its name, what it declares, what its name meant before, and in how
-- many blocks what is declared stands
pub record Ways (D H : Type 0) : Type 0 where
  pub name : H → Bor (List ℕ)
  pub declared : H → D
  pub before : H → Option D
  pub depth : D → ℕ

-- how many blocks begin
abbrev pub depth_of : {H : Type 0} → List (Option H) → ℕ
depth_of [] = 0
depth_of (None ∷ more) = suc (depth_of more)
depth_of (Some it ∷ more) = depth_of more

-- what a name means
abbrev pub meant_by : {D H : Type 0} → Ways D H → List (Option H) → List ℕ → Option D
meant_by ways [] name = None
meant_by ways (None ∷ more) name = meant_by ways more name
meant_by ways (Some it ∷ more) name =
    if bytes_eq (ways.name it).now name then Some (ways.declared it) else meant_by ways more name

-- each declaration keeps what its name meant before it, and in how many blocks it stands
abbrev pub IsChain : {D H : Type 0} → Ways D H → List (Option H) → Type 0
IsChain ways [] = Unit {0}
IsChain ways (None ∷ more) = IsChain ways more
IsChain ways (Some it ∷ more) =
    (ways.before it ≡ meant_by ways more (ways.name it).now)
    × (ways.depth (ways.declared it) ≡ depth_of more) × IsChain ways more

-- for each name the declaration that it means now
abbrev pub Table : Type 0 → Type 0
Table D = List (Bor (List ℕ) × Option D)

-- a name that was never declared has no entry, one that isn't in sight any more has an empty one
abbrev pub now_in : {D : Type 0} → Option (Option D) → Option D
now_in None = None
now_in (Some now) = now

-- the table of a list of declarations, and the number of open blocks
pub record IsIndexed {D H : Type 0} (ways : Ways D H) (stack : List (Option H)) (table : Table D)
    (depth : ℕ) : Type 0 where
  pub index : (name : List ℕ)
      → now_in (lookup (λ key. bytes_eq name key.now) table) ≡ meant_by ways stack name
  pub chain : IsChain ways stack
  pub deep : depth ≡ depth_of stack
