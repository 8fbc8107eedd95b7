-- The names of a program: what those of a source keep.
use Rattle.std.specs.Prelude.{◌≢◌, ◌≤◌, ℕ, List, ◌++◌, All, length, map, sum_by, IsSorted}
use Rattle.std.specs.Ordering.{nat_cmp}
use Rattle.std.specs.Cmp.Lexicographic.{slice_cmp}
use Rattle.pawn_meaning.specs.declared.name_limits.TheConstants.{NAME_LIMIT, NAMES_LIMIT}
use Rattle.pawn_meaning.specs.Program.{Tag, Public, Program}

-- a name has from 1 to 31 bytes, none of them 0
pub record IsName (name : List ℕ) : Type 0 where
  pub no_zero : All (λ byte. byte ≢ 0) name
  pub least : 1 ≤ length name
  pub most : length name ≤ NAME_LIMIT

-- the names of natives, publics and tags
abbrev pub names_of : Program → List (List ℕ)
names_of program =
    program.natives ++ (map (λ (item : Public). item.name) program.publics
    ++ map (λ (tag : Tag). tag.name) program.tags)

-- each is a name, they are not too many bytes together, and the publics stand in the order of
-- theirs
pub record HasNames (program : Program) : Type 0 where
  pub names : All IsName (names_of program)
  pub bytes : sum_by (λ name. length name) (names_of program) ≤ NAMES_LIMIT
  pub sorted : IsSorted (slice_cmp nat_cmp) (map (λ (item : Public). item.name) program.publics)
