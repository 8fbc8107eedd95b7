-- The declarations in sight as code holds them: each name with what it means, block by block with
-- the innermost first; and as one list, the latest first, with None where a block begins.
use Rattle.std.specs.Prelude.{ℕ, ◌-◌, nat_eq, if◌then◌else◌, List, [], ◌∷◌, ◌++◌, length, map, take}
use Rattle.std.specs.Prelude.{Option, Some, None}
use Rattle.types_rules.specs.Scope.{Scope, Meaning, Unknown, Entry, with_block, with_entries}
use Rattle.check_nodes.specs.MeaningView.{meaning_view}
use Rattle.check_nodes.specs.declared.scopes.Sight.{Sight}
use Rattle.check_nodes.specs.declared.scopes.Sight.TheVariants as sight
use Rattle.check_nodes.specs.declared.scopes.Declared.{Declared}
use Rattle.check_nodes.specs.declared.scopes.Hidden.{Hidden}

-- what a declaration in sight means
abbrev pub sight_view : Sight → Meaning
sight_view (sight.Means it) = meaning_view it
sight_view sight.Unknown = Unknown

-- ---- block by block

-- the names of a block with what they mean, the latest last
abbrev pub Block : Type 0
Block = List (List ℕ × Sight)

-- the innermost block, and those around it, the inner ones first
pub record Blocks : Type 0 where
  pub here : Block
  pub outer : List Block

-- as the rules of typing see them
abbrev pub entry_view : List ℕ × Sight → Entry
entry_view it = record { name = it.0; means = sight_view it.1 }

-- and a block
abbrev pub block_view : Block → List Entry
block_view block = map entry_view block

-- and all of them
abbrev pub scope_view : Blocks → Scope
scope_view blocks = block_view blocks.here ∷ map block_view blocks.outer

-- one block without a declaration
abbrev pub nothing_declared : Blocks
nothing_declared = record { here = []; outer = [] }

-- one declaration more in the innermost block
abbrev pub with_name : List ℕ → Sight → Blocks → Blocks
with_name name means blocks = record blocks { here = blocks.here ++ (name, means) ∷ [] }

-- without so many of the latest declarations of the innermost block
abbrev pub without : ℕ → Blocks → Blocks
without count blocks =
    record blocks { here = take (length blocks.here - count) blocks.here }

-- a block entered them
abbrev pub entered : Blocks → Blocks
entered blocks = record { here = []; outer = blocks.here ∷ blocks.outer }

-- these blocks, or one without a declaration where there is none
abbrev pub outer_by : List Block → Blocks
outer_by [] = nothing_declared
outer_by (block ∷ more) = record { here = block; outer = more }

-- without the innermost block; that of the file begins anew
abbrev pub outer_of : Blocks → Blocks
outer_of blocks = outer_by blocks.outer

-- ---- as one list

-- declarations with what each hides, the latest first
abbrev pub Stack : Type 0
Stack = List (Option Hidden)

-- block by block; the outermost one begins by itself
abbrev pub blocks_of : Stack → Blocks
blocks_of [] = nothing_declared
blocks_of (None ∷ more) = entered (blocks_of more)
blocks_of (Some it ∷ more) = with_name it.name.now it.declared.means (blocks_of more)

-- and as the rules see it
abbrev pub entry_of : Hidden → Entry
entry_of it = record { name = it.name.now; means = sight_view it.declared.means }

-- and all of them, from the stack
abbrev pub scope_of : Stack → Scope
scope_of [] = [] ∷ []
scope_of (None ∷ more) = with_block (scope_of more)
scope_of (Some it ∷ more) = with_entries (scope_of more) (entry_of it ∷ [])

-- what a declaration means, if it stands in so many blocks
abbrev pub here_in : Option Declared → ℕ → Option Meaning
here_in None depth = None
here_in (Some it) depth = if nat_eq it.depth depth then Some (sight_view it.means) else None
