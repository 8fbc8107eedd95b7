-- What a block ends as, once a part of its memory that was lent is given back.
use Rattle.std.specs.Prelude.{ℕ, ◌/◌, ◌++◌, ℤ, List, length, take, drop}
use Rattle.std.specs.List.{refill}
use Rattle.std.specs.Borrow.{Lends, MutBor, Fml, Array, i32}
use Rattle.amx_block.specs.Contents.{Contents}
use Rattle.amx_block.specs.contracts.block.Block.{the_row}

-- cells written over as many others, from an address on; none is added
abbrev pub written_over : List ℤ → ℕ → List ℤ → List ℤ
written_over cells at new =
    refill (length cells) cells (take (at / 4) cells
    ++ (new ++ drop (length new) (drop (at / 4) cells)))

-- the memory from an address on is lent, and what it ends as is written there
abbrev pub LendsPart : MutBor Contents → ℕ → MutBor (List ℤ) → Fml
LendsPart block at part =
    Lends the_row (Array i32 0) block part
    (λ new. record block.now { memory = written_over block.now.memory at new })
