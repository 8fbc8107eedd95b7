-- What contracts see of the machine's memory and registers, and what is always so of them.
use Rattle.std.specs.Prelude.{◌≡◌, ◌+◌, ◌*◌, ◌%◌, ◌≤◌, ℕ, length}
use Rattle.amx_block.specs.Contents.{Contents}
use Rattle.amx_ops.specs.declared.amx.Amx.{Amx}
use Rattle.amx_ops.specs.State.{State, first_hea}
use Rattle.amx_ops.specs.Writable.{cells_limit}

-- a file, and a state of its machine
pub record Machine : Type 0 where
  pub amx : Amx
  pub state : State

-- how many cells a file's machine has, from the data's first one to the stack's top
abbrev pub cell_count : Amx → ℕ
cell_count amx = length amx.store + amx.room

-- first HEA, HEA, STK and the top rise in whole cells, within the limit of memory; code and count
-- are the file's
pub record IsSound (amx : Amx) (top stk hea : ℕ) (block : Contents) : Type 0 where
  pub code : block.code ≡ amx.code
  pub size : length amx.code + length block.memory ≤ cells_limit
  pub count : length block.memory ≡ cell_count amx
  pub top_is : top ≡ 4 * length block.memory
  pub first : first_hea amx ≤ hea
  pub apart : hea ≤ stk
  pub within : stk ≤ 4 * length block.memory
  pub whole : (hea % 4 ≡ 0) × (stk % 4 ≡ 0)
