-- What the Amx of a file keeps, so that it can be verified and fits a machine.
use Rattle.std.specs.Prelude.{◌+◌, ◌^◌, ◌<◌, ◌≤◌, length}
use Rattle.amx_ops.specs.declared.amx.Amx.{Amx}
use Rattle.amx_ops.specs.Writable.{cells_limit}

-- code and memory take at most 128 MiB, and a cell can number each public and each native
pub record IsWithinLimits (amx : Amx) : Type 0 where
  pub memory : length amx.code + length amx.store + amx.room ≤ cells_limit
  pub publics : length amx.publics < 2 ^ 31
  pub natives : length amx.natives < 2 ^ 31
