-- What contracts see of an embedded machine.
use Rattle.std.specs.Prelude.{ℕ, List}
use Rattle.amx_machine.specs.Machine.{Machine}

-- the machine, the digest of its file, and the bytes of the last image that was saved
pub record Held : Type 0 where
  pub machine : Machine
  pub digest : List ℕ
  pub image : List ℕ

-- with another machine
abbrev pub with_machine : Held → Machine → Held
with_machine held m = record held { machine = m }
