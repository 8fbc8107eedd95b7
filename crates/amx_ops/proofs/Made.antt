-- A file made of its parts.
use Rattle.std.proofs.Common.{ℕ, ℤ, List}
use Rattle.amx_ops.specs.declared.amx.Amx.{Amx}
use Rattle.amx_ops.specs.declared.amx.Record.{Record}

abbrev pub amx_of : (flags version : ℕ) → (code store : List ℤ) → (room : ℕ) → (entry : ℤ)
    → (publics natives libraries variables tags : List Record) → Amx
amx_of flags version code store room entry publics natives libraries variables tags = record {
  flags = flags;
  version = version;
  code = code;
  store = store;
  room = room;
  entry = entry;
  publics = publics;
  natives = natives;
  libraries = libraries;
  variables = variables;
  tags = tags;
}
