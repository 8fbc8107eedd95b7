-- A program whose data stand where they are said to.
use Rattle.pawn_meaning.specs.Program.{Program}
use Rattle.pawn_meaning.specs.View.{program_view}
use Rattle.gen_module.specs.HasAddresses.{HasAddresses}
use Rattle.gen_module.specs.declared.source.Source.{Source}

-- the program as its specification has it
abbrev pub program_of : Source → Program
program_of source = program_view source.program.now

-- the address of each object is what the data give it
abbrev pub IsSource : Source → Type 0
IsSource source = HasAddresses (program_of source) source.places.now
