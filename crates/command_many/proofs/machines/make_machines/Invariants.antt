use Rattle.std.proofs.Common.{take}
use Rattle.pawn_outside.specs.OnlyRead.{OnlyRead}
use Rattle.command_many.specs.Machines.{AreMachines}
use Rattle.command_many.proofs.machines.make_machines.Given as goal

abbrev pub invariant-loop-machine : goal.invariant-loop-machine
invariant-loop-machine g l = record {
  calls : OnlyRead {F = g.row.F.Denot} g.F.Files.held g.F.Files.faults g.F.Files.never_fails
      l.initial.files l.files ⊥;
  made : AreMachines (g.F.Files.held l.initial.files) (take l.machine-index l.machines) l.host;
}
