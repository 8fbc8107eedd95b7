use Rattle.std.proofs.Common.{refl, sym, subst, arith, Option}
use Rattle.std.proofs.lemmas.List.Elements.{All-get_or}
use Rattle.pawn_outside.specs.Held.{Held}
use Rattle.pawn_outside.proofs.OnlyReadLaws.{read_as, read_nothing, read_then}
use Rattle.command_parts.proofs.ReadCallLaws.{handed, only_handed, only_other}
use Rattle.host_plan.specs.Plans.{AreFiles}
use Rattle.command_many.specs.Machines.{AreHosted, IsAdded}
use Rattle.command_many.proofs.MachineLaws.{few_machines, machine_missing, machines_all, machines_cut, machines_next}
use Rattle.command_many.proofs.machines.make_machines.Goals as goal

pub loop-machine-init : goal.loop-machine-init
loop-machine-init g c =
    record { calls = read_nothing c.args.files.now; made = c.new-host.ensures }

pub make_machine-requires-clause-names : goal.make_machine-requires-clause-names
make_machine-requires-clause-names g c =
    subst AreFiles (sym c.machine-item.is)
    (All-get_or AreFiles c.args.machines.now c.loop-machine.machine-index c.machine-item.result
    c.loop-machine-test.true c.requires.names)

pub make_machine-requires-clause-few : goal.make_machine-requires-clause-few
make_machine-requires-clause-few g c =
    let few =
    few_machines (g.F.Files.held c.args.files.now) c.args.machines.now
    c.loop-machine.machine-index c.loop-machine.host c.loop-machine.invariant.made in
    omega (arith, few, c.requires.few)

pub returns-in_err-make_machine-clause-calls : goal.returns-in_err-make_machine-clause-calls
returns-in_err-make_machine-clause-calls g c =
    read_then c.loop-machine.invariant.calls
    (only_handed c.from_residual.result c.from_residual.ensures.1 refl
    c.in_err-make_machine.ensures.calls)

pub returns-in_err-make_machine-clause-answer : goal.returns-in_err-make_machine-clause-answer
returns-in_err-make_machine-clause-answer g c =
    handed (AreHosted (g.F.Files.held c.args.files.now) c.args.machines.now)
    c.from_residual.result c.from_residual.ensures.1
    (machines_cut (g.F.Files.held c.args.files.now) c.args.machines.now
    c.loop-machine.machine-index c.machine-item.result c.loop-machine-test.true
    c.machine-item.is c.loop-machine.host c.loop-machine.invariant.made _
    (machine_missing c.loop-machine.invariant.calls.same
    c.in_err-make_machine.ensures.answer))

pub loop-machine-preserved : goal.loop-machine-preserved
loop-machine-preserved g c = record {
  calls =
      read_then c.loop-machine.invariant.calls
      (only_other (λ never. never) c.in_ok-make_machine.ensures.calls);
  made =
      machines_next (g.F.Files.held c.args.files.now) c.args.machines.now
      c.loop-machine.machine-index c.machine-item.result c.loop-machine-test.true
      c.machine-item.is c.loop-machine.host c.loop-machine.invariant.made c.make_machine.new.host
      (subst (λ (h : Option Held). IsAdded h c.machine-item.result c.loop-machine.host
      c.make_machine.new.host) c.loop-machine.invariant.calls.same
      c.in_ok-make_machine.ensures.answer);
}

pub returns-clause-calls : goal.returns-clause-calls
returns-clause-calls g c =
    read_as (λ e. absurd (cc e)) (λ never. absurd never) c.loop-machine.invariant.calls

pub returns-clause-answer : goal.returns-clause-answer
returns-clause-answer g c =
    machines_all (g.F.Files.held c.args.files.now) c.args.machines.now
    c.loop-machine.machine-index c.loop-machine.host c.loop-machine-test.false
    c.loop-machine.invariant.made
