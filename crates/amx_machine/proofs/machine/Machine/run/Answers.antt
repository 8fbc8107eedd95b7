use Rattle.std.proofs.Common.{◌≡◌, ap, ap₂, ◌∙◌}
use Rattle.std.proofs.lemmas.Bool.{ne_eqb}
use Rattle.amx_step.specs.Runs.{runs}
use Rattle.amx_machine.specs.declared.mode.Mode.TheVariants as mode
use Rattle.amx_machine.specs.Machine.{Machine, in_mode}
use Rattle.amx_machine.specs.Runs.{core_of}
use Rattle.amx_machine.proofs.CleanLaws.{clean_behind}
use Rattle.amx_machine.proofs.RunLaws.{with_steps}
use Rattle.amx_machine.proofs.machine.Machine.run.Goals as goal

pub settle-requires-clause-clean : goal.settle-requires-clause-clean
settle-requires-clause-clean c =
    let f = c.self.inside in
    let woken : in_mode f.mode f.core ≡ record c.args.self.now { mode = mode.Running } =
    c.self.view_is ∙ c.wake.ensures in
    let running = ap (λ (m : Machine). m.mode) woken in
    rw running
    (clean_behind c.args.count f.core c.run-steps.new.machine c.run-steps.result.0
    c.run-steps.result.1 c.run-steps.ensures
    c.registers-registers.ensures.order)

pub returns-clause-ran : goal.returns-clause-ran
returns-clause-ran c =
    let f = c.self.inside in
    let new = c.run-steps.new.machine in
    let steps = c.run-steps.result.0 in
    let turn = c.run-steps.result.1 in
    let woken : in_mode f.mode f.core ≡ record c.args.self.now { mode = mode.Running } =
    c.self.view_is ∙ c.wake.ensures in
    let running = ap (λ (m : Machine). m.mode) woken in
    let core : f.core ≡ core_of c.args.self.now = rw running at (ap core_of woken) in
    let event = rw running at c.settle.ensures.event in
    let machine = rw running at c.settle.ensures.machine in
    ap₂ (λ e m. record { steps = steps; event = e; machine = m }) event machine
    ∙ with_steps c.args.count c.args.self.now (record { steps = steps; turn = turn; machine = new })
    c.in_default.ensures
    (ne_eqb c.args.count 0 c.if-count-eq0.false)
    (c.run-steps.ensures ∙ ap (runs c.args.count 0) core)
