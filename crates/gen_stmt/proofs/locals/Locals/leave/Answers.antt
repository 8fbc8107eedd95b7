use Rattle.std.proofs.Common.{◌≡◌, ◌<◌, ◌≤◌, ◌-◌, length, take, sym, ap, ◌∙◌, arith}
use Rattle.std.proofs.lemmas.Grind.{common_steps}
use Rattle.std.proofs.lemmas.List.{take_all, take-take}
use Rattle.gen_sim.specs.FlowCode.{made_cells}
use Rattle.gen_stmt.proofs.locals.Locals.leave.Goals as goal

pub loop-self-preserved : goal.loop-self-preserved
loop-self-preserved c =
    let made = c.loop-self.self.made.items in
    let more : c.args.mark.made < length made = grind (arith, common_steps) in (
      ap (λ l. take c.args.mark.made l) c.unmake.ensures.made
          ∙ take-take c.args.mark.made (length made - 1) made (omega (arith, more))
          ∙ c.loop-self.invariant.0,
      λ slots params o. c.unmake.ensures.offsets slots params
          (c.loop-self.invariant.1 slots params o),
    )

pub returns-clause-keeps : goal.returns-clause-keeps
returns-clause-keeps c = λ slots params k e.
    let made = c.loop-self.self.made.items in
    let less : length made ≤ c.args.mark.made = grind (arith, common_steps) in
    let all : take c.args.mark.made c.args.self.now.made.items ≡ made =
    sym c.loop-self.invariant.0 ∙ take_all c.args.mark.made made less in
    record {
      offsets = c.loop-self.invariant.1 slots params k.offsets;
      cells = e ∙ ap (λ l. made_cells slots l) all;
    }
