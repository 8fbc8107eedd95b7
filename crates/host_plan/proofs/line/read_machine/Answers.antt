use Rattle.std.proofs.Common.{◌∙◌, sym, true≢false}
use Rattle.host_plan.proofs.LineLaws.{machine_words}
use Rattle.host_plan.proofs.line.read_machine.Goals as goal
use Rattle.host_plan.proofs.line.read_machine.Goals.{then-not-is_word-via-then-not-is_word}
use Rattle.host_plan.proofs.line.read_machine.Goals.{then-not-is_word-via-else-not-is_word+then-not-is_word-2}

pub returns-then-not-is_word : goal.returns-then-not-is_word
returns-then-not-is_word c = λ it fits e.
    (let p = machine_words c.args.amx.now c.args.script.now c.requires it fits e in
    elim c.then-not-is_word.branch [
      | then-not-is_word-via-then-not-is_word w ↦ true≢false
          (sym (c.is_word.ensures.1 p.0) ∙ w.if-not-is_word.true)
      | then-not-is_word-via-else-not-is_word+then-not-is_word-2 w ↦ true≢false
          (sym (w.is_word-else-not-is_word.ensures.1 p.1) ∙ w.if-not-is_word-2.true)
    ])
