use Rattle.commands.proofs.natives.plain.Goals as goal

pub returns-in-Ok-clause-answer : goal.returns-in-Ok-clause-answer
returns-in-Ok-clause-answer c = cc c.in-Ok.ensures.script
