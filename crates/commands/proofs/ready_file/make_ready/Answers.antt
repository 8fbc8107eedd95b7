use Rattle.std.proofs.Common.{rules, w32, FitsSigned}
use Rattle.std.proofs.lemmas.Int.{to_z-of_z}
use Rattle.commands.proofs.FileReadyLaws.{main_missing, main_there, readies}
use Rattle.commands.proofs.ready_file.make_ready.Goals as goal

pub returns-in-None : goal.returns-in-None
returns-in-None c =
    let fits : FitsSigned w32 c.amx.result.now.entry = search rules in
    main_missing c.args.file c.args.script.now c.amx.result.now c.no_entry.result
    c.amx.ensures.value
    (rw (to_z-of_z w32 c.amx.result.now.entry fits) at c.in-None.ensures) c.no_entry.ensures

pub returns-in-Some : goal.returns-in-Some
returns-in-Some c =
    let fits : FitsSigned w32 c.amx.result.now.entry = search rules in
    readies c.args.file c.args.script.now c.serve.result
    (main_there c.args.file c.args.script.now c.amx.result.now _ c.amx.ensures.value
    (rw (to_z-of_z w32 c.amx.result.now.entry fits) at c.in-Some.ensures)) c.serve.ensures
