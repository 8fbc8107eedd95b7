use Rattle.amx_text.proofs.FoundLaws.{checked, found, finished}
use Rattle.amx_text.proofs.draft.Draft.finish.Goals as goal

pub returns-in-Some : goal.returns-in-Some
returns-in-Some c = found c.args.self c.in-Some.fault c.in-Some.ensures

pub verify_file-requires : goal.verify_file-requires
verify_file-requires c =
    let it = checked c.args.self c.requires c.in-None.ensures in
    record { small = it.small; memory = it.memory; tables = it.tables }

pub returns-in-None : goal.returns-in-None
returns-in-None c =
    finished c.args.self c.verify_file.result c.in-None.ensures c.verify_file.ensures
