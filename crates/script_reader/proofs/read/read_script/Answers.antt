use Rattle.serde_json.specs.View.{view}
use Rattle.script_reader.proofs.RangeLaws.{read_is_script}
use Rattle.script_reader.proofs.read.read_script.Goals as goal

pub returns-in-Ok-clause-ranges : goal.returns-in-Ok-clause-ranges
returns-in-Ok-clause-ranges c = read_is_script (view c.in-Ok.value) c.script.result c.script.ensures
