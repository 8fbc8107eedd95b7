use Rattle.gen_module.specs.Source.{program_of}
use Rattle.gen_module.proofs.FunctionRows.{function_part}
use Rattle.gen_module.proofs.RowLaws.{Row}
use Rattle.gen_module.proofs.functions.functions.Given as goal

abbrev pub invariant-loop-one : goal.invariant-loop-one
invariant-loop-one l =
    Row (function_part (program_of l.source)) l.all l.fn.b l.grown l.one-index l.entries.items
