use Rattle.std.proofs.Common.{codes}
use Rattle.pawn_sample.specs.SampleSource.{call_line, lines_below}
use Rattle.pawn_sample.proofs.AppendLaws.{three_behind}
use Rattle.pawn_sample.proofs.source.append_main.Goals as goal

pub returns : goal.returns
returns c =
    three_behind c.append-2.result c.args.source.now c.append.new.self c.append_calls.new.source
    c.append-2.new.self (codes "main() {\nnew t = 0;\nfor (new r = 0; r < 10; r++) {\n")
    (lines_below call_line c.args.functions) (codes "}\nreturn t;\n}\n")
    c.in_ok-append.ensures.ok c.in_ok-append_calls.ensures c.append-2.ensures.ok
