use Rattle.std.proofs.Common.{map}
use Rattle.std.specs.String.{string_bytes}
use Rattle.command_parts.proofs.WordLaws.{by_explain, by_help, by_version, by_sizes, by_command}
use Rattle.command_parts.proofs.asked_words.read_asked.Goals as goal

pub returns-then-eq : goal.returns-then-eq
returns-then-eq c =
    by_explain c.args.word.now (map string_bytes c.args.rest.now) c.read_explain.result
    c.if-eq.ensures c.read_explain.ensures

pub returns-then-eq-2 : goal.returns-then-eq-2
returns-then-eq-2 c =
    by_help c.args.word.now (map string_bytes c.args.rest.now) c.read_help.result
    c.if-eq.ensures c.if-eq-2.ensures
    c.read_help.ensures

pub returns-then-eq-3 : goal.returns-then-eq-3
returns-then-eq-3 c =
    by_version c.args.word.now (map string_bytes c.args.rest.now) c.read_version.result
    c.if-eq.ensures c.if-eq-2.ensures
    c.if-eq-3.ensures c.read_version.ensures

pub returns-then-eq-4 : goal.returns-then-eq-4
returns-then-eq-4 c =
    by_sizes c.args.word.now (map string_bytes c.args.rest.now) c.read_sizes.result
    c.if-eq.ensures c.if-eq-2.ensures
    c.if-eq-3.ensures c.if-eq-4.ensures c.read_sizes.ensures

pub returns-else-eq-4 : goal.returns-else-eq-4
returns-else-eq-4 c =
    by_command c.args.word.now (map string_bytes c.args.rest.now) c.read_command.result
    c.if-eq.ensures c.if-eq-2.ensures
    c.if-eq-3.ensures c.if-eq-4.ensures c.read_command.ensures
