use Rattle.std.proofs.Common.{◌≡◌, ◌++◌, drop}
use Rattle.amx_format.specs.Layout.{words}
use Rattle.amx_format.proofs.writer.put_words.Given as goal

abbrev pub invariant-loop-number : goal.invariant-loop-number
invariant-loop-number l =
    l.out ++ words (drop l.number-index l.numbers) ≡ l.initial.out ++ words l.numbers
