use Rattle.std.proofs.Common.{rules}
use Rattle.pawn_parse.proofs.BracketLaws.{counted_none, counted_more, deep_here, shallow_all}
use Rattle.pawn_parse.proofs.deep.too_deep.Goals as goal

pub loop-i-init : goal.loop-i-init
loop-i-init c = counted_none _

pub returns-then-count-gt-MOST_OPEN : goal.returns-then-count-gt-MOST_OPEN
returns-then-count-gt-MOST_OPEN c = search (rules, deep_here)

pub loop-i-preserved : goal.loop-i-preserved
loop-i-preserved c = search (rules, counted_more)

pub returns : goal.returns
returns c = search (rules, shallow_all)
