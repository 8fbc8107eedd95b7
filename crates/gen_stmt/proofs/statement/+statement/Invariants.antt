use Rattle.std.proofs.Common.{◌≡◌, ◌+◌, ◌*◌, max}
use Rattle.pawn_meaning.specs.declared.node.Stmt.{size-Stmt}
use Rattle.gen_stmt.specs.Cased.{tabled}
use Rattle.gen_stmt.specs.Standing.{Within}
use Rattle.gen_stmt.proofs.CaseLaws.{CasesLeft}
use Rattle.gen_stmt.proofs.StatementListLaws.{Left}
use Rattle.pawn_meaning.specs.View.{cases_view}
use Rattle.gen_stmt.proofs.statement.+statement.Given as goal

abbrev pub invariant-statements-loop-i : goal.invariant-statements-loop-i
invariant-statements-loop-i l =
    Left l.at.place l.at.since l.fn.locals l.locals l.items l.i l.fn.b l.grown

abbrev pub invariant-all_cases-loop-i : goal.invariant-all_cases-loop-i
invariant-all_cases-loop-i l =
    (l.locals.made.items ≡ l.fn.locals.made.items) × Within l.at.place l.at.since l.locals
    × CasesLeft l.at.place l.fn.locals.made.items l.at.since.made l.items l.i
    (tabled (cases_view l.items) l.fn.b) l.draft l.begins l.ends

-- ---- that it ends: a part of a statement has a smaller depth, and a function that is handed the same
-- part as its caller stands below it; a list is as deep as its deepest statement

abbrev pub decreases-statement : goal.decreases-statement
decreases-statement l = 8 * goal.size-statement l

abbrev pub decreases-statements : goal.decreases-statements
decreases-statements l = 8 * goal.size-statements l + 1

abbrev pub decreases-part : goal.decreases-part
decreases-part l = 8 * goal.size-part l + 1

abbrev pub decreases-block : goal.decreases-block
decreases-block l = 8 * goal.size-block l + 2

abbrev pub decreases-alternative : goal.decreases-alternative
decreases-alternative l = 8 * goal.size-alternative l + 2

abbrev pub decreases-only_part : goal.decreases-only_part
decreases-only_part l = 8 * size-Stmt l.s.now + 2

abbrev pub decreases-first_part : goal.decreases-first_part
decreases-first_part l = 8 * size-Stmt l.s.now + 2

abbrev pub decreases-body : goal.decreases-body
decreases-body l = 8 * goal.size-body l + 2

abbrev pub decreases-while_do : goal.decreases-while_do
decreases-while_do l = 8 * goal.size-while_do l + 3

abbrev pub decreases-do_while : goal.decreases-do_while
decreases-do_while l = 8 * goal.size-do_while l + 3

abbrev pub decreases-for_loop : goal.decreases-for_loop
decreases-for_loop l = 8 * goal.size-for_loop l + 3

abbrev pub decreases-one_case : goal.decreases-one_case
decreases-one_case l = 8 * goal.size-one_case l + 2

abbrev pub decreases-all_cases : goal.decreases-all_cases
decreases-all_cases l = 8 * goal.size-all_cases l + 3

abbrev pub decreases-both_parts : goal.decreases-both_parts
decreases-both_parts l = 8 * max (size-Stmt l.one.now) (size-Stmt l.other.now) + 3
