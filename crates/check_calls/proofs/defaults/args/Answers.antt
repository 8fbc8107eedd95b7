use Rattle.std.proofs.Common.{arith, sym, ◌≡◌, ◌∙◌, get_or, map, List, Option, ap}
use Rattle.std.proofs.lemmas.Result.{err_from_is_err_and}
use Rattle.pawn_meaning.specs.Program.{Args}
use Rattle.names_rules.specs.Verdict.{Stands}
use Rattle.check_calls.specs.declared.defaults.Shown.{Shown}
use Rattle.check_calls.specs.declared.filling.Filled.{Filled}
use Rattle.check_calls.specs.Shown.{shown_in}
use Rattle.check_calls.proofs.ArgsLaws.{args_begin, args_more, args_fail, args_short, args_end}
use Rattle.check_calls.proofs.ArgsLaws.{view_behind}
use Rattle.check_calls.proofs.defaults.args.Goals as goal

-- what is shown of all slots, through what the code reads of both lists
all_are_shown : (seen all : List (Option Shown)) (given slots : List (Option Filled)) → seen ≡ all
    → all ≡ map shown_in given → given ≡ slots → seen ≡ map shown_in slots
all_are_shown seen all given slots e f g =
    e ∙ (f ∙ ap (λ (those : List (Option Filled)). map shown_in those) g)

pub loop-i-init : goal.loop-i-init
loop-i-init c = rw c.new-args.ensures (args_begin _ _ _ _ _)

pub loop-i-preserved : goal.loop-i-preserved
loop-i-preserved c =
    let it : c.replace-it.result ≡ get_or c.loop-i.slots.items c.loop-i.i c.replace-it.result =
    rw c.replace-it.ensures.value c.index_mut.ensures.value in
    let shown =
    all_are_shown _ _ _ _ c.as_slice-shown.ensures.value c.in_ok-all.ensures
    c.as_slice.ensures.value in
    rw c.in_ok-push_boxed.ensures (args_more _ _ _ _ _ _ _ _ _ c.loop-i.invariant
    (omega arith) c.index-params-i.is (omega arith) it
    (c.in_ok-arg.ensures c.args.slots.items shown))

pub returns-in_err-arg : goal.returns-in_err-arg
returns-in_err-arg c =
    let p =
    err_from_is_err_and c.from_residual-in_err-arg.result
    c.from_residual-in_err-arg.ensures.1 in
    let it : c.replace-it.result ≡ get_or c.loop-i.slots.items c.loop-i.i c.replace-it.result =
    rw c.replace-it.ensures.value c.index_mut.ensures.value in
    let shown =
    all_are_shown _ _ _ _ c.as_slice-shown.ensures.value c.in_ok-all.ensures
    c.as_slice.ensures.value in
    rw (p.1, p.2) (args_fail _ _ _ _ _ _ _ _ c.loop-i.invariant (omega arith) c.index-params-i.is
    (omega arith) it
    (c.in_err-arg.ensures c.args.slots.items shown))

pub returns-then-i-len : goal.returns-then-i-len
returns-then-i-len c =
    rw c.broken.ensures (args_short _ _ _ _ _ _ c.loop-i.invariant (omega arith) c.index-params-i.is
    (omega arith))

pub returns : goal.returns
returns c =
    let whole = args_end _ _ _ _ _ c.loop-i.invariant (omega arith) in
    rw c.in_ok-append.ensures.ok (whole
    ∙ ap (λ (args : Args). Stands args) (sym (view_behind c.loop-i.args c.args.others)))
