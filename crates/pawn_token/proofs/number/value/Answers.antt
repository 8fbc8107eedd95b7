use Rattle.std.proofs.Common.{◌≡◌, ◌+◌, ◌*◌, suc, drop, get_or, ap, sym, ◌∙◌, arith}
use Rattle.std.proofs.Math.Seq.{drop-cons}
use Rattle.std.specs.Char.{digit_value}
use Rattle.std.specs.Str.Parse.{digits_value, digits_value_after}
use Rattle.pawn_token.proofs.DigitLaws.{value_grows}
use Rattle.pawn_token.proofs.number.value.Goals as goal

pub returns-then-next-limit : goal.returns-then-next-limit
returns-then-next-limit c below =
    let digits = c.args.digits.now in
    let i = c.loop-byte.byte-index in
    let sum = c.loop-byte.sum * c.args.base + digit_value (get_or digits i 0) in
    let step : digits_value_after c.args.base sum (drop (suc i) digits)
    ≡ digits_value c.args.base digits =
    sym (ap (digits_value_after c.args.base c.loop-byte.sum)
    (drop-cons digits i 0 c.loop-byte-test.true)) ∙ c.loop-byte.invariant.so_far in
    let grows = value_grows c.args.base sum (drop (suc i) digits) c.requires.positive in
    let base : c.loop-byte.sum * c.from.result ≡ c.loop-byte.sum * c.args.base =
    ap (λ n. c.loop-byte.sum * n) c.from.ensures in
    omega (arith, below, step, grows, base)
