use Rattle.std.proofs.Common.{◌≡◌, ◌∙◌, Ok, Err, sym, ap, subst, true≢false}
use Rattle.std.specs.Fmt.{decimal}
use Rattle.std.specs.Str.{IsUtf8}
use Rattle.std.proofs.lemmas.Fmt.{parse-decimal, IsAscii-decimal}
use Rattle.std.proofs.lemmas.Str.{IsUtf8-from_ascii}
use Rattle.host_plan.proofs.word.number_of.Goals as goal

pub returns-in_default : goal.returns-in_default
returns-in_default c = λ n small is.
    c.in_default.ensures.cases.0
    (subst IsUtf8 (sym is) (IsUtf8-from_ascii (decimal n) (IsAscii-decimal n small)))

pub returns-in_default-parse : goal.returns-in_default-parse
returns-in_default-parse c = λ n small is.
    absurd (cc (parse-decimal 64 n c.in-Ok.digits.now (Err c.in_default-parse.field-0) small small
    (c.in-Ok.ensures.cases.0 ∙ is) c.in_default-parse.ensures.value.0))

pub returns-else-is_decimal : goal.returns-else-is_decimal
returns-else-is_decimal c = λ n small is.
    (let same : c.in-Ok-parse.number ≡ n =
    cc (parse-decimal 64 n c.in-Ok.digits.now (Ok c.in-Ok-parse.number) small small
    (c.in-Ok.ensures.cases.0 ∙ is) c.in-Ok-parse.ensures.value.0) in
    true≢false (sym (c.is_decimal.ensures.1 (is ∙ ap decimal (sym same)))
    ∙ c.if-is_decimal.false))
