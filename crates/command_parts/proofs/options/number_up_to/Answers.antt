use Rattle.std.proofs.Common.{◌∙◌, ◌≡◌, Ok, Err, refl, sym, ap, arith, true≢false}
use Rattle.std.specs.Fmt.{decimal}
use Rattle.std.proofs.lemmas.Fmt.{parse-decimal}
use Rattle.command_parts.proofs.NumberLaws.{is_number, no_number}
use Rattle.command_parts.proofs.options.number_up_to.Goals as goal
use Rattle.command_parts.proofs.options.number_up_to.Goals.{else-number-most-via-then-number-most+else-is_decimal}
use Rattle.command_parts.proofs.options.number_up_to.Goals.{else-number-most-via-else-number-most}

pub returns-in_default-clause-value : goal.returns-in_default-clause-value
returns-in_default-clause-value c =
    no_number c.args.most c.args.word.now (omega arith) (λ n small low is.
    absurd (cc (parse-decimal 64 n c.args.word.now
    (Err c.in_default.field-0) small small is c.in_default.ensures.value.0)))

pub returns-then-is_decimal-clause-value : goal.returns-then-is_decimal-clause-value
returns-then-is_decimal-clause-value c =
    is_number c.args.most c.in-Ok.number c.args.word.now (omega arith) c.if-number-most.true
    (sym c.as_bytes.ensures.value ∙ c.if-is_decimal.ensures.0 refl)

pub returns-else-number-most-clause-value : goal.returns-else-number-most-clause-value
returns-else-number-most-clause-value c =
    no_number c.args.most c.args.word.now (omega arith) (λ n small low is.
    let same : c.in-Ok.number ≡ n =
    cc (parse-decimal 64 n c.args.word.now
    (Ok c.in-Ok.number) small small is c.in-Ok.ensures.value.0) in
    elim c.else-number-most.branch [
      | else-number-most-via-then-number-most+else-is_decimal w ↦ true≢false
          (sym (w.is_decimal.ensures.1
          (w.as_bytes.ensures.value ∙ is ∙ ap decimal (sym same))) ∙ w.if-is_decimal.false)
      | else-number-most-via-else-number-most w ↦ omega (arith, same, low, w.if-number-most.false)
    ])
