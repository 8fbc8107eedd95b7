use Rattle.std.proofs.Common.{refl, arith, append-nil, rules}
use Rattle.std.proofs.lemmas.Grind.{common_steps}
use Rattle.amx_text.specs.Lines.{hexadecimal, address_text}
use Rattle.amx_text.proofs.LineLaws.{digit_more, digits_done}
use Rattle.amx_text.proofs.line.address.Goals as goal

pub loop-place-init : goal.loop-place-init
unfolding address_text
loop-place-init c = record { done = append-nil (hexadecimal 8 c.args.at); size = refl }

pub loop-place-preserved : goal.loop-place-preserved
loop-place-preserved c = record {
  done =
      digit_more c.loop-place.digits (address_text c.args.at) c.loop-place.place c.loop-place.rest
      c.loop-place.invariant.done
      c.hexadecimal_digit.result c.loop-place-test.true c.loop-place.invariant.size
      c.hexadecimal_digit.ensures;
  size = search (rules, common_steps, c.loop-place.invariant.size);
}

pub returns : goal.returns
returns c =
    digits_done c.loop-place.digits (address_text c.args.at) c.loop-place.place c.loop-place.rest
    c.loop-place.invariant.done
    (omega (arith, c.loop-place-test.false))
