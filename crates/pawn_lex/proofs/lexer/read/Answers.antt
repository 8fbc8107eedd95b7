use Rattle.std.proofs.Common.{◌≡◌, length, get_or, sym, ap, ◌∙◌, arith}
use Rattle.pawn_lex.proofs.LineLaws.{onward_goes, onward_ends}
use Rattle.pawn_lex.proofs.lexer.read.Goals as goal

pub loop-line-preserved : goal.loop-line-preserved
loop-line-preserved c =
    let items = c.loop-line.invariant.items in
    let counted = ap length items in
    let here : get_or c.args.lines.now.lines c.loop-line.line-index c.line-item.result
    ≡ c.line-item.result =
    ap (λ lines. get_or lines c.loop-line.line-index c.line-item.result) (sym items)
    ∙ sym c.line-item.is in
    record {
      items = items;
      onward =
          onward_goes c.args.lines.now.lines c.loop-line.line-index c.line-item.result
          c.loop-line.list c.line_tokens.new.list
          (omega (arith, counted, c.loop-line-test.true)) here c.loop-line.invariant.onward
          c.in-Ok.ensures;
    }

pub returns : goal.returns
returns c =
    let counted = ap length c.loop-line.invariant.items in
    onward_ends c.args.lines.now.lines c.loop-line.line-index c.loop-line.list
    (omega (arith, counted, c.loop-line-test.false))
    c.loop-line.invariant.onward
