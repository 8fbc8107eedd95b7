use Rattle.std.proofs.Common.{◌≡◌, length, get_or, sym, false, arith}
use Rattle.std.proofs.lemmas.List.Sums.{prefix_len_is}
use Rattle.pawn_token.specs.Class.{is_in}
use Rattle.pawn_token.proofs.class.run_length.Goals as goal

pub returns-then-not-is_in : goal.returns-then-not-is_in
returns-then-not-is_in c =
    let fails : is_in c.args.class (get_or c.args.bytes.now c.loop-index.index 0) ≡ false =
    grind arith in
    sym (prefix_len_is (is_in c.args.class) c.args.bytes.now c.loop-index.index 0
    (omega arith) c.loop-index.invariant (λ _. fails))

pub returns : goal.returns
returns c =
    sym (prefix_len_is (is_in c.args.class) c.args.bytes.now (length c.args.bytes.now) 0
    (omega arith)
    (λ k below. c.loop-index.invariant k (omega (arith, below)))
    (λ past. absurd (omega (arith, past))))
