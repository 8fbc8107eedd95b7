use Rattle.std.proofs.Common.{arith}
use Rattle.std.proofs.lemmas.List.Sums.{prefix_len-le-length}
use Rattle.pawn_token.specs.Class.{is_in}
use Rattle.pawn_token.proofs.class.split.Goals as goal

pub split_at-requires : goal.split_at-requires
split_at-requires c =
    let within = prefix_len-le-length (is_in c.args.class) c.args.bytes.now in
    omega (arith, within, c.run_length.ensures)
