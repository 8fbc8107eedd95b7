use Rattle.std.proofs.Common.{◌≡◌, drop}
use Rattle.std.specs.List.{find}
use Rattle.std.specs.Str.{bytes_eq}
use Rattle.pawn_token.specs.Keys.{key_spelling}
use Rattle.pawn_token.proofs.table.key_among.Given as goal

abbrev pub invariant-loop-key : goal.invariant-loop-key
invariant-loop-key l =
    find (λ key. bytes_eq (key_spelling key) l.word) (drop l.key-index l.keys)
    ≡ find (λ key. bytes_eq (key_spelling key) l.word) l.keys
