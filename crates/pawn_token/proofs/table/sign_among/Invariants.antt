use Rattle.std.proofs.Common.{◌≡◌, drop}
use Rattle.std.specs.List.{find, starts_with}
use Rattle.std.specs.Prelude.{nat_eq}
use Rattle.pawn_token.specs.Signs.{sign_spelling}
use Rattle.pawn_token.proofs.table.sign_among.Given as goal

abbrev pub invariant-loop-sign : goal.invariant-loop-sign
invariant-loop-sign l =
    find (λ sign. starts_with nat_eq l.bytes (sign_spelling sign)) (drop l.sign-index l.signs)
    ≡ find (λ sign. starts_with nat_eq l.bytes (sign_spelling sign)) l.signs
