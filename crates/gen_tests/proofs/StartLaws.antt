-- A program whose first function is main has a function to begin with.
use Rattle.std.proofs.Common.{◌≡◌, ◌<◌, ℕ, Some, [], ◌∷◌, arith, length, map, sym, subst}
use Rattle.std.specs.Prelude.{Contains}
use Rattle.std.proofs.lemmas.List.Elements.{Contains-append_left, Contains-push}
use Rattle.pawn_meaning.specs.Program.{Program, Public}
use Rattle.pawn_usage.specs.Called.{at_most_one}
use Rattle.pawn_usage.specs.IsUsage.{HasStart}

pub has_main : (program : Program) → 0 < length program.functions → program.entry ≡ Some 0
    → HasStart program
has_main program there is = record {
  start = 0;
  is =
      record {
        there = there;
        started =
            Contains-append_left (at_most_one program.entry)
            (map (λ (it : Public). it.function) program.publics) 0
            (subst (λ o. Contains (at_most_one o) 0) (sym is) (Contains-push [] 0));
      };
}
