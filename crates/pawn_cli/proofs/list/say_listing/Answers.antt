use Rattle.std.proofs.Common.{refl}
use Rattle.pawn_cli.proofs.ListLaws.{all_written}
use Rattle.pawn_cli.proofs.list.say_listing.Goals as goal

pub returns-in-Taken : goal.returns-in-Taken
returns-in-Taken g c = record {
  whole = c.in-Taken.ensures.answer;
  front = all_written _ _ _ c.in-Taken.ensures.answer;
  steady = c.in-Taken.ensures.steady refl;
  cause = tt;
  unfailing = λ rest room. ((c.in-Taken.ensures.unfailing rest room).0, refl);
}

pub returns-in-Failed : goal.returns-in-Failed
returns-in-Failed g c = record {
  whole = tt;
  front = c.in-Failed.ensures.answer;
  steady = tt;
  cause = c.in-Failed.ensures.cause refl;
  unfailing = λ rest room. absurd (cc ((c.in-Failed.ensures.unfailing rest room).1));
}
