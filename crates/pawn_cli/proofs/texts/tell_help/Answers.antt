use Rattle.pawn_cli.proofs.texts.tell_help.Goals as goal

pub returns-in-None : goal.returns-in-None
returns-in-None g c =
    rw c.in-None.is (record {
      told = c.help.result;
      written = c.help.ensures;
      is = c.told.ensures;
    })

pub returns-in-Some : goal.returns-in-Some
returns-in-Some g c =
    rw c.in-Some.is (record {
      told = c.help-in-Some.result;
      written = rw c.as_str.ensures at c.help-in-Some.ensures;
      is = c.told-in-Some.ensures;
    })
