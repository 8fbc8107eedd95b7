-- A case by itself, and cases behind others, part by part.
use Rattle.std.proofs.Common.{◌≡◌, List, [], ◌∷◌, ◌++◌, refl, sym, ap, ◌∙◌}
use Rattle.std.proofs.lemmas.List.{append-nil}
use Rattle.pawn_meaning.specs.Program as code
use Rattle.types_rules.specs.Stood.{Stood, one_of}
use Rattle.types_rules.specs.Switches.{Labels}
use Rattle.types_rules.specs.Statements.{Cased}
use Rattle.check_switches.specs.Cased.{bare, one_cased}

-- what a case gives
abbrev pub alone : Labels → Stood → Cased
alone x s = record {
  stood = record {
    stmts = [];
    slots = s.slots;
    objects = s.objects;
    returns = s.returns;
    warned = x.warned ++ s.warned;
  };
  cases = code.then_case x.ranges (one_of s) code.no_cases;
  ranges = x.ranges;
}

pub alone_is : (x : Labels) (s : Stood) → bare (one_cased x s) ≡ alone x s
alone_is x s =
    rw (
      append-nil s.slots,
      append-nil s.objects,
      append-nil s.returns,
      append-nil (x.warned ++ s.warned),
      append-nil x.ranges,
    ) refl
