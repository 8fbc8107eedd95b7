-- From what is known everywhere and all marks to the names of a tree.
use Rattle.std.proofs.Common.{◌≡◌, List, [], Result, Ok, Err, option_map, refl, ap, ◌∙◌}
use Rattle.std.specs.Option.{option_or}
use Rattle.pawn_cells.specs.Constants.{predefined}
use Rattle.pawn_tree.specs.Declarations.{Tree}
use Rattle.names_rules.specs.Mark.{Mark}
use Rattle.names_rules.specs.TreeMarks.{tree_marks}
use Rattle.names_rules.specs.FileNames.{file_names, twice_faults}
use Rattle.names_rules.specs.Overloads.{overloads_of}
use Rattle.names_rules.specs.Around.{Around, around_of, constant, function, function_named, tags_of}
use Rattle.names_rules.specs.Faults.{faults}
use Rattle.names_rules.proofs.FaultLaws.{no_faults}
use Rattle.pawn_verdict.specs.declared.fault.CheckFault.{CheckFault}
use Rattle.names_sight.specs.declared.context.Context.{Context}
use Rattle.pawn_verdict.specs.Answers.{Fails}
use Rattle.names_sight.specs.Steps.{IsWhole}
use Rattle.names_sight.proofs.FileLaws.{functions_are}
use Rattle.pawn_verdict.proofs.VerdictLaws.{fails_left, fails_right}
use Rattle.pawn_names.specs.declared.resolved_names.Names.{Names}
use Rattle.pawn_names.specs.declared.resolver.Resolver.{Resolver}
use Rattle.pawn_names.specs.Behind.{IsBehind}
use Rattle.pawn_names.specs.Resolved.{Begins, IsOnce, IsResolved, ArePairs, AreResolved}

-- ---- before any mark

pub once_is : (tree : Tree) (cx : Context) → cx.tags ≡ tags_of (tree_marks tree)
    → cx.operators ≡ overloads_of cx.tags tree []
    → IsWhole cx.tags (file_names tree) cx.names → cx.scopes ≡ [] → cx.known ≡ [] → IsOnce tree cx
once_is tree cx tags operators names scopes known = record {
  begins = record {
    knows = record {
      tags = tags;
      overloads = operators ∙ ap (λ t. overloads_of t tree []) tags;
      elsewhere = λ name. ap (λ f. option_or f (option_map constant (predefined name)))
          (functions_are cx.tags (file_names tree) cx.names name names.holds
          ∙ ap (λ t. option_map (function t) (function_named (file_names tree) name)) tags);
    };
    scopes = scopes;
    known = known;
  };
  once = names.once;
}

pub nothing_behind : (around : Around) (cx : Context) (x : Resolver) → Begins around cx
    → x.context ≡ cx → x.uses ≡ [] → x.values.items ≡ []
    → IsBehind around [] x
nothing_behind around cx x b c e v = record {
  knows = rw c b.knows;
  path = rw (c, b.known, b.scopes) tt;
  uses = e;
  values = v;
  whole = refl;
}

-- ---- the tree

pub resolved : (tree : Tree) (cx : Context) (result : Result Names CheckFault) → IsOnce tree cx
    → AreResolved (around_of tree) (tree_marks tree) result → IsResolved tree result
resolved tree cx (Ok names) once h =
    record { whole = no_faults tree once.once h.whole; uses = h.uses; values = h.values }
resolved tree cx (Err fault) once h = fails_right (twice_faults (file_names tree)) _ fault h

pub twice_fails : (tree : Tree) (fault : CheckFault) → Fails (twice_faults (file_names tree)) fault
    → Fails (faults tree) fault
twice_fails tree fault h = fails_left (twice_faults (file_names tree)) _ fault h

pub all_pairs : (around : Around) (taken marks : List Mark) (x : Resolver) (names : Names)
    → taken ≡ marks → IsBehind around taken x
    → names.uses ≡ x.uses → names.values ≡ x.values.items → ArePairs around marks names
all_pairs around taken marks x names e h u v =
    rw (← e) (record { whole = h.whole; uses = u ∙ h.uses; values = v ∙ h.values })
