-- What code has found out behind some marks.
use Rattle.std.specs.Prelude.{◌≡◌, ℕ, List, [], ◌∷◌, Some, option_map, slice_get, Result, Ok, Err}
use Rattle.names_rules.specs.Mark.{Mark}
use Rattle.names_rules.specs.Around.{Around, everywhere}
use Rattle.names_rules.specs.Path.{Path, Entry, path_of}
use Rattle.names_rules.specs.Faults.{marks_faults}
use Rattle.names_rules.specs.Uses as u
use Rattle.names_rules.specs.Values as v
use Rattle.names_sight.specs.declared.known.Known.{Known}
use Rattle.names_sight.specs.declared.context.Context.{Context}
use Rattle.pawn_names.specs.declared.resolver.Resolver.{Resolver}
use Rattle.pawn_verdict.specs.declared.fault.CheckFault.{CheckFault}
use Rattle.pawn_verdict.specs.Answers.{Fails}
use Rattle.names_sight.specs.Scopes.{Numbered}
use Rattle.names_sight.specs.Means.{elsewhere_view}
use Rattle.names_sight.specs.Narrower.{NarrowerMeant}
use Rattle.names_sight.specs.Views.{known_view}

-- ---- the declarations in sight

-- a name with the number of its declaration, of which this is known
pub record IsEntry (known : List Known) (numbered : List ℕ × ℕ) (entry : Entry) : Type 0 where
  pub name : numbered.0 ≡ entry.name
  pub narrower : NarrowerMeant (option_map known_view (slice_get known numbered.1))
      (Some entry.known)

-- one entry each, in one order
abbrev pub IsBlock : List Known → List (List ℕ × ℕ) → List Entry → Type 0
IsBlock known [] [] = Unit {0}
IsBlock known [] (entry ∷ entries) = ⊥
IsBlock known (numbered ∷ more) [] = ⊥
IsBlock known (numbered ∷ more) (entry ∷ entries) =
    IsEntry known numbered entry × IsBlock known more entries

-- one block each, the innermost first
abbrev pub IsPath : List Known → Numbered → Path → Type 0
IsPath known [] [] = Unit {0}
IsPath known [] (block ∷ outer) = ⊥
IsPath known (numbered ∷ more) [] = ⊥
IsPath known (numbered ∷ more) (block ∷ outer) =
    IsBlock known numbered block × IsPath known more outer

-- ---- what is known everywhere

-- code holds the same tags and operators, and gives each name outside blocks the same meaning
pub record Knows (around : Around) (cx : Context) : Type 0 where
  pub tags : cx.tags ≡ around.tags
  pub overloads : cx.operators ≡ around.overloads
  pub elsewhere : (name : List ℕ) → elsewhere_view cx name ≡ everywhere around name

-- ---- all

-- all that code holds is that of these marks, which have no fault
pub record IsBehind (around : Around) (marks : List Mark) (x : Resolver) : Type 0 where
  pub knows : Knows around x.context
  pub path : IsPath x.context.known x.context.scopes (path_of around marks)
  pub uses : x.uses ≡ u.uses around marks
  pub values : x.values.items ≡ v.values around marks
  pub whole : marks_faults around marks ≡ []

-- code comes behind these marks, or answers one of their faults
abbrev pub Comes : {A : Type 0} → Around → List Mark → Resolver → Result A CheckFault → Type 0
Comes around marks x (Ok done) = IsBehind around marks x
Comes around marks x (Err fault) = Fails (marks_faults around marks) fault
