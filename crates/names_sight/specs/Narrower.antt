-- What code keeps of a verdict: what stands, or some of the faults for which it doesn't.
use Rattle.std.specs.Prelude.{◌≡◌, ℤ, List, [], ◌∷◌, Option, Some, None, Result}
use Rattle.std.specs.List.{Contains}
use Rattle.names_rules.specs.Verdict.{Verdict, Stands, Fault, faults_of}
use Rattle.names_rules.specs.Known.{Known, Kind, Cells, Worth, Function}
use Rattle.names_sight.specs.declared.fault.Fault as held
use Rattle.names_sight.specs.Views.{size_view}

-- what stands is the same, and each fault that is kept is one of the verdict's
pub record Narrower {A : Type 0} (kept verdict : Verdict A) : Type 0 where
  pub stands : (x : A) → kept ≡ Stands x → verdict ≡ Stands x
  pub faults : (fault : Fault) → Contains (faults_of kept) fault
      → Contains (faults_of verdict) fault

-- of a size that code keeps
abbrev pub NarrowerSize : Result ℤ held.Fault → Verdict ℤ → Type 0
NarrowerSize size verdict = Narrower (size_view size) verdict

-- one by one
abbrev pub AreNarrower : List (Verdict ℤ) → List (Verdict ℤ) → Type 0
AreNarrower [] [] = Unit {0}
AreNarrower [] (verdict ∷ verdicts) = ⊥
AreNarrower (kept ∷ more) [] = ⊥
AreNarrower (kept ∷ more) (verdict ∷ verdicts) = Narrower kept verdict × AreNarrower more verdicts

-- the same of what a declared name stands for
abbrev pub NarrowerKind : Kind → Kind → Type 0
NarrowerKind (Cells kept) (Cells sizes) = AreNarrower kept sizes
NarrowerKind (Worth kept) (Worth worth) = Narrower kept worth
NarrowerKind Function Function = Unit {0}
NarrowerKind _ _ = ⊥

-- the same of what is known of a name
pub record NarrowerKnown (kept known : Known) : Type 0 where
  pub token : kept.token ≡ known.token
  pub tag : kept.tag ≡ known.tag
  pub kind : NarrowerKind kept.kind known.kind

-- the same of what a name means, if anything
abbrev pub NarrowerMeant : Option Known → Option Known → Type 0
NarrowerMeant None None = Unit {0}
NarrowerMeant (Some kept) (Some known) = NarrowerKnown kept known
NarrowerMeant _ _ = ⊥
