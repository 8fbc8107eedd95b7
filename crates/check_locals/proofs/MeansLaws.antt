-- What an array means by the verdict of its sizes.
use Rattle.std.proofs.Common.{◌≡◌, ◌<◌, ℕ, Bool, refl, arith}
use Rattle.pawn_meaning.specs.Program.{Array}
use Rattle.names_rules.specs.Verdict.{Verdict, Stands, Breaks}
use Rattle.types_rules.specs.Scope.{Unknown}
use Rattle.types_rules.specs.Scope as means
use Rattle.types_rules.specs.Arrays.{Shaped}
use Rattle.types_rules.specs.Points.{array_means, extent_of}
use Rattle.pawn_cells.specs.declared.place.Place.{Place}
use Rattle.check_nodes.specs.PartAnswers.{FailsPart}
use Rattle.check_nodes.specs.declared.fault.PartFault.TheVariants.{Source, Fallen}

pub means_known : (a : Array) (tag : ℕ) (constant : Bool) (w : Verdict Shaped) (it : Shaped)
    → w ≡ Stands it
    → array_means a tag constant w ≡ means.Array a (extent_of it.sizes) tag constant
means_known a tag constant w it h = rw h refl

pub means_fallen : (a : Array) (tag : ℕ) (constant : Bool) (w : Verdict Shaped) → FailsPart w Fallen
    → array_means a tag constant w ≡ Unknown
means_fallen a tag constant w h = rw h.cause refl

pub means_broken : (a : Array) (tag : ℕ) (constant : Bool) (w : Verdict Shaped) (kind : ℕ)
    (place : Place) → FailsPart w (Source kind place)
    → array_means a tag constant w ≡ Unknown
means_broken a tag constant (Stands it) kind place h =
    let f = h.cause in let k : f.0 < 0 = f.1 in absurd (omega (arith, k))
means_broken a tag constant (Breaks faults) kind place h = refl

pub ruleset meanings = (means_known, means_fallen, means_broken)
