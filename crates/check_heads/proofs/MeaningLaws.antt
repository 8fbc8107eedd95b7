-- What parameters and heads mean that don't stand.
use Rattle.std.proofs.Common.{◌≡◌, ◌<◌, ◌-◌, ◌≢◌, ℕ, List, [], ◌∷◌, ◌++◌, length, take, Bool, None}
use Rattle.std.proofs.Common.{refl, ap, ◌∙◌, arith}
use Rattle.std.proofs.lemmas.Grind.{common_steps}
use Rattle.names_rules.specs.Verdict.{Verdict, Stands, Breaks}
use Rattle.types_rules.specs.Scope.{Unknown, with_entries}
use Rattle.types_rules.specs.Params.{Headed, Reach, array_param_means, head_of}
use Rattle.check_nodes.specs.declared.fault.PartFault.{PartFault}
use Rattle.check_nodes.specs.declared.fault.PartFault.TheVariants.{Source, Fallen, Memory}
use Rattle.check_nodes.specs.PartAnswers.{FailsPart}
use Rattle.check_nodes.specs.Scopes.{Block, Blocks, entry_view, scope_view, with_name, without}
use Rattle.check_nodes.proofs.IndexLaws.{name_viewed}
use Rattle.check_nodes.specs.declared.scopes.Sight.{Sight}

-- ---- one declaration more

pub last_forgotten : (name : List ℕ) (means : Sight) (blocks : Blocks)
    → without 1 (with_name name means blocks) ≡ blocks
last_forgotten name means blocks =
    let here : Block = blocks.here in
    let one : List (List ℕ × Sight) = (name, means) ∷ [] in
    let fewer : take (length (here ++ one) - 1) (here ++ one) ≡ here =
    grind (arith, common_steps) in
    ap (λ (block : Block). record blocks { here = block }) fewer

pub declared_one : (name : List ℕ) (means : Sight) (old now : Blocks)
    → now ≡ with_name name means old → without 1 now ≡ old
declared_one name means old now e =
    ap (λ (blocks : Blocks). without 1 blocks) e ∙ last_forgotten name means old

pub declared_scope : (name : List ℕ) (means : Sight) (old now : Blocks)
    → now ≡ with_name name means old
    → scope_view now ≡ with_entries (scope_view old) (entry_view (name, means) ∷ [])
declared_scope name means old now e =
    ap scope_view e ∙ name_viewed name means old

pub ruleset declared = (declared_one, declared_scope)

-- the blocks around stay
pub outer_stays : (old now : Blocks) → without 1 now ≡ old → now.outer ≡ old.outer
outer_stays old now e = ap (λ (blocks : Blocks). blocks.outer) e

-- ---- what doesn't stand

-- an array that doesn't stand is unknown
pub unknown_array : (i tag : ℕ) (constant : Bool) (w : Verdict Reach) (fault : PartFault)
    → FailsPart w fault → fault ≢ Memory → array_param_means i tag constant w ≡ Unknown
unknown_array i tag constant (Breaks found) fault h ne = refl
unknown_array i tag constant (Stands it) (Source kind place) h ne =
    let k : h.cause.0 < 0 = h.cause.1 in absurd (omega (arith, k))
unknown_array i tag constant (Stands it) Fallen h ne = absurd (cc h.cause)
unknown_array i tag constant (Stands it) Memory h ne = absurd (ne refl)

-- a head that doesn't stand
pub head_falls : (w : Verdict Headed) (fault : PartFault)
    → FailsPart w fault → fault ≢ Memory → head_of w ≡ None
head_falls (Breaks found) fault h ne = refl
head_falls (Stands it) (Source kind place) h ne =
    let k : h.cause.0 < 0 = h.cause.1 in absurd (omega (arith, k))
head_falls (Stands it) Fallen h ne = absurd (cc h.cause)
head_falls (Stands it) Memory h ne = absurd (ne refl)
