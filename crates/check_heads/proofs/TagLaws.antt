-- The tags of a parameter.
use Rattle.std.proofs.Common.{◌≡◌, ◌<◌, ◌≤◌, ℕ, List, [], ◌∷◌, length, map, refl, arith}
use Rattle.pawn_tree.specs.declared.name.Name.{Name}
use Rattle.pawn_tags.specs.Tags.{untagged}
use Rattle.types_rules.specs.Around.{Around, tag_number}
use Rattle.types_rules.specs.Params.{tag_numbers}

pub no_tag : (cx : Around) (tags : List Name) → length tags ≡ 0
    → tag_numbers cx tags ≡ untagged ∷ []
no_tag cx [] e = refl
no_tag cx (tag ∷ tags) e = absurd (omega (arith, e))

pub some_tags : (cx : Around) (tags : List Name) → 1 ≤ length tags
    → tag_numbers cx tags ≡ map (λ (it : Name). tag_number cx it.bytes) tags
some_tags cx [] le = absurd (omega (arith, le))
some_tags cx (tag ∷ tags) le = refl
