-- Only a chain of one link has the tag that its operator gives.
use Rattle.std.proofs.Common.{◌≡◌, ◌≢◌, ℕ, List, [], ◌∷◌, length, get_or, map, refl, sym, ap, arith}
use Rattle.types_rules.specs.Around.{Around}
use Rattle.types_rules.specs.Operators.{bool_tag}
use Rattle.types_rules.specs.Chains.{chain_tag, link_tag, link_choice}
use Rattle.check_nodes.specs.declared.chains.Compared as held
use Rattle.check_nodes.specs.Compared.{compared_view}

pub tag_of_one : (cx : Around) (left : ℕ) (links : List held.Compared) (only : held.Compared)
    → length links ≡ 1 → only ≡ get_or links 0 only
    → chain_tag cx left (map compared_view links)
    ≡ link_tag cx (link_choice cx left (compared_view only))
tag_of_one cx left [] only one e = absurd (omega (arith, one))
tag_of_one cx left (link ∷ []) only one e =
    ap (λ it. link_tag cx (link_choice cx left (compared_view it))) (sym e)
tag_of_one cx left (link ∷ second ∷ more) only one e = absurd (omega (arith, one))

pub tag_of_others : (cx : Around) (left : ℕ) (links : List held.Compared) → length links ≢ 1
    → chain_tag cx left (map compared_view links) ≡ bool_tag
tag_of_others cx left [] others = refl
tag_of_others cx left (link ∷ []) others = absurd (others refl)
tag_of_others cx left (link ∷ second ∷ more) others = refl
