-- The first parameter with a name stands at one place, as code holds the parameters and as rules
-- see them.
use Rattle.std.proofs.Common.{◌≡◌, ◌+◌, ℕ, suc, List, [], ◌∷◌, not, cond, nat_lt, length, None}
use Rattle.std.proofs.Common.{Some, map, position, refl, sym, ap, ap₂}
use Rattle.std.specs.List.{position_or_len}
use Rattle.std.specs.Str.{bytes_eq}
use Rattle.types_rules.specs.Around.{Param}
use Rattle.check_nodes.specs.declared.context.Param as held
use Rattle.check_nodes.specs.ContextView.{param_view}

passed : (name : List ℕ) (params : List held.Param)
    → position_or_len (λ (p : held.Param). bytes_eq p.name name) params
    ≡ position_or_len (λ (p : Param). bytes_eq p.name name) (map param_view params)
passed name [] = refl
passed name (p ∷ params) =
    ap (λ n. cond (not (bytes_eq p.name name)) (1 + n) 0) (passed name params)

sized : (params : List held.Param) → length (map param_view params) ≡ length params
sized [] = refl
sized (p ∷ params) = ap suc (sized params)

pub place_is : (name : List ℕ) (params : List held.Param)
    → position (λ (p : held.Param). bytes_eq p.name name) params
    ≡ position (λ (p : Param). bytes_eq p.name name) (map param_view params)
place_is name params =
    ap₂ (λ n size. cond (nat_lt n size) (Some n) None) (passed name params) (sym (sized params))
