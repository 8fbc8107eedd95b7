-- The parser gives exactly the tree of 1,024 levels at most that spells the tokens, and there is at
-- most one tree that does, of any height.
use Rattle.std.proofs.Common.{◌≡◌, ◌+◌, ◌≤◌, List, Option, Some, None, sym, ◌∙◌, ap, subst, arith}
use Rattle.std.proofs.Common.{refl}
use Rattle.pawn_lex.specs.declared.token.Token.{Token}
use Rattle.pawn_tree.specs.Declarations.{Tree}
use Rattle.pawn_tree.specs.Height.{depth}
use Rattle.tree_rules.specs.Spells.{Spells}
use Rattle.tree_rules.specs.Readers.{Got}
use Rattle.tree_rules.specs.OneTree.{AtMostOneTree}
use Rattle.tree_rules.specs.UnitGives.{Gives, UnitIsSpelled, UnitIsComplete}
use Rattle.tree_rules.specs.ReadDeclarations.{unit}
use Rattle.tree_rules.proofs.Steps.{none_some, some_inj}
use Rattle.tree_rules.proofs.SoundDeclarations.{unit_sound}
use Rattle.tree_rules.proofs.CompleteDeclarations.{unit_complete}
use Rattle.tree_rules.proofs.Height.{spells_height}

pub unit_spells : (ts : List Token) (y : Got Tree) → unit ts ≡ Some y → Spells ts y.tree
unit_spells ts y e = let r = unit_sound ts y e in record { height = y.height; decls = r.spells }

pub unit_low : (ts : List Token) (y : Got Tree) → unit ts ≡ Some y → depth y.tree ≤ 1024
unfolding unit_spells
unit_low ts y e =
    let r = unit_sound ts y e in let low = r.low in
    let is = spells_height (unit_spells ts y e) in subst (λ n. n ≤ 1024) is low

pub unit_is : (ts : List Token) (tree : Tree) → Spells ts tree → depth tree ≤ 1024 → (y : Got Tree)
    → unit ts ≡ Some y → y.tree ≡ tree
unit_is ts tree spells low y e =
    let l = subst (λ n. n ≤ 1024) (sym (spells_height spells)) low in
    ap (λ z. z.tree) (some_inj _ _ (sym e ∙ unit_complete ts 1023 tree spells l))

pub unit_none : (ts : List Token) (tree : Tree) → Spells ts tree → depth tree ≤ 1024
    → unit ts ≡ None → ⊥
unit_none ts tree spells low e =
    let l = subst (λ n. n ≤ 1024) (sym (spells_height spells)) low in
    none_some (sym e ∙ unit_complete ts 1023 tree spells l)

pub unit_is_spelled : UnitIsSpelled
unit_is_spelled ts y e = (unit_spells ts y e, unit_low ts y e)

gives : (ts : List Token) (tree : Tree) (o : Option (Got Tree)) → unit ts ≡ o → Spells ts tree
    → depth tree ≤ 1024 → Gives tree o
gives ts tree None e spells low = unit_none ts tree spells low e
gives ts tree (Some y) e spells low = unit_is ts tree spells low y e

pub unit_is_complete : UnitIsComplete
unit_is_complete ts tree spells low = gives ts tree (unit ts) refl spells low

pub one_tree : AtMostOneTree
one_tree ts tree other u v =
    let n = u.height + v.height in
    ap (λ z. z.tree) (some_inj _ _
    (sym (unit_complete ts n tree u (omega arith)) ∙ unit_complete ts n other v (omega arith)))
