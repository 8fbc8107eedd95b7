-- An expression that stands is valid, by recursion on its tree.
use Rattle.std.proofs.Common.{◌≡◌, ◌+◌, ℕ, List, [], ◌∷◌, refl}
use Rattle.pawn_tree.specs.Expressions as tree
use Rattle.pawn_meaning.specs.Scope as program
use Rattle.names_rules.specs.Signs.{between_of, link_of}
use Rattle.types_rules.specs.Typed.{Typed}
use Rattle.types_rules.specs.Around.{Around}
use Rattle.types_rules.specs.Scope.{Scope, found}
use Rattle.types_rules.specs.Chains.{Compared}
use Rattle.types_rules.proofs.VerdictLaws.{Holds, stands_itself, holds_after, holds_both}
use Rattle.types_rules.specs.Filling.{Offer, Skipped}
use Rattle.types_rules.specs.Literals.{literals, literals_of_arg, literals_of_link}
use Rattle.types_rules.specs.Expressions.{expr, chain, linked, offers, offer}
use Rattle.types_laws.specs.Meant.{KnowsPath}
use Rattle.types_laws.specs.Known.{KnowsAround}
use Rattle.types_laws.specs.Placed.{IsPlaced, ArePlacedLinks, IsPlacedLink, ArePlacedArgs}
use Rattle.types_laws.specs.Placed.{IsPlacedArg}
use Rattle.types_laws.specs.ValidExpressions.{ExpressionsAreValid}
use Rattle.types_laws.proofs.BasicLaws.{Sound, stands, sizeof_sound, tagof_sound, text_sound}
use Rattle.types_laws.proofs.BasicLaws.{name_sound, index_sound, character_sound}
use Rattle.types_laws.proofs.OperatorLaws.{between_binary, between_sound, prefix_sound}
use Rattle.types_laws.proofs.OperatorLaws.{postfix_sound}
use Rattle.types_laws.proofs.AssignmentLaws.{assign_sound}
use Rattle.types_laws.proofs.ChainLaws.{SoundLink, AreSoundLinks, link_binary, compared_sound}
use Rattle.types_laws.proofs.ChainLaws.{chain_sound, choice_sound}
use Rattle.types_laws.proofs.FillingLaws.{IsSoundOffer, AreSoundOffers}
use Rattle.types_laws.proofs.CallLaws.{callee_sound, call_sound}

-- both choices
record BothSound (scope : program.Scope) (parts : Typed × Typed) : Type 0 where
  pub first : Sound scope parts.0
  pub second : Sound scope parts.1

record SoundChain (scope : program.Scope) (links : tree.Links) (all : List Compared) : Type 0 where
  pub each : AreSoundLinks scope all
  pub some : ¬ (links ≡ tree.no_links) → ¬ (all ≡ [])

record SoundOffer (scope : program.Scope) (it : Offer) : Type 0 where
  pub offered : IsSoundOffer scope it

record SoundOffers (scope : program.Scope) (all : List Offer) : Type 0 where
  pub each : AreSoundOffers scope all

module _ (scope : program.Scope) (cx : Around) (path : Scope) (known : KnowsAround scope.program cx)
    (knows : KnowsPath scope path) where
  mutual
    pub expr_sound : (before : ℕ) (e : tree.Expr) → IsPlaced scope.program cx path before e
        → Holds (Sound scope) (expr cx path before e)
    expr_sound before (tree.Number at v) h = stands scope _ h
    expr_sound before (tree.Text at bytes packed) h = text_sound scope before at bytes packed h
    expr_sound before (tree.Name at name) h =
        name_sound scope at (found path name) (knows.meant name)
    expr_sound before (tree.Paren at e) h =
        holds_after (expr_sound before e h) (λ x p. stands scope _ p.form)
    expr_sound before (tree.Sizeof at operand) h = sizeof_sound scope path at operand knows h
    expr_sound before (tree.Tagof at operand) h = tagof_sound scope cx path at operand
    expr_sound before (tree.Prefix at s e) h =
        holds_after (expr_sound before e h) (λ x p. prefix_sound scope cx known at s x p)
    expr_sound before (tree.Tagged at tag e) h =
        holds_after (expr_sound before e h) (λ x p. stands scope _ p.form)
    expr_sound before (tree.Postfix at s e) h =
        holds_after (expr_sound before e h) (λ x p. postfix_sound scope cx known at s x p)
    expr_sound before (tree.Index at a i) h =
        holds_both (expr_sound before a h.0) (expr_sound (before + literals a) i h.1)
        (λ x y p q. index_sound scope at x y p q)
    expr_sound before (tree.Character at a i) h =
        holds_both (expr_sound before a h.0) (expr_sound (before + literals a) i h.1)
        (λ x y p q. character_sound scope at x y p q)
    expr_sound before (tree.Binary at s l r) h =
        holds_both (expr_sound before l h.0) (expr_sound (before + literals l) r h.1)
        (λ x y p q. between_sound scope cx known at (between_of s) x y (between_binary s) p q)
    expr_sound before (tree.Chain at e links) h =
        holds_both (expr_sound before e h.1) (chain_all (before + literals e) links h.2)
        (λ x all p q. chain_sound scope cx known at x all (q.some h.0) p q.each)
    expr_sound before (tree.Choice at c a b) h =
        holds_both (expr_sound before c h.0)
        (holds_both (expr_sound (before + literals c) a h.1)
        (expr_sound (before + (literals c + literals a)) b h.2)
        (λ y z q r. stands_itself (BothSound scope) (y, z) (record { first = q; second = r })))
        (λ x parts p q. choice_sound scope cx at x parts.0 parts.1 p q.first q.second)
    expr_sound before (tree.Assign at s l r) h =
        holds_both (expr_sound before l h.0) (expr_sound (before + literals l) r h.1)
        (λ x y p q. assign_sound scope cx known at s x y p q)
    expr_sound before (tree.Call at name args bare) h =
        holds_after (offers_all before args h.1) (λ offered p.
        holds_after (callee_sound scope cx known at path name h.0) (λ callee c.
        call_sound scope cx known at callee offered c p.each))

    chain_all : (before : ℕ) (links : tree.Links)
        → ArePlacedLinks scope.program cx path before links
        → Holds (SoundChain scope links) (chain cx path before links)
    chain_all before tree.no_links h =
        stands_itself _ [] (record { each = tt; some = λ n same. n refl })
    chain_all before (tree.then_link link more) h =
        holds_both (linked_sound before link h.0)
        (chain_all (before + literals_of_link link) more h.1) (λ x rest p q.
        stands_itself _ (x ∷ rest)
        (record { each = (p, q.each); some = λ n same. let no : ⊥ = cc in no }))

    linked_sound : (before : ℕ) (link : tree.Link) → IsPlacedLink scope.program cx path before link
        → Holds (SoundLink scope) (linked cx path before link)
    linked_sound before (tree.Compare s e) h =
        holds_after (expr_sound before e h) (λ x p.
        compared_sound scope x.at (link_of s) x (link_binary s) p)

    offers_all : (before : ℕ) (args : tree.Args) → ArePlacedArgs scope.program cx path before args
        → Holds (SoundOffers scope) (offers cx path before args)
    offers_all before tree.no_args h = stands_itself _ [] (record { each = tt })
    offers_all before (tree.then_arg arg more) h =
        holds_both (offer_sound before arg h.0)
        (offers_all (before + literals_of_arg arg) more h.1) (λ x rest p q.
        stands_itself _ (x ∷ rest) (record { each = (p.offered, q.each) }))

    offer_sound : (before : ℕ) (arg : tree.Arg) → IsPlacedArg scope.program cx path before arg
        → Holds (SoundOffer scope) (offer cx path before arg)
    offer_sound before (tree.Value e) h =
        holds_after (expr_sound before e h) (λ x p. stands_itself _ _ (record { offered = p }))
    offer_sound before (tree.Default at) h = stands_itself _ Skipped (record { offered = tt })
    offer_sound before (tree.Named name e) h =
        holds_after (expr_sound before e h) (λ x p. stands_itself _ _ (record { offered = p }))

pub expressions_valid : ExpressionsAreValid
expressions_valid scope cx path before e x known knows placed h =
    ((expr_sound scope cx path known knows before e placed).of x h).form
