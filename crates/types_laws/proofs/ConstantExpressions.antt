-- A constant expression stands for the same whatever heads calls have.
use Rattle.std.proofs.Common.{◌≡◌, inl, ◌+◌, ℕ, List, [], ◌∷◌, refl, subst, ◌∙◌}
use Rattle.pawn_tree.specs.declared.name.At.{At}
use Rattle.pawn_tree.specs.declared.expression.TagofOperand.{TagofOperand}
use Rattle.pawn_tree.specs.declared.expression.TagofOperand.TheVariants as tagof
use Rattle.pawn_tree.specs.Expressions as tree
use Rattle.pawn_tags.specs.Overloads.{Overloads}
use Rattle.names_rules.specs.Verdict.{Verdict, Stands}
use Rattle.names_rules.specs.Signs.{Link, Compares, No_link, between_of, link_of}
use Rattle.types_rules.specs.Rule.{pair}
use Rattle.types_rules.specs.Typed.{Typed}
use Rattle.types_rules.specs.Around.{Around, Callable}
use Rattle.types_rules.specs.Scope.{Scope, found}
use Rattle.types_rules.specs.NamesAndNumbers.{tagof_rule}
use Rattle.types_rules.specs.Operators.{paren_rule, tagged_rule}
use Rattle.types_rules.specs.Chains.{Compared, compared, link_rule}
use Rattle.types_rules.proofs.VerdictLaws.{Holds, stands_itself, breaks_holds, holds_after}
use Rattle.types_rules.proofs.VerdictLaws.{holds_both, holds_all}
use Rattle.types_rules.specs.Literals.{literals, literals_of_link}
use Rattle.types_rules.specs.Calls.{callee_rule}
use Rattle.types_rules.specs.Expressions.{expr, chain, linked, offers}
use Rattle.types_laws.proofs.Facts.{holds_as, holds_and}
use Rattle.types_laws.proofs.ConstantRules.{itself, after_is, both_is, HasValue, IsConst}
use Rattle.types_laws.proofs.ConstantRules.{NeverConst, HaveValues, first, second, index_never}
use Rattle.types_laws.proofs.ConstantRules.{character_never, postfix_never, assign_never}
use Rattle.types_laws.proofs.ConstantRules.{call_never, between_two, prefix_one, choice_three}
use Rattle.types_laws.proofs.ConstantRules.{chain_of}

-- where it is constant it stands by the other verdict too
pub record SameConst (w : Verdict Typed) (x : Typed) : Type 0 where
  pub same : IsConst x → w ≡ Stands x

record BothConst (v w : Verdict Typed) (parts : Typed × Typed) : Type 0 where
  pub first_same : SameConst v parts.0
  pub second_same : SameConst w parts.1

record SameLink (w : Verdict Compared) (link : Compared) : Type 0 where
  pub same : HasValue link.operand.value → w ≡ Stands link

record SameLinks (w : Verdict (List Compared)) (links : List Compared) : Type 0 where
  pub same : HaveValues links → w ≡ Stands links

never_same : (w : Verdict Typed) (x : Typed) → NeverConst x → SameConst w x
never_same w x n = record { same = λ c. absurd (n.never c) }

self : (w : Verdict Typed) → Holds (SameConst w) w
self w = record { of = λ x e. record { same = λ c. e } }

link_by : (at : At) (it : Link) (x : Typed) → Holds (λ link. link.operand ≡ x) (compared at it x)
link_by at No_link x = breaks_holds _ _
link_by at (Compares s user) x = stands_itself _ _ refl

module _ (names : List (List ℕ)) (operators : Overloads) (fs ns fs2 ns2 : List Callable)
    (path : Scope) where
  abbrev A : Around
  A = first names operators fs ns fs2 ns2

  abbrev B : Around
  B = second names operators fs ns fs2 ns2

  tagof_same : (at : At) (operand : TagofOperand)
      → Holds (SameConst (tagof_rule B path at operand)) (tagof_rule A path at operand)
  unfolding tagof_rule
  tagof_same at (tagof.Name name) = self _
  tagof_same at (tagof.Tag name) = self _

  mutual
    pub expr_same : (before : ℕ) (e : tree.Expr)
        → Holds (SameConst (expr B path before e)) (expr A path before e)
    expr_same before (tree.Number at v) = self _
    expr_same before (tree.Text at bytes packed) = self _
    expr_same before (tree.Name at name) = self _
    expr_same before (tree.Paren at e) =
        holds_after (expr_same before e) (λ x p.
        stands_itself _ (paren_rule at x)
        (record { same = λ c. after_is (expr B path before e) _ x (p.same c) }))
    expr_same before (tree.Sizeof at operand) = self _
    expr_same before (tree.Tagof at operand) = tagof_same at operand
    expr_same before (tree.Prefix at s e) =
        holds_after (expr_same before e) (λ x p.
        holds_as (prefix_one names operators fs ns fs2 ns2 at s x) (λ z q.
        record {
          same = λ c. after_is (expr B path before e) _ x (p.same (inl (q.back c)))
              ∙ q.same c;
        }))
    expr_same before (tree.Tagged at tag e) =
        holds_after (expr_same before e) (λ x p.
        stands_itself _ (tagged_rule A at tag x)
        (record { same = λ c. after_is (expr B path before e) _ x (p.same c) }))
    expr_same before (tree.Postfix at s e) =
        holds_after (expr_same before e) (λ x p.
        holds_as (postfix_never names operators fs ns fs2 ns2 at s x) (λ z n. never_same _ z n))
    expr_same before (tree.Index at a i) =
        holds_both (expr_same before a) (expr_same (before + literals a) i) (λ x y p q.
        holds_as (index_never names operators fs ns fs2 ns2 at x y) (λ z n. never_same _ z n))
    expr_same before (tree.Character at a i) =
        holds_both (expr_same before a) (expr_same (before + literals a) i) (λ x y p q.
        holds_as (character_never names operators fs ns fs2 ns2 at x y) (λ z n. never_same _ z n))
    expr_same before (tree.Binary at s l r) =
        holds_both (expr_same before l) (expr_same (before + literals l) r) (λ x y p q.
        holds_as (between_two names operators fs ns fs2 ns2 at (between_of s) x y) (λ z t.
        record {
          same = λ c.
              let k = t.back c in
              both_is (expr B path before l) (expr B path (before + literals l) r) _ x y
              (p.same (inl k.0)) (q.same (inl k.1)) ∙ t.same c;
        }))
    expr_same before (tree.Chain at e links) =
        holds_both (expr_same before e) (chain_same (before + literals e) links) (λ x all p q.
        holds_as (chain_of names operators fs ns fs2 ns2 at x all) (λ z t.
        record {
          same = λ c.
              let k = t.back c in
              both_is (expr B path before e) (chain B path (before + literals e) links) _ x all
              (p.same (inl k.0)) (q.same k.1) ∙ t.same c;
        }))
    expr_same before (tree.Choice at c a b) =
        holds_both (expr_same before c)
        (holds_both (expr_same (before + literals c) a)
        (expr_same (before + (literals c + literals a)) b)
        (λ y u q r. stands_itself
        (BothConst (expr B path (before + literals c) a)
        (expr B path (before + (literals c + literals a)) b)) (y, u)
        (record { first_same = q; second_same = r })))
        (λ x parts p q.
        holds_as (choice_three names operators fs ns fs2 ns2 at x parts.0 parts.1) (λ z t.
        record {
          same = λ k.
              let b3 = t.back k in
              both_is (expr B path before c)
              (pair (expr B path (before + literals c) a)
              (expr B path (before + (literals c + literals a)) b)) _ x parts
              (p.same (inl b3.0))
              (both_is (expr B path (before + literals c) a)
              (expr B path (before + (literals c + literals a)) b) _ parts.0 parts.1
              (q.first_same.same (inl b3.1)) (q.second_same.same (inl b3.2)))
              ∙ t.same k;
        }))
    expr_same before (tree.Assign at s l r) =
        holds_both (expr_same before l) (expr_same (before + literals l) r) (λ x y p q.
        holds_as (assign_never names operators fs ns fs2 ns2 at s x y) (λ z n. never_same _ z n))
    expr_same before (tree.Call at name args bare) =
        holds_after (holds_all (offers A path before args)) (λ offered t.
        holds_after (holds_all (callee_rule A at (found path name))) (λ callee u.
        holds_as (call_never names operators fs ns fs2 ns2 at callee offered)
        (λ z n. never_same _ z n)))

    chain_same : (before : ℕ) (links : tree.Links)
        → Holds (SameLinks (chain B path before links)) (chain A path before links)
    chain_same before tree.no_links = stands_itself _ [] (record { same = λ v. refl })
    chain_same before (tree.then_link link more) =
        holds_both (linked_same before link) (chain_same (before + literals_of_link link) more)
        (λ x rest p q.
        stands_itself _ (x ∷ rest) (record {
          same = λ v.
              both_is (linked B path before link)
              (chain B path (before + literals_of_link link) more)
              _ x rest (p.same v.0) (q.same v.1);
        }))

    linked_same : (before : ℕ) (link : tree.Link)
        → Holds (SameLink (linked B path before link)) (linked A path before link)
    linked_same before (tree.Compare s e) =
        holds_after (expr_same before e) (λ x p.
        holds_as (holds_and (itself (link_rule x.at s x)) (link_by x.at (link_of s) x)) (λ z q.
        record {
          same = λ v.
              after_is (expr B path before e) _ x
              (p.same (inl (subst (λ (y : Typed). HasValue y.value) q.1 v))) ∙ q.0;
        }))
