-- A part stands behind as many objects as those before it have literals.
use Rattle.std.proofs.Common.{◌≡◌, ◌+◌, ℕ, List, map, refl, arith, subst, Bool, Vec}
use Rattle.std.proofs.Common.{Global}
use Rattle.std.specs.Prelude.{Result}
use Rattle.pawn_tree.specs.Expressions as tree
use Rattle.pawn_tree.specs.Expressions.{args, links}
use Rattle.pawn_tree.specs.View.{arg_view, expr_view, link_view}
use Rattle.pawn_tree.proofs.ViewLaws.{call_view, chain_view}
use Rattle.std.specs.declared.boxed.Box.{Box}
use Rattle.pawn_tree.specs.declared.name.At.{At}
use Rattle.pawn_tree.specs.declared.expression.Expr as held_expr
use Rattle.pawn_tree.specs.declared.expression.Arg as held_arg
use Rattle.pawn_tree.specs.declared.expression.Link as held_link
use Rattle.pawn_token.specs.declared.sign.Sign.{Sign}
use Rattle.names_rules.specs.Verdict.{after}
use Rattle.types_rules.specs.Around.{Around}
use Rattle.types_rules.specs.Chains.{Compared, link_rule}
use Rattle.types_rules.specs.Scope.{Scope}
use Rattle.types_rules.specs.Filling.{Offer}
use Rattle.types_rules.specs.Expressions.{expr, chain, linked, offer, offers}
use Rattle.types_rules.specs.Literals.{literals, arg_literals, link_literals, literals_of_arg}
use Rattle.types_rules.specs.Literals.{literals_of_link}
use Rattle.check_nodes.specs.declared.fault.PartFault.{PartFault}
use Rattle.check_nodes.specs.PartAnswers.{PartAnswers, Judged}
use Rattle.check_nodes.specs.declared.typed.Typed as held
use Rattle.check_nodes.specs.declared.chains.Compared as held_compared
use Rattle.check_nodes.specs.Compared.{compared_view}
use Rattle.check_calls.specs.declared.filling.Offer as held_offer
use Rattle.check_calls.specs.FillingView.{offer_view}
use Rattle.check_expressions.specs.BoxedView.{boxed_view}
use Rattle.check_expressions.specs.Links.{operand_in, sign_in}
use Rattle.check_expressions.proofs.PairLaws.{judged_map}
use Rattle.check_expressions.proofs.CollectLaws.{Collects, Collected}

-- ---- parts one behind another

sum_two : (o m n a b : ℕ) → m ≡ o + a → n ≡ m + b → n ≡ o + (a + b)
sum_two o m n a b p q = omega (arith, p, q)

sum_three : (o m n p a b c : ℕ) → m ≡ o + a → n ≡ m + b → p ≡ n + c → p ≡ o + (a + (b + c))
sum_three o m n p a b c q r s = omega (arith, q, r, s)

-- behind two parts
pub counts_two : {X Y : Type 0} (x : Result X PartFault) (y : Result Y PartFault) (o m n a b : ℕ)
    → Judged x (m ≡ o + a) → Judged y (n ≡ m + b) → Judged x (Judged y (n ≡ o + (a + b)))
counts_two x y o m n a b h k =
    judged_map x (λ (p : m ≡ o + a). judged_map y (λ (q : n ≡ m + b). sum_two o m n a b p q) k) h

-- behind three
pub counts_three : {X Y Z : Type 0} (x : Result X PartFault) (y : Result Y PartFault)
    (z : Result Z PartFault) (o m n p a b c : ℕ)
    → Judged x (m ≡ o + a) → Judged y (n ≡ m + b) → Judged z (p ≡ n + c)
    → Judged x (Judged y (Judged z (p ≡ o + (a + (b + c)))))
counts_three x y z o m n p a b c h k l =
    judged_map x (λ (q : m ≡ o + a). judged_map y
    (λ (r : n ≡ m + b). judged_map z (λ (s : p ≡ n + c). sum_three o m n p a b c q r s) l) k) h

-- the links that are seen
abbrev pub links_seen : Vec held_compared.Compared Global → List Compared
links_seen all = map compared_view all.items

-- and the offers
abbrev pub offers_seen : Vec held_offer.Offer Global → List Offer
offers_seen all = map offer_view all.items

module _ (cx : Around) (scope : Scope) where
  -- an expression behind another part
  pub second_at : {X : Type 0} (x : Result X PartFault) (y : Result (Box held.Typed Global) PartFault)
      (e : tree.Expr) (m n : ℕ)
      → Judged x (m ≡ n) → PartAnswers boxed_view (expr cx scope m e) y
      → Judged x (PartAnswers boxed_view (expr cx scope n e) y)
  second_at x y e m n h k =
      judged_map x (λ (p : m ≡ n). subst
      (λ (count : ℕ). PartAnswers boxed_view (expr cx scope count e) y) p k) h

  -- behind two others
  pub third_at : {X Y : Type 0} (x : Result X PartFault) (y : Result Y PartFault)
      (z : Result (Box held.Typed Global) PartFault) (e : tree.Expr) (o m n a b : ℕ)
      → Judged x (m ≡ o + a) → Judged y (n ≡ m + b) → PartAnswers boxed_view (expr cx scope n e) z
      → Judged x (Judged y (PartAnswers boxed_view (expr cx scope (o + (a + b)) e) z))
  third_at x y z e o m n a b h k l =
      judged_map x (λ (p : m ≡ o + a). judged_map y
      (λ (q : n ≡ m + b). subst (λ (count : ℕ). PartAnswers boxed_view
      (expr cx scope count e) z) (sum_two o m n a b p q) l) k) h

  -- ---- lists

  -- links behind another part
  pub links_at : {X : Type 0} (x : Result X PartFault)
      (y : Result (Vec held_compared.Compared Global) PartFault) (row : tree.Links) (m n : ℕ)
      → Judged x (m ≡ n) → PartAnswers links_seen (chain cx scope m row) y
      → Judged x (PartAnswers links_seen (chain cx scope n row) y)
  links_at x y row m n h k =
      judged_map x (λ (p : m ≡ n). subst
      (λ (count : ℕ). PartAnswers links_seen (chain cx scope count row) y) p k) h

  pub links_collect : Collects (linked cx scope) literals_of_link
      (λ before xs. chain cx scope before (links xs)) (λ xs. link_literals (links xs))
  links_collect = record {
    none = λ before. refl;
    more = λ before x xs. refl;
    count_none = refl;
    count_more = λ x xs. refl;
  }

  pub offers_collect : Collects (offer cx scope) literals_of_arg
      (λ before xs. offers cx scope before (args xs)) (λ xs. arg_literals (args xs))
  offers_collect = record {
    none = λ before. refl;
    more = λ before x xs. refl;
    count_none = refl;
    count_more = λ x xs. refl;
  }

  -- so many links are judged, with so many objects before the next one
  abbrev pub LinksJudged : ℕ → List held_link.Link → ℕ → ℕ
      → Result (Vec held_compared.Compared Global) PartFault → Type 0
  LinksJudged = λ begin list i objects done.
      Collected link_view (linked cx scope) literals_of_link (λ n xs. chain cx scope n (links xs))
      (λ xs. link_literals (links xs)) links_collect links_seen compared_view begin list i
      objects done

  -- and so many arguments
  abbrev pub OffersJudged : ℕ → List held_arg.Arg → ℕ → ℕ
      → Result (Vec held_offer.Offer Global) PartFault → Type 0
  OffersJudged = λ begin list i objects done.
      Collected arg_view (offer cx scope) literals_of_arg (λ n xs. offers cx scope n (args xs))
      (λ xs. arg_literals (args xs)) offers_collect offers_seen offer_view begin list i objects done

-- ---- nodes that hold lists

pub chain_is : (e inner : held_expr.Expr) (at : At) (box : Box held_expr.Expr Global)
    (list : List held_link.Link)
    → e ≡ held_expr.Chain at box list → inner ≡ box.value
    → expr_view e ≡ tree.Chain at (expr_view inner) (links (map link_view list))
chain_is e inner at box list p q = rw (p, q) (chain_view at box list)

pub call_is : (e : held_expr.Expr) (at : At) (name : List ℕ) (list : List held_arg.Arg)
    (bare : Bool)
    → e ≡ held_expr.Call at name list bare
    → expr_view e ≡ tree.Call at name (args (map arg_view list)) bare
call_is e at name list bare p = rw p (call_view at name list bare)

-- a link by its sign and its operand
pub linked_is : (cx : Around) (scope : Scope) (before : ℕ) (it : tree.Link) (sign : Sign)
    → sign ≡ sign_in it
    → linked cx scope before it ≡ after (expr cx scope before (operand_in it))
    (λ x. link_rule x.at sign x)
linked_is cx scope before (tree.Compare s e) sign p = rw p refl

pub link_literals_are : (it : tree.Link) → literals_of_link it ≡ literals (operand_in it)
link_literals_are (tree.Compare s e) = refl
