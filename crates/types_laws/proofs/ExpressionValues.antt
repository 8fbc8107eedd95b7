-- An expression that stands is plain, by recursion on its tree.
use Rattle.std.proofs.Common.{◌≡◌, ◌+◌, ℕ, List, [], ◌∷◌, ◌++◌, Bool, true, false, Option, None}
use Rattle.std.proofs.Common.{Some, refl, sym, ap, ap₂, ◌∙◌, subst, arith}
use Rattle.std.specs.Prelude.{flat_map, slice_get}
use Rattle.std.proofs.lemmas.List.{append_assoc, append-nil}
use Rattle.pawn_tree.specs.declared.name.At.{At}
use Rattle.pawn_tree.specs.Expressions as tree
use Rattle.pawn_meaning.specs.Program.{StaticObject}
use Rattle.names_rules.specs.Verdict.{Verdict}
use Rattle.names_rules.specs.Signs.{Link, Compares, No_link, between_of, link_of}
use Rattle.types_rules.specs.Rule.{thread}
use Rattle.types_rules.specs.Typed.{Typed}
use Rattle.types_rules.specs.Around.{Around, Callable, Head, Param}
use Rattle.types_rules.specs.Scope.{Meaning, Constant, Variable, Array, Function, Entering, Taken}
use Rattle.types_rules.specs.Scope.{Unknown, Scope, found}
use Rattle.types_rules.specs.Scope as means
use Rattle.types_rules.specs.Chains.{Compared, compared}
use Rattle.types_rules.proofs.VerdictLaws.{Holds, stands_itself, breaks_holds, holds_after}
use Rattle.types_rules.proofs.VerdictLaws.{holds_both, holds_all}
use Rattle.types_rules.specs.Given.{given_rule}
use Rattle.types_rules.specs.Filling.{Offer, Positional, Skipped, Filling, Argument, Default}
use Rattle.types_rules.specs.Filling.{in_slot, nothing_filled, put, for_param, for_rest, positional}
use Rattle.types_rules.specs.Filling.{skipped_rest, skipped, named_param, named, number_of_param}
use Rattle.types_rules.specs.Filling.{offer_step}
use Rattle.types_rules.specs.Filling as filling
use Rattle.types_rules.specs.Defaults.{args_of}
use Rattle.types_rules.specs.Calls.{Callee, callable, callee_rule, args_in, judged, offer_literals}
use Rattle.types_rules.specs.Calls.{call_by, call_rule}
use Rattle.types_rules.specs.Literals.{literals, literals_of_arg, literals_of_link}
use Rattle.types_rules.specs.Expressions.{expr, chain, linked, offers, offer}
use Rattle.types_laws.specs.Objects.{Each, IsGoodObject}
use Rattle.types_laws.specs.Written.{IsAnyName, IsWritten, AreWrittenLinks, IsWrittenLink}
use Rattle.types_laws.specs.Written.{AreWrittenArgs, IsWrittenArg}
use Rattle.types_laws.specs.Texts.{texts, link_texts, texts_of_link, arg_texts, texts_of_arg}
use Rattle.types_laws.specs.Plain.{IsTag, IsPlainPath, HasTags}
use Rattle.types_laws.specs.PlainExpressions.{ExpressionsArePlain}
use Rattle.types_laws.proofs.Facts.{each_append}
use Rattle.types_laws.proofs.RuleValues.{Plain, one, tag_number_small, small_tag, text_plain}
use Rattle.types_laws.proofs.RuleValues.{number_plain, name_plain, sizeof_plain, tagof_plain}
use Rattle.types_laws.proofs.RuleValues.{between_plain, index_plain, character_plain}
use Rattle.types_laws.proofs.RuleValues.{assign_plain, prefix_plain, postfix_plain}
use Rattle.types_laws.proofs.RuleValues.{choice_plain, chain_plain}

-- ---- calls

record OfferPlain (ls : List StaticObject) (it : Offer) : Type 0 where
  pub literals : offer_literals it ≡ ls
  pub objects : Each IsGoodObject (offer_literals it)

record OffersPlain (ls : List StaticObject) (all : List Offer) : Type 0 where
  pub literals : flat_map offer_literals all ≡ ls
  pub objects : Each IsGoodObject (flat_map offer_literals all)

-- more literals than before
record More (done : Filling) (ls : List StaticObject) (next : Filling) : Type 0 where
  pub literals : next.literals ≡ done.literals ++ ls

module _ (cx : Around) (at : At) (head : Head) where
  for_param_more : (done : Filling) (i : ℕ) (param : Param) (x : Typed) (next : ℕ)
      → Holds (More done x.literals) (for_param cx at head done i param x next)
  for_param_more done i param x next =
      holds_after (holds_all (given_rule cx at param x)) (λ given t.
      holds_after (holds_all (put at i (Argument (in_slot given)) done.slots)) (λ slots u.
      stands_itself _ _ (record { literals = refl })))

  for_rest_more : (done : Filling) (tags : Option (List ℕ)) (x : Typed)
      → Holds (More done x.literals) (for_rest cx at head done tags x)
  for_rest_more done None x = breaks_holds _ _
  for_rest_more done (Some tags) x = stands_itself _ _ (record { literals = refl })

  positional_more : (done : Filling) (param : Option Param) (x : Typed)
      → Holds (More done x.literals) (positional cx at head done param x)
  positional_more done None x = for_rest_more done head.rest x
  positional_more done (Some param) x = for_param_more done done.next param x (done.next + 1)

  skipped_rest_more : (done : Filling) (tags : Option (List ℕ))
      → Holds (More done []) (skipped_rest cx at head tags)
  skipped_rest_more done None = breaks_holds _ _
  skipped_rest_more done (Some tags) = breaks_holds _ _

  skipped_more : (done : Filling) (param : Option Param)
      → Holds (More done []) (skipped cx at head done param)
  skipped_more done None = skipped_rest_more done head.rest
  skipped_more done (Some param) =
      holds_after (holds_all (put at done.next Default done.slots)) (λ slots t.
      stands_itself _ _ (record { literals = sym (append-nil done.literals) }))

  named_param_more : (done : Filling) (i : ℕ) (param : Option Param) (x : Typed)
      → Holds (More done x.literals) (named_param cx at head done i param x)
  named_param_more done i None x = breaks_holds _ _
  named_param_more done i (Some param) x = for_param_more done i param x done.next

  named_more : (done : Filling) (i : Option ℕ) (x : Typed)
      → Holds (More done x.literals) (named cx at head done i x)
  named_more done None x = breaks_holds _ _
  named_more done (Some i) x = named_param_more done i (slice_get head.params i) x

  step_more : (done : Filling) (it : Offer)
      → Holds (More done (offer_literals it)) (offer_step cx at head done it)
  step_more done (Positional x) = positional_more done (slice_get head.params done.next) x
  step_more done Skipped = skipped_more done (slice_get head.params done.next)
  step_more done (filling.Named name x) = named_more done (number_of_param cx at head name) x

  thread_more : (done : Filling) (all : List Offer)
      → Holds (More done (flat_map offer_literals all)) (thread (offer_step cx at head) done all)
  unfolding thread
  thread_more done [] = stands_itself _ done (record { literals = sym (append-nil done.literals) })
  thread_more done (it ∷ more) =
      holds_after (step_more done it) (λ next p. more_of p (thread_more next more))
    where
      more_of : {next : Filling} {w : Verdict Filling} → More done (offer_literals it) next
          → Holds (More next (flat_map offer_literals more)) w
          → Holds (More done (offer_literals it ++ flat_map offer_literals more)) w
      more_of {next = next} {w = w} p h = record {
        of = λ last e.
            record {
              literals = (h.of last e).literals
                  ∙ ap (λ (l : List StaticObject). l ++ flat_map offer_literals more) p.literals
                  ∙ append_assoc done.literals (offer_literals it) (flat_map offer_literals more);
            };
      }

record TaggedCallee (it : Callee) : Type 0 where
  pub tag : IsTag it.tag

module _ (cx : Around) (tags : HasTags cx) (at : At) where
  callable_tagged : (is_native : Bool) (it : Option Callable)
      → ((x : Callable) → it ≡ Some x → IsTag x.tag)
      → Holds TaggedCallee (callable at is_native it)
  callable_tagged is_native None k = breaks_holds _ _
  callable_tagged is_native (Some x) k = stands_itself _ _ (record { tag = k x refl })

  callee_tagged : (it : Option Meaning) → Holds TaggedCallee (callee_rule cx at it)
  callee_tagged None = breaks_holds _ _
  callee_tagged (Some (Constant v tag)) = breaks_holds _ _
  callee_tagged (Some (Variable p tag constant)) = breaks_holds _ _
  callee_tagged (Some (Array a reach tag constant)) = breaks_holds _ _
  callee_tagged (Some (Function f tag)) =
      callable_tagged false (slice_get cx.functions f) (tags.functions f)
  callee_tagged (Some (means.Native n tag)) =
      callable_tagged true (slice_get cx.natives n) (tags.natives n)
  callee_tagged (Some (Entering tag)) = breaks_holds _ _
  callee_tagged (Some Taken) = breaks_holds _ _
  callee_tagged (Some Unknown) = breaks_holds _ _

  judged_plain : (ls : List StaticObject) (callee : Callee) (all : List Offer) (head : Head)
      → TaggedCallee callee → OffersPlain ls all → Holds (Plain ls) (judged cx at callee all head)
  judged_plain ls callee all head c p =
      holds_after (thread_more cx at head (nothing_filled head) all) (λ it q.
      holds_after (holds_all (args_of cx at head.params it.slots head.params it.slots
      (args_in it.rest))) (λ args t.
      stands_itself _ _ (record {
        literals = q.literals ∙ p.literals;
        objects = subst (λ (l : List StaticObject). Each IsGoodObject l) (sym q.literals) p.objects;
        value = tt;
        tag = c.tag;
        text = tt;
      })))

  call_by_plain : (ls : List StaticObject) (callee : Callee) (all : List Offer)
      (head : Option Head) → TaggedCallee callee → OffersPlain ls all
      → Holds (Plain ls) (call_by cx at callee all head)
  call_by_plain ls callee all None c p =
      stands_itself _ _ (record {
        literals = p.literals;
        objects = p.objects;
        value = tt;
        tag = c.tag;
        text = tt;
      })
  call_by_plain ls callee all (Some head) c p = judged_plain ls callee all head c p

  call_plain : (ls : List StaticObject) (callee : Callee) (all : List Offer)
      → TaggedCallee callee → OffersPlain ls all → Holds (Plain ls) (call_rule cx at callee all)
  unfolding call_rule
  call_plain ls callee all c p = call_by_plain ls callee all callee.head c p

-- ---- chains and choices

record LinkPlain (ls : List StaticObject) (it : Compared) : Type 0 where
  pub literals : it.operand.literals ≡ ls
  pub objects : Each IsGoodObject it.operand.literals

record LinksPlain (ls : List StaticObject) (all : List Compared) : Type 0 where
  pub literals : flat_map (λ (it : Compared). it.operand.literals) all ≡ ls
  pub objects : Each IsGoodObject (flat_map (λ (it : Compared). it.operand.literals) all)

compared_plain : (ls : List StaticObject) (at : At) (it : Link) (x : Typed) → Plain ls x
    → Holds (LinkPlain ls) (compared at it x)
compared_plain ls at No_link x p = breaks_holds _ _
compared_plain ls at (Compares s user) x p =
    stands_itself _ _ (record { literals = p.literals; objects = p.objects })

-- both choices
record BothPlain (ms ns : List StaticObject) (parts : Typed × Typed) : Type 0 where
  pub first : Plain ms parts.0
  pub second : Plain ns parts.1

joined : (xs ys ms ns : List StaticObject) → xs ≡ ms → ys ≡ ns → xs ++ ys ≡ ms ++ ns
joined xs ys ms ns p q = ap₂ (λ (l m : List StaticObject). l ++ m) p q

-- ---- all expressions

module _ (Calls : List ℕ → Type 0) (cx : Around) (tags : HasTags cx) (path : Scope)
    (known : IsPlainPath path) where
  mutual
    pub expr_plain : (before : ℕ) (e : tree.Expr) → IsWritten Calls e
        → Holds (Plain (texts e)) (expr cx path before e)
    expr_plain before (tree.Number at v) h = number_plain at v 0 h (small_tag 0 (omega arith))
    expr_plain before (tree.Text at bytes packed) h = text_plain before at bytes packed h
    expr_plain before (tree.Name at name) h = name_plain path known at name
    expr_plain before (tree.Paren at e) h =
        holds_after (expr_plain before e h) (λ x p. one x _ p p.text refl p.value p.tag)
    expr_plain before (tree.Sizeof at operand) h = sizeof_plain path known at operand h
    expr_plain before (tree.Tagof at operand) h = tagof_plain path known cx at operand
    expr_plain before (tree.Prefix at s e) h =
        holds_after (expr_plain before e h) (λ x p. prefix_plain cx tags at (texts e) x p s)
    expr_plain before (tree.Tagged at tag e) h =
        holds_after (expr_plain before e h)
        (λ x p. one x _ p p.text refl p.value (tag_number_small cx tags tag))
    expr_plain before (tree.Postfix at s e) h =
        holds_after (expr_plain before e h) (λ x p. postfix_plain cx tags at (texts e) x p s)
    expr_plain before (tree.Index at a i) h =
        holds_both (expr_plain before a h.0) (expr_plain (before + literals a) i h.1)
        (λ x y p q. index_plain cx tags at (texts a) (texts i) x y p q)
    expr_plain before (tree.Character at a i) h =
        holds_both (expr_plain before a h.0) (expr_plain (before + literals a) i h.1)
        (λ x y p q. character_plain cx tags at (texts a) (texts i) x y p q)
    expr_plain before (tree.Binary at s l r) h =
        holds_both (expr_plain before l h.0) (expr_plain (before + literals l) r h.1)
        (λ x y p q. between_plain cx tags at (texts l) (texts r) x y p q (between_of s))
    expr_plain before (tree.Chain at e links) h =
        holds_both (expr_plain before e h.1) (chain_all (before + literals e) links h.2)
        (λ x all p q. chain_plain cx tags at (texts e) (link_texts links) x all p q.literals
        q.objects)
    expr_plain before (tree.Choice at c a b) h =
        holds_both (expr_plain before c h.0)
        (holds_both (expr_plain (before + literals c) a h.1)
        (expr_plain (before + (literals c + literals a)) b h.2)
        (λ y z q r. stands_itself (BothPlain (texts a) (texts b)) (y, z)
        (record { first = q; second = r })))
        (λ x parts p q. choice_plain cx tags at (texts c) (texts a) (texts b) x parts.0 parts.1 p
        q.first q.second)
    expr_plain before (tree.Assign at s l r) h =
        holds_both (expr_plain before l h.0) (expr_plain (before + literals l) r h.1)
        (λ x y p q. assign_plain cx tags at (texts l) (texts r) x y p q s)
    expr_plain before (tree.Call at name args bare) h =
        holds_after (offers_all before args h.1) (λ offered p.
        holds_after (callee_tagged cx tags at (found path name))
        (λ callee c. call_plain cx tags at (arg_texts args) callee offered c p))

    chain_all : (before : ℕ) (links : tree.Links) → AreWrittenLinks Calls links
        → Holds (LinksPlain (link_texts links)) (chain cx path before links)
    chain_all before tree.no_links h =
        stands_itself _ [] (record { literals = refl; objects = tt })
    chain_all before (tree.then_link link more) h =
        holds_both (linked_plain before link h.0)
        (chain_all (before + literals_of_link link) more h.1) (λ x rest p q.
        stands_itself _ (x ∷ rest) (record {
          literals = joined x.operand.literals _ _ _ p.literals q.literals;
          objects = each_append IsGoodObject x.operand.literals _ p.objects q.objects;
        }))

    linked_plain : (before : ℕ) (link : tree.Link) → IsWrittenLink Calls link
        → Holds (LinkPlain (texts_of_link link)) (linked cx path before link)
    linked_plain before (tree.Compare s e) h =
        holds_after (expr_plain before e h)
        (λ x p. compared_plain (texts e) x.at (link_of s) x p)

    offers_all : (before : ℕ) (args : tree.Args) → AreWrittenArgs Calls args
        → Holds (OffersPlain (arg_texts args)) (offers cx path before args)
    offers_all before tree.no_args h =
        stands_itself _ [] (record { literals = refl; objects = tt })
    offers_all before (tree.then_arg arg more) h =
        holds_both (offer_plain before arg h.0)
        (offers_all (before + literals_of_arg arg) more h.1) (λ x rest p q.
        stands_itself _ (x ∷ rest) (record {
          literals = joined (offer_literals x) _ _ _ p.literals q.literals;
          objects = each_append IsGoodObject (offer_literals x) _ p.objects q.objects;
        }))

    offer_plain : (before : ℕ) (arg : tree.Arg) → IsWrittenArg Calls arg
        → Holds (OfferPlain (texts_of_arg arg)) (offer cx path before arg)
    offer_plain before (tree.Value e) h =
        holds_after (expr_plain before e h)
        (λ x p. stands_itself _ _ (record { literals = p.literals; objects = p.objects }))
    offer_plain before (tree.Default at) h =
        stands_itself _ Skipped (record { literals = refl; objects = tt })
    offer_plain before (tree.Named name e) h =
        holds_after (expr_plain before e h)
        (λ x p. stands_itself _ _ (record { literals = p.literals; objects = p.objects }))

pub expressions_plain : ExpressionsArePlain
expressions_plain cx path before e x tags known written h =
    let p = (expr_plain IsAnyName cx tags path known before e written).of x h in
    record { literals = p.literals; objects = p.objects; value = p.value; tag = p.tag }
