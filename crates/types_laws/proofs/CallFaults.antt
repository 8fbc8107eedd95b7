-- Calls and expressions break only with a fault where nothing that a name means is unknown.
use Rattle.std.proofs.Common.{◌≡◌, ◌+◌, ℕ, List, [], ◌∷◌, Bool, true, false, Option, None, Some}
use Rattle.std.proofs.Common.{refl}
use Rattle.std.specs.Prelude.{slice_get}
use Rattle.pawn_tree.specs.declared.name.At.{At}
use Rattle.pawn_tree.specs.Expressions as tree
use Rattle.pawn_meaning.specs.Program.{Scalar, Global, Own, Through, Element, Char, Array, Args}
use Rattle.pawn_meaning.specs.Scope.{Extent}
use Rattle.names_rules.specs.Signs.{between_of, link_of}
use Rattle.names_rules.specs.Verdict.{Verdict}
use Rattle.types_rules.specs.Typed.{Typed, Form, line}
use Rattle.types_rules.specs.Typed as typed
use Rattle.types_rules.specs.Around.{Around, Callable, Head, Param, NoDefault, Always, SizeOf}
use Rattle.types_rules.specs.Around.{TagOf}
use Rattle.types_rules.specs.Around as around
use Rattle.types_rules.specs.Scope.{Meaning, Constant, Variable, Function, Entering, Taken, Unknown}
use Rattle.types_rules.specs.Scope.{Scope, found}
use Rattle.types_rules.specs.Scope as means
use Rattle.types_rules.specs.NamesAndNumbers.{size_or_zero}
use Rattle.types_rules.specs.Given.{keeps_constant, value_in, plain_given, place_in}
use Rattle.types_rules.specs.Given.{reference_given, fitting, rest_from, passed, array_argument}
use Rattle.types_rules.specs.Given.{array_given, given_by, given_rule}
use Rattle.types_rules.specs.Filling.{Filled, Argument, Offer, Positional, Skipped, Filling, put_in}
use Rattle.types_rules.specs.Filling.{put, for_param, for_rest, positional, skipped_rest, skipped}
use Rattle.types_rules.specs.Filling.{named_param, named, number_of_param, offer_step, fill}
use Rattle.types_rules.specs.Filling.{nothing_filled}
use Rattle.types_rules.specs.Filling as filling
use Rattle.types_rules.specs.Defaults.{default_of, arg_of, args_of}
use Rattle.types_rules.specs.Calls.{Callee, callable, callee_rule, judged, call_by, call_rule}
use Rattle.types_rules.specs.Literals.{literals, literals_of_arg, literals_of_link}
use Rattle.types_rules.specs.Expressions.{expr, chain, linked, offers, offer}
use Rattle.types_laws.proofs.Blames.{Blames, stood, blamed, when, blames_after, blames_both}
use Rattle.types_laws.proofs.Blames.{blames_also, blames_pair, blames_thread}
use Rattle.types_laws.proofs.PathLaws.{AllMeant}
use Rattle.types_laws.proofs.RuleFaults.{IsKnown, text_blames, name_blames, sizeof_blames}
use Rattle.types_laws.proofs.RuleFaults.{tagof_blames, between_blames, prefix_blames}
use Rattle.types_laws.proofs.RuleFaults.{postfix_blames, index_blames, character_blames}
use Rattle.types_laws.proofs.RuleFaults.{choice_blames, compared_blames, chain_blames}
use Rattle.types_laws.proofs.RuleFaults.{assign_blames}

-- ---- what a parameter is given

keeps_blames : (at : At) (constant wanted : Bool) → Blames (keeps_constant at constant wanted)
keeps_blames at true true = stood _
keeps_blames at true false = blamed _ _
keeps_blames at false wanted = stood _

value_in_blames : (at : At) (form : Form) → Blames (value_in at form)
value_in_blames at (typed.Value e) = stood _
value_in_blames at (typed.Place p constant) = stood _
value_in_blames at (typed.Whole a reach constant) = blamed _ _
value_in_blames at (typed.Literal object cells) = blamed _ _

place_in_blames : (at : At) (wanted : Bool) (form : Form) → Blames (place_in at wanted form)
place_in_blames at wanted (typed.Value e) = blamed _ _
place_in_blames at wanted (typed.Place p constant) =
    blames_also (keeps_blames at constant wanted) (when _ (blamed _ _) (stood p))
place_in_blames at wanted (typed.Whole a reach constant) = blamed _ _
place_in_blames at wanted (typed.Literal object cells) = blamed _ _

rest_blames : (at : At) (wanted : Extent) (p : Scalar) → Blames (rest_from at wanted p)
rest_blames at wanted (Global o) = blamed _ _
rest_blames at wanted (Own s) = blamed _ _
rest_blames at wanted (Through s) = blamed _ _
rest_blames at wanted (Char a e) = blamed _ _
rest_blames at wanted (Element a e) = when _ (stood _) (blamed _ _)

passed_blames : (a : Verdict Array) (size : ℕ) → Blames a → Blames (passed a size)
passed_blames a size h = blames_after h (λ it e. stood _)

fitting_blames : (at : At) (wanted reach : Extent) (a : Array)
    → Blames (fitting at wanted reach a)
fitting_blames at wanted reach a = when _ (stood a) (blamed _ _)

array_argument_blames : (at : At) (keeps : Bool) (wanted : Extent) (form : Form)
    → Blames (array_argument at keeps wanted form)
array_argument_blames at keeps wanted (typed.Value e) = blamed _ _
array_argument_blames at keeps wanted (typed.Place p constant) =
    blames_also (keeps_blames at constant keeps)
    (passed_blames (rest_from at wanted p) 0 (rest_blames at wanted p))
array_argument_blames at keeps wanted (typed.Whole a reach constant) =
    blames_also (keeps_blames at constant keeps)
    (passed_blames (fitting at wanted reach a) (size_or_zero reach.first)
    (fitting_blames at wanted reach a))
array_argument_blames at keeps wanted (typed.Literal object cells) =
    passed_blames _ cells (fitting_blames at wanted (line cells) _)

module _ (cx : Around) (at : At) where
  plain_blames : (param : Param) (x : Typed) → Blames (plain_given cx at param x)
  unfolding plain_given
  plain_blames param x = blames_after (value_in_blames at x.form) (λ c e. stood _)

  reference_blames : (param : Param) (x : Typed) → Blames (reference_given cx at param x)
  unfolding reference_given
  reference_blames param x =
      blames_after (place_in_blames at param.constant x.form) (λ p e. stood _)

  array_given_blames : (param : Param) (wanted : Extent) (x : Typed)
      → Blames (array_given cx at param wanted x)
  unfolding array_given
  array_given_blames param wanted x =
      blames_after (array_argument_blames at param.constant wanted x.form) (λ it e. stood _)

  given_by_blames : (param : Param) (reach : Option Extent) (x : Typed)
      → Blames (given_by cx at param reach x)
  given_by_blames param None x =
      when param.reference (reference_blames param x) (plain_blames param x)
  given_by_blames param (Some wanted) x = array_given_blames param wanted x

  given_blames : (param : Param) (x : Typed) → Blames (given_rule cx at param x)
  given_blames param x = given_by_blames param param.extent x

  -- ---- arguments

  put_in_blames : (i : ℕ) (it : Filled) (slots : List (Option Filled))
      (found : Option (Option Filled)) → Blames (put_in at i it slots found)
  put_in_blames i it slots None = blamed _ _
  put_in_blames i it slots (Some None) = stood _
  put_in_blames i it slots (Some (Some old)) = blamed _ _

  put_blames : (i : ℕ) (it : Filled) (slots : List (Option Filled)) → Blames (put at i it slots)
  put_blames i it slots = put_in_blames i it slots (slice_get slots i)

  module _ (head : Head) where
    for_param_blames : (done : Filling) (i : ℕ) (param : Param) (x : Typed) (next : ℕ)
        → Blames (for_param cx at head done i param x next)
    for_param_blames done i param x next =
        blames_after (given_blames param x) (λ given e.
        blames_after (put_blames i _ done.slots) (λ slots e2. stood _))

    for_rest_blames : (done : Filling) (tags : Option (List ℕ)) (x : Typed)
        → Blames (for_rest cx at head done tags x)
    for_rest_blames done None x = blamed _ _
    for_rest_blames done (Some tags) x = stood _

    positional_blames : (done : Filling) (param : Option Param) (x : Typed)
        → Blames (positional cx at head done param x)
    positional_blames done None x = for_rest_blames done head.rest x
    positional_blames done (Some param) x = for_param_blames done done.next param x _

    skipped_rest_blames : (tags : Option (List ℕ)) → Blames (skipped_rest cx at head tags)
    skipped_rest_blames None = blamed _ _
    skipped_rest_blames (Some tags) = blamed _ _

    skipped_blames : (done : Filling) (param : Option Param)
        → Blames (skipped cx at head done param)
    skipped_blames done None = skipped_rest_blames head.rest
    skipped_blames done (Some param) =
        blames_after (put_blames done.next filling.Default done.slots) (λ slots e. stood _)

    named_param_blames : (done : Filling) (i : ℕ) (param : Option Param) (x : Typed)
        → Blames (named_param cx at head done i param x)
    named_param_blames done i None x = blamed _ _
    named_param_blames done i (Some param) x = for_param_blames done i param x done.next

    named_blames : (done : Filling) (i : Option ℕ) (x : Typed)
        → Blames (named cx at head done i x)
    named_blames done None x = blamed _ _
    named_blames done (Some i) x = named_param_blames done i (slice_get head.params i) x

    step_blames : (done : Filling) (it : Offer) → Blames (offer_step cx at head done it)
    step_blames done (Positional x) = positional_blames done (slice_get head.params done.next) x
    step_blames done Skipped = skipped_blames done (slice_get head.params done.next)
    step_blames done (filling.Named name x) =
        named_blames done (number_of_param cx at head name) x

  module _ (params : List Param) (slots : List (Option Filled)) where
    default_blames : (param : Param) (it : around.Default)
        → Blames (default_of cx at params slots param it)
    default_blames param NoDefault = blamed _ _
    default_blames param (Always v tag) = stood _
    default_blames param (SizeOf p) = stood _
    default_blames param (TagOf p) = stood _

    arg_blames : (param : Param) (it : Option Filled)
        → Blames (arg_of cx at params slots param it)
    arg_blames param None = default_blames param param.default
    arg_blames param (Some filling.Default) = default_blames param param.default
    arg_blames param (Some (Argument given)) = stood _

    args_blame : (more : List Param) (filled : List (Option Filled)) (others : Args)
        → Blames (args_of cx at params slots more filled others)
    unfolding args_of
    args_blame [] filled others = stood others
    args_blame (param ∷ more) [] others = blamed _ _
    args_blame (param ∷ more) (it ∷ filled) others =
        blames_both (arg_blames param it) (λ arg e. args_blame more filled others)
        (λ arg args e e2. stood _)

  -- ---- calls

  judged_blames : (callee : Callee) (all : List Offer) (head : Head)
      → Blames (judged cx at callee all head)
  judged_blames callee all head =
      blames_after (blames_thread (offer_step cx at head) (nothing_filled head) all
      (λ done it. step_blames head done it)) (λ done e.
      blames_after (args_blame head.params done.slots head.params done.slots _)
      (λ args e2. stood _))

  call_by_blames : (callee : Callee) (all : List Offer) (head : Option Head)
      → Blames (call_by cx at callee all head)
  call_by_blames callee all None = stood _
  call_by_blames callee all (Some head) = judged_blames callee all head

  call_blames : (callee : Callee) (all : List Offer) → Blames (call_rule cx at callee all)
  unfolding call_rule
  call_blames callee all = call_by_blames callee all callee.head

  callable_blames : (is_native : Bool) (it : Option Callable) → Blames (callable at is_native it)
  callable_blames is_native None = blamed _ _
  callable_blames is_native (Some it) = stood _

  callee_by : (it : Option Meaning) → ((m : Meaning) → it ≡ Some m → IsKnown m)
      → Blames (callee_rule cx at it)
  callee_by None k = blamed _ _
  callee_by (Some (Constant v tag)) k = blamed _ _
  callee_by (Some (Variable p tag constant)) k = blamed _ _
  callee_by (Some (means.Array a reach tag constant)) k = blamed _ _
  callee_by (Some (Function f tag)) k = callable_blames false (slice_get cx.functions f)
  callee_by (Some (means.Native n tag)) k = callable_blames true (slice_get cx.natives n)
  callee_by (Some (Entering tag)) k = blamed _ _
  callee_by (Some Taken) k = blamed _ _
  callee_by (Some Unknown) k = absurd (k Unknown refl refl)

-- ---- all expressions

module _ (cx : Around) (path : Scope) (known : AllMeant IsKnown path) where
  mutual
    pub expr_blames : (before : ℕ) (e : tree.Expr) → Blames (expr cx path before e)
    expr_blames before (tree.Number at v) = stood _
    expr_blames before (tree.Text at bytes packed) = text_blames before at bytes packed
    expr_blames before (tree.Name at name) = name_blames path known at name
    expr_blames before (tree.Paren at e) = blames_after (expr_blames before e) (λ x s. stood _)
    expr_blames before (tree.Sizeof at operand) = sizeof_blames path known at operand
    expr_blames before (tree.Tagof at operand) = tagof_blames path known cx at operand
    expr_blames before (tree.Prefix at s e) =
        blames_after (expr_blames before e) (λ x t. prefix_blames cx at s x)
    expr_blames before (tree.Tagged at tag e) =
        blames_after (expr_blames before e) (λ x s. stood _)
    expr_blames before (tree.Postfix at s e) =
        blames_after (expr_blames before e) (λ x t. postfix_blames cx at s x)
    expr_blames before (tree.Index at a i) =
        blames_both (expr_blames before a) (λ x s. expr_blames (before + literals a) i)
        (λ x y s t. index_blames cx at x y)
    expr_blames before (tree.Character at a i) =
        blames_both (expr_blames before a) (λ x s. expr_blames (before + literals a) i)
        (λ x y s t. character_blames cx at x y)
    expr_blames before (tree.Binary at sign l r) =
        blames_both (expr_blames before l) (λ x s. expr_blames (before + literals l) r)
        (λ x y s t. between_blames cx at (between_of sign) x y)
    expr_blames before (tree.Chain at e links) =
        blames_both (expr_blames before e) (λ x s. chain_all (before + literals e) links)
        (λ x all s t. chain_blames cx at x all)
    expr_blames before (tree.Choice at c a b) =
        blames_both (expr_blames before c)
        (λ x s. blames_pair (expr_blames (before + literals c) a)
        (expr_blames (before + (literals c + literals a)) b))
        (λ x parts s t. choice_blames cx at x parts.0 parts.1)
    expr_blames before (tree.Assign at sign l r) =
        blames_both (expr_blames before l) (λ x s. expr_blames (before + literals l) r)
        (λ x y s t. assign_blames cx at sign x y)
    expr_blames before (tree.Call at name args bare) =
        blames_after (offers_all before args) (λ offered s.
        blames_after (callee_by cx at (found path name) (known.meant name))
        (λ callee t. call_blames cx at callee offered))

    chain_all : (before : ℕ) (links : tree.Links) → Blames (chain cx path before links)
    chain_all before tree.no_links = stood []
    chain_all before (tree.then_link link more) =
        blames_both (linked_blames before link)
        (λ x s. chain_all (before + literals_of_link link) more) (λ x rest s t. stood _)

    linked_blames : (before : ℕ) (link : tree.Link) → Blames (linked cx path before link)
    linked_blames before (tree.Compare sign e) =
        blames_after (expr_blames before e) (λ x s. compared_blames cx x.at (link_of sign) x)

    offers_all : (before : ℕ) (args : tree.Args) → Blames (offers cx path before args)
    offers_all before tree.no_args = stood []
    offers_all before (tree.then_arg arg more) =
        blames_both (offer_blames before arg)
        (λ x s. offers_all (before + literals_of_arg arg) more) (λ x rest s t. stood _)

    offer_blames : (before : ℕ) (arg : tree.Arg) → Blames (offer cx path before arg)
    offer_blames before (tree.Value e) = blames_after (expr_blames before e) (λ x s. stood _)
    offer_blames before (tree.Default at) = stood _
    offer_blames before (tree.Named name e) =
        blames_after (expr_blames before e) (λ x s. stood _)
