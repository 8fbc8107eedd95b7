-- An expression that stands has as many literals as are counted in its tree: so the count before a
-- node is the number of objects there.
use Rattle.std.proofs.Common.{◌≡◌, ◌+◌, ℕ, List, [], ◌∷◌, ◌++◌, Bool, true, false, Option, None}
use Rattle.std.proofs.Common.{Some, refl, arith}
use Rattle.std.specs.Prelude.{length, if◌then◌else◌, flat_map, slice_get}
use Rattle.std.proofs.lemmas.List.{length-append}
use Rattle.pawn_token.specs.declared.sign.Sign.{Sign}
use Rattle.pawn_token.specs.declared.sign.Sign.TheVariants as sign
use Rattle.pawn_tree.specs.declared.name.At.{At}
use Rattle.pawn_tree.specs.declared.expression.SizeofOperand.{SizeofOperand}
use Rattle.pawn_tree.specs.declared.expression.TagofOperand.{TagofOperand}
use Rattle.pawn_tree.specs.Expressions as tree
use Rattle.pawn_tags.specs.declared.operators.Choice.{Choice}
use Rattle.pawn_cells.specs.declared.operator.Operator.{Operator}
use Rattle.pawn_meaning.specs.Program.{Scalar, Array, Expr, StaticObject}
use Rattle.pawn_meaning.specs.Scope.{Extent}
use Rattle.names_rules.specs.Verdict.{Verdict, Stands}
use Rattle.names_rules.specs.Signs.{Between, Operates, Decides, Takes, Nothing, between_of}
use Rattle.types_rules.specs.Typed.{Typed, Form, Held, cell, array}
use Rattle.types_rules.specs.Typed as typed
use Rattle.types_rules.specs.Around.{Around}
use Rattle.types_rules.specs.Scope.{Meaning, Constant, Variable, Function, Native, Entering, Taken}
use Rattle.types_rules.specs.Scope.{Unknown, Scope}
use Rattle.types_rules.specs.Scope as means
use Rattle.types_rules.specs.NamesAndNumbers.{text_rule, name_rule, sizeof_rule}
use Rattle.types_rules.specs.NamesAndNumbers.{tagof_rule, size_in, tag_in}
use Rattle.types_rules.specs.Operators.{operate, operator_rule, logical_rule, comma_rule}
use Rattle.types_rules.specs.Operators.{between_rule, operate_one, not_rule, negate_rule}
use Rattle.types_rules.specs.Operators.{invert_rule, chosen, chosen_for_one, divides_by_zero}
use Rattle.pawn_tags.specs.declared.op.Op.TheVariants as op
use Rattle.types_rules.specs.Prefixes.{prefix_rule, postfix_rule}
use Rattle.types_rules.specs.Assignments.{target, unless_constant, assign_cell, copied_cells}
use Rattle.types_rules.specs.Assignments.{literal_cells, known_line, copy_from, assign_to, updated}
use Rattle.types_rules.specs.Assignments.{update_rule, update_by, step_rule}
use Rattle.names_rules.specs.Signs.{Link, Compares, No_link, link_of}
use Rattle.types_rules.specs.Rule.{pair, thread}
use Rattle.types_rules.specs.Around.{Head, Param}
use Rattle.types_rules.specs.Scope.{found}
use Rattle.types_rules.specs.Chains.{Compared, compared, links_code, chain_rule}
use Rattle.types_rules.specs.Choices.{choice_rule}
use Rattle.types_rules.specs.Assignments.{assign_rule, set_rule}
use Rattle.types_rules.specs.Signs.{updater_of}
use Rattle.types_rules.specs.Given.{given_rule}
use Rattle.types_rules.specs.Filling.{Offer, Positional, Skipped, Filling, Argument, Default}
use Rattle.types_rules.specs.Filling.{in_slot, nothing_filled, put, for_param, for_rest, positional}
use Rattle.types_rules.specs.Filling.{skipped_rest, skipped, named_param, named, number_of_param}
use Rattle.types_rules.specs.Filling.{offer_step}
use Rattle.types_rules.specs.Filling as filling
use Rattle.types_rules.specs.Defaults.{args_of}
use Rattle.types_rules.specs.Calls.{Callee, callee_rule, args_in, judged, offer_literals, call_by}
use Rattle.types_rules.specs.Calls.{call_rule}
use Rattle.types_rules.specs.Literals.{literals, link_literals, literals_of_link, arg_literals}
use Rattle.types_rules.specs.Literals.{literals_of_arg}
use Rattle.types_rules.specs.Expressions.{expr, chain, linked, offers, offer}
use Rattle.types_rules.specs.Indexes.{index_rule, character_in, character_rule}
use Rattle.types_rules.proofs.VerdictLaws.{Holds, stands_itself, breaks_holds, holds_after}
use Rattle.types_rules.proofs.VerdictLaws.{holds_both, holds_all}

-- so many literals
pub record Made (n : ℕ) (x : Typed) : Type 0 where
  pub count : length x.literals ≡ n

pub two : (xs ys : List StaticObject) (m n : ℕ) → length xs ≡ m → length ys ≡ n
    → length (xs ++ ys) ≡ m + n
two xs ys m n p q = rw (length-append xs ys, p, q) refl

pub if_holds : {A : Type 0} {P : A → Type 0} (b : Bool) {v w : Verdict A} → Holds P v → Holds P w
    → Holds P (if b then v else w)
if_holds true h k = h
if_holds false h k = k

stands : {n : ℕ} (x : Typed) → length x.literals ≡ n → Holds (Made n) (Stands x)
stands x p = stands_itself _ x (record { count = p })

-- ---- what makes no literal but one of its own

text_made : (object : ℕ) (at : At) (bytes : List ℕ) (packed : Bool)
    → Holds (Made 1) (text_rule object at bytes packed)
unfolding text_rule
text_made object at bytes packed = if_holds _ (stands _ refl) (breaks_holds _ _)

name_made : (at : At) (it : Option Meaning) → Holds (Made 0) (name_rule at it)
name_made at None = breaks_holds _ _
name_made at (Some (Constant v tag)) = stands _ refl
name_made at (Some (Variable p tag constant)) = stands _ refl
name_made at (Some (means.Array a extent tag constant)) = stands _ refl
name_made at (Some (Function f tag)) = breaks_holds _ _
name_made at (Some (Native n tag)) = breaks_holds _ _
name_made at (Some (Entering tag)) = breaks_holds _ _
name_made at (Some Taken) = breaks_holds _ _
name_made at (Some Unknown) = breaks_holds _ _

sizeof_made : (scope : Scope) (at : At) (operand : SizeofOperand)
    → Holds (Made 0) (sizeof_rule scope at operand)
unfolding sizeof_rule
sizeof_made scope at operand =
    holds_after (holds_all (size_in scope at operand)) (λ size t. stands _ refl)

tagof_made : (cx : Around) (scope : Scope) (at : At) (operand : TagofOperand)
    → Holds (Made 0) (tagof_rule cx scope at operand)
unfolding tagof_rule
tagof_made cx scope at operand =
    holds_after (holds_all (tag_in cx scope at operand)) (λ tag t. stands _ refl)

-- ---- operators

operate_made : (cx : Around) (at : At) (it : Operator) (x y : Typed) (l r : Expr) (m n : ℕ)
    (by : Option Choice)
    → Made m x → Made n y → Holds (Made (m + n)) (operate cx at it x y l r by)
operate_made cx at it x y l r m n None p q =
    if_holds (divides_by_zero it y.value) (breaks_holds _ _)
    (stands _ (two x.literals y.literals m n p.count q.count))
operate_made cx at it x y l r m n (Some by) p q =
    stands _ (two x.literals y.literals m n p.count q.count)

between_made : (cx : Around) (at : At) (it : Between) (x y : Typed) (m n : ℕ) → Made m x → Made n y
    → Holds (Made (m + n)) (between_rule cx at it x y)
unfolding operator_rule logical_rule comma_rule
between_made cx at (Operates it user) x y m n p q =
    holds_both (holds_all (cell at x)) (holds_all (cell at y)) (λ l r t u.
    operate_made cx at it x y l r m n (chosen cx user x.tag y.tag) p q)
between_made cx at (Decides it) x y m n p q =
    holds_both (holds_all (cell at x)) (holds_all (cell at y)) (λ l r t u.
    stands _ (two x.literals y.literals m n p.count q.count))
between_made cx at Takes x y m n p q =
    holds_both (holds_all (cell at x)) (holds_all (cell at y)) (λ l r t u.
    stands _ (two x.literals y.literals m n p.count q.count))
between_made cx at Nothing x y m n p q = breaks_holds _ _

-- ---- indexes

index_made : (at : At) (x i : Typed) (m n : ℕ) → Made m x → Made n i
    → Holds (Made (m + n)) (index_rule at x i)
unfolding index_rule
index_made at x i m n p q =
    holds_both (holds_all (array at x)) (holds_all (cell at i)) (λ held e t u.
    if_holds _ (breaks_holds _ _) (stands _ (two x.literals i.literals m n p.count q.count)))

character_in_made : (at : At) (x i : Typed) (held : Held) (e : Expr) (inner : List ℕ) (m n : ℕ)
    → Made m x → Made n i
    → Holds (Made (m + n)) (character_in at x i held e inner)
character_in_made at x i held e (size ∷ inner) m n p q = breaks_holds _ _
character_in_made at x i held e [] m n p q =
    if_holds _ (breaks_holds _ _) (stands _ (two x.literals i.literals m n p.count q.count))

character_made : (at : At) (x i : Typed) (m n : ℕ) → Made m x → Made n i
    → Holds (Made (m + n)) (character_rule at x i)
unfolding character_rule
character_made at x i m n p q =
    holds_both (holds_all (array at x)) (holds_all (cell at i)) (λ held e t u.
    character_in_made at x i held e held.extent.inner m n p q)

-- ---- one operand

operate_one_made : (cx : Around) (at : At) (x : Typed) (e : Expr) (built : Typed) (n : ℕ)
    (by : Option Choice)
    → Made n x → Made n built → Made n (operate_one cx at x e built by)
operate_one_made cx at x e built n None p q = q
operate_one_made cx at x e built n (Some by) p q = record { count = p.count }

prefix_made : (cx : Around) (at : At) (s : Sign) (x : Typed) (n : ℕ) → Made n x
    → Holds (Made n) (prefix_rule cx at s x)
unfolding not_rule negate_rule invert_rule step_rule
prefix_made cx at sign.Exclamation x n p =
    holds_after (holds_all (cell at x)) (λ e t.
    stands_itself _ _ (operate_one_made cx at x e _ n (chosen_for_one cx op.Not x.tag) p
    (record { count = p.count })))
prefix_made cx at sign.Minus x n p =
    holds_after (holds_all (cell at x)) (λ e t.
    stands_itself _ _ (operate_one_made cx at x e _ n (chosen_for_one cx op.Neg x.tag) p
    (record { count = p.count })))
prefix_made cx at sign.Tilde x n p = holds_after (holds_all (cell at x)) (λ e t. stands _ p.count)
prefix_made cx at sign.Increment x n p =
    holds_after (holds_all (target at x)) (λ e t. stands _ p.count)
prefix_made cx at sign.Decrement x n p =
    holds_after (holds_all (target at x)) (λ e t. stands _ p.count)
prefix_made cx at _ x n p = breaks_holds _ _

postfix_made : (cx : Around) (at : At) (s : Sign) (x : Typed) (n : ℕ) → Made n x
    → Holds (Made n) (postfix_rule cx at s x)
unfolding step_rule
postfix_made cx at sign.Increment x n p =
    holds_after (holds_all (target at x)) (λ e t. stands _ p.count)
postfix_made cx at sign.Decrement x n p =
    holds_after (holds_all (target at x)) (λ e t. stands _ p.count)
postfix_made cx at _ x n p = breaks_holds _ _

-- ---- assignments

cell_assigned_made : (cx : Around) (at : At) (x y : Typed) (m n : ℕ) → Made m x → Made n y
    → Holds (Made (m + n)) (assign_cell cx at x y)
cell_assigned_made cx at x y m n p q =
    holds_both (holds_all (target at x)) (holds_all (cell at y)) (λ a e t u.
    stands _ (two x.literals y.literals m n p.count q.count))

copy_made : (cx : Around) (at : At) (x y : Typed) (to : Array) (extent : Extent) (form : Form)
    (m n : ℕ)
    → Made m x → Made n y → Holds (Made (m + n)) (copy_from cx at x y to extent form)
copy_made cx at x y to extent (typed.Value e) m n p q = breaks_holds _ _
copy_made cx at x y to extent (typed.Place a constant) m n p q = breaks_holds _ _
copy_made cx at x y to extent (typed.Whole from reach constant) m n p q =
    holds_after (holds_all (copied_cells at (known_line extent) (known_line reach))) (λ cells t.
    stands _ (two x.literals y.literals m n p.count q.count))
copy_made cx at x y to extent (typed.Literal object size) m n p q =
    holds_after (holds_all (literal_cells at (known_line extent) size)) (λ cells t.
    stands _ (two x.literals y.literals m n p.count q.count))

set_to_made : (cx : Around) (at : At) (x y : Typed) (form : Form) (m n : ℕ) → Made m x → Made n y
    → Holds (Made (m + n)) (assign_to cx at x y form)
set_to_made cx at x y (typed.Value e) m n p q = cell_assigned_made cx at x y m n p q
set_to_made cx at x y (typed.Place a constant) m n p q = cell_assigned_made cx at x y m n p q
set_to_made cx at x y (typed.Literal object size) m n p q = breaks_holds _ _
set_to_made cx at x y (typed.Whole a extent constant) m n p q =
    holds_after (holds_all (unless_constant at constant a))
    (λ to t. copy_made cx at x y to extent y.form m n p q)

updated_made : (cx : Around) (at : At) (it : Operator) (x y : Typed) (a : Scalar) (e : Expr)
    (by : Option Choice) (m n : ℕ)
    → Made m x → Made n y → Holds (Made (m + n)) (updated cx at it x y a e by)
updated_made cx at it x y a e (Some by) m n p q =
    stands _ (two x.literals y.literals m n p.count q.count)
updated_made cx at it x y a e None m n p q =
    if_holds _ (breaks_holds _ _) (stands _ (two x.literals y.literals m n p.count q.count))

update_made : (cx : Around) (at : At) (it : Between) (x y : Typed) (m n : ℕ) → Made m x → Made n y
    → Holds (Made (m + n)) (update_by cx at it x y)
unfolding update_rule
update_made cx at (Operates it user) x y m n p q =
    holds_both (holds_all (target at x)) (holds_all (cell at y)) (λ a e t u.
    updated_made cx at it x y a e (chosen cx user x.tag y.tag) m n p q)
update_made cx at (Decides it) x y m n p q = breaks_holds _ _
update_made cx at Takes x y m n p q = breaks_holds _ _
update_made cx at Nothing x y m n p q = breaks_holds _ _

-- ---- `? :` and chains

choice_made : (cx : Around) (at : At) (x y z : Typed) (m n o : ℕ) → Made m x → Made n y → Made o z
    → Holds (Made (m + (n + o))) (choice_rule cx at x y z)
unfolding choice_rule
choice_made cx at x y z m n o p q r =
    holds_both (holds_all (cell at x)) (holds_all (pair (cell at y) (cell at z))) (λ c parts t u.
    stands _ (two x.literals (y.literals ++ z.literals) m (n + o) p.count
    (two y.literals z.literals n o q.count r.count)))

record LinkMade (n : ℕ) (it : Compared) : Type 0 where
  pub count : length it.operand.literals ≡ n

record LinksMade (n : ℕ) (links : List Compared) : Type 0 where
  pub count : length (flat_map (λ (it : Compared). it.operand.literals) links) ≡ n

compared_made : (at : At) (it : Link) (x : Typed) (n : ℕ) → Made n x
    → Holds (LinkMade n) (compared at it x)
compared_made at No_link x n p = breaks_holds _ _
compared_made at (Compares s user) x n p = stands_itself _ _ (record { count = p.count })

chain_made : (cx : Around) (at : At) (x : Typed) (links : List Compared) (m n : ℕ) → Made m x
    → LinksMade n links
    → Holds (Made (m + n)) (chain_rule cx at x links)
unfolding chain_rule
chain_made cx at x links m n p q =
    holds_both (holds_all (cell at x)) (holds_all (links_code cx at x.tag links)) (λ e more t u.
    stands _ (two x.literals (flat_map (λ (it : Compared). it.operand.literals) links) m n p.count
    q.count))

-- ---- calls

record OfferMade (n : ℕ) (it : Offer) : Type 0 where
  pub count : length (offer_literals it) ≡ n

record OffersMade (n : ℕ) (offers : List Offer) : Type 0 where
  pub count : length (flat_map offer_literals offers) ≡ n

-- so many more literals than before
record More (done : Filling) (n : ℕ) (next : Filling) : Type 0 where
  pub count : length next.literals ≡ length done.literals + n

none_more : (done next : Filling) → length next.literals ≡ length done.literals → More done 0 next
none_more done next p = record { count = omega (arith, p) }

module _ (cx : Around) (at : At) (head : Head) where
  for_param_more : (done : Filling) (i : ℕ) (param : Param) (x : Typed) (next : ℕ)
      → Holds (More done (length x.literals)) (for_param cx at head done i param x next)
  for_param_more done i param x next =
      holds_after (holds_all (given_rule cx at param x)) (λ given t.
      holds_after (holds_all (put at i (Argument (in_slot given)) done.slots)) (λ slots u.
      stands_itself _ _ (record { count = length-append done.literals x.literals })))

  for_rest_more : (done : Filling) (tags : Option (List ℕ)) (x : Typed)
      → Holds (More done (length x.literals)) (for_rest cx at head done tags x)
  for_rest_more done None x = breaks_holds _ _
  for_rest_more done (Some tags) x =
      stands_itself _ _ (record { count = length-append done.literals x.literals })

  positional_more : (done : Filling) (param : Option Param) (x : Typed)
      → Holds (More done (length x.literals)) (positional cx at head done param x)
  positional_more done None x = for_rest_more done head.rest x
  positional_more done (Some param) x = for_param_more done done.next param x (done.next + 1)

  skipped_rest_more : (done : Filling) (tags : Option (List ℕ))
      → Holds (More done 0) (skipped_rest cx at head tags)
  skipped_rest_more done None = breaks_holds _ _
  skipped_rest_more done (Some tags) = breaks_holds _ _

  skipped_more : (done : Filling) (param : Option Param)
      → Holds (More done 0) (skipped cx at head done param)
  skipped_more done None = skipped_rest_more done head.rest
  skipped_more done (Some param) =
      holds_after (holds_all (put at done.next Default done.slots)) (λ slots t.
      stands_itself _ _ (none_more done _ refl))

  named_param_more : (done : Filling) (i : ℕ) (param : Option Param) (x : Typed)
      → Holds (More done (length x.literals)) (named_param cx at head done i param x)
  named_param_more done i None x = breaks_holds _ _
  named_param_more done i (Some param) x = for_param_more done i param x done.next

  named_more : (done : Filling) (i : Option ℕ) (x : Typed)
      → Holds (More done (length x.literals)) (named cx at head done i x)
  named_more done None x = breaks_holds _ _
  named_more done (Some i) x = named_param_more done i (slice_get head.params i) x

  step_more : (done : Filling) (it : Offer)
      → Holds (More done (length (offer_literals it))) (offer_step cx at head done it)
  step_more done (Positional x) = positional_more done (slice_get head.params done.next) x
  step_more done Skipped = skipped_more done (slice_get head.params done.next)
  step_more done (filling.Named name x) = named_more done (number_of_param cx at head name) x

  thread_more : (done : Filling) (offers : List Offer)
      → Holds (More done (length (flat_map offer_literals offers)))
      (thread (offer_step cx at head) done offers)
  unfolding thread
  thread_more done [] = stands_itself _ done (none_more done done refl)
  thread_more done (it ∷ more) =
      holds_after (step_more done it) (λ next p.
      more_of p (thread_more next more))
    where
      more_of : {next : Filling} {w : Verdict Filling} → More done (length (offer_literals it)) next
          → Holds (More next (length (flat_map offer_literals more))) w
          → Holds (More done (length (offer_literals it ++ flat_map offer_literals more))) w
      more_of {next = next} {w = w} p h = record {
        of = λ last e.
            let q = h.of last e in
            record {
              count = omega (
                arith,
                q.count,
                p.count,
                length-append (offer_literals it)
                    (flat_map offer_literals more),
              );
            };
      }

judged_made : (cx : Around) (at : At) (callee : Callee) (offers : List Offer) (head : Head) (n : ℕ)
    → OffersMade n offers
    → Holds (Made n) (judged cx at callee offers head)
judged_made cx at callee offers head n p =
    holds_after (thread_more cx at head (nothing_filled head) offers) (λ it q.
    holds_after (holds_all (args_of cx at head.params it.slots head.params it.slots
    (args_in it.rest))) (λ args t.
    stands _ (omega (arith, q.count, p.count))))

call_by_made : (cx : Around) (at : At) (callee : Callee) (offers : List Offer) (head : Option Head)
    (n : ℕ) → OffersMade n offers
    → Holds (Made n) (call_by cx at callee offers head)
call_by_made cx at callee offers None n p = stands _ p.count
call_by_made cx at callee offers (Some head) n p = judged_made cx at callee offers head n p

call_made : (cx : Around) (at : At) (callee : Callee) (offers : List Offer) (n : ℕ)
    → OffersMade n offers
    → Holds (Made n) (call_rule cx at callee offers)
unfolding call_rule
call_made cx at callee offers n p = call_by_made cx at callee offers callee.head n p

-- both choices
record Both (m n : ℕ) (parts : Typed × Typed) : Type 0 where
  pub first : Made m parts.0
  pub second : Made n parts.1

assign_made : (cx : Around) (at : At) (s : Sign) (x y : Typed) (m n : ℕ) → Made m x → Made n y
    → Holds (Made (m + n)) (assign_rule cx at s x y)
unfolding set_rule
assign_made cx at sign.Assign x y m n p q = set_to_made cx at x y x.form m n p q
assign_made cx at s x y m n p q = update_made cx at (updater_of s) x y m n p q

-- ---- all expressions

module _ (cx : Around) (scope : Scope) where
  mutual
    pub expr_made : (before : ℕ) (e : tree.Expr)
        → Holds (Made (literals e)) (expr cx scope before e)
    expr_made before (tree.Number at v) = stands _ refl
    expr_made before (tree.Text at bytes packed) = text_made before at bytes packed
    expr_made before (tree.Name at name) = name_made at (found scope name)
    expr_made before (tree.Paren at e) = holds_after (expr_made before e) (λ x p. stands _ p.count)
    expr_made before (tree.Sizeof at operand) = sizeof_made scope at operand
    expr_made before (tree.Tagof at operand) = tagof_made cx scope at operand
    expr_made before (tree.Prefix at s e) =
        holds_after (expr_made before e) (λ x p. prefix_made cx at s x _ p)
    expr_made before (tree.Tagged at tag e) =
        holds_after (expr_made before e) (λ x p. stands _ p.count)
    expr_made before (tree.Postfix at s e) =
        holds_after (expr_made before e) (λ x p. postfix_made cx at s x _ p)
    expr_made before (tree.Index at a i) =
        holds_both (expr_made before a) (expr_made (before + literals a) i)
        (λ x y p q. index_made at x y _ _ p q)
    expr_made before (tree.Character at a i) =
        holds_both (expr_made before a) (expr_made (before + literals a) i)
        (λ x y p q. character_made at x y _ _ p q)
    expr_made before (tree.Binary at s l r) =
        holds_both (expr_made before l) (expr_made (before + literals l) r) (λ x y p q.
        between_made cx at (between_of s) x y _ _ p q)
    expr_made before (tree.Chain at e links) =
        holds_both (expr_made before e) (chain_all (before + literals e) links)
        (λ x y p q. chain_made cx at x y _ _ p q)
    expr_made before (tree.Choice at c a b) =
        holds_both (expr_made before c)
        (holds_both (expr_made (before + literals c) a)
        (expr_made (before + (literals c + literals a)) b)
        (λ y z q r. stands_itself (Both (literals a) (literals b)) (y, z)
        (record { first = q; second = r })))
        (λ x parts p q. choice_made cx at x parts.0 parts.1 _ _ _ p q.first q.second)
    expr_made before (tree.Assign at s l r) =
        holds_both (expr_made before l) (expr_made (before + literals l) r)
        (λ x y p q. assign_made cx at s x y _ _ p q)
    expr_made before (tree.Call at name args bare) =
        holds_after (offers_all before args) (λ offered p.
        holds_after (holds_all (callee_rule cx at (found scope name)))
        (λ callee t. call_made cx at callee offered _ p))

    chain_all : (before : ℕ) (links : tree.Links)
        → Holds (LinksMade (link_literals links)) (chain cx scope before links)
    chain_all before tree.no_links = stands_itself _ [] (record { count = refl })
    chain_all before (tree.then_link link more) =
        holds_both (linked_made before link) (chain_all (before + literals_of_link link) more)
        (λ x rest p q.
        stands_itself _ (x ∷ rest)
        (record { count = two x.operand.literals _ _ _ p.count q.count }))

    linked_made : (before : ℕ) (link : tree.Link)
        → Holds (LinkMade (literals_of_link link)) (linked cx scope before link)
    linked_made before (tree.Compare s e) =
        holds_after (expr_made before e) (λ x p. compared_made x.at (link_of s) x _ p)

    offers_all : (before : ℕ) (args : tree.Args)
        → Holds (OffersMade (arg_literals args)) (offers cx scope before args)
    offers_all before tree.no_args = stands_itself _ [] (record { count = refl })
    offers_all before (tree.then_arg arg more) =
        holds_both (offer_made before arg) (offers_all (before + literals_of_arg arg) more)
        (λ x rest p q.
        stands_itself _ (x ∷ rest)
        (record { count = two (offer_literals x) _ _ _ p.count q.count }))

    offer_made : (before : ℕ) (arg : tree.Arg)
        → Holds (OfferMade (literals_of_arg arg)) (offer cx scope before arg)
    offer_made before (tree.Value e) =
        holds_after (expr_made before e) (λ x p. stands_itself _ _ (record { count = p.count }))
    offer_made before (tree.Default at) = stands_itself _ Skipped (record { count = refl })
    offer_made before (tree.Named name e) =
        holds_after (expr_made before e) (λ x p. stands_itself _ _ (record { count = p.count }))

-- what the count says of an expression that stands
pub literals_counted : (cx : Around) (scope : Scope) (before : ℕ) (e : tree.Expr) (x : Typed)
    → expr cx scope before e ≡ Stands x → length x.literals ≡ literals e
literals_counted cx scope before e x h = ((expr_made cx scope before e).of x h).count
