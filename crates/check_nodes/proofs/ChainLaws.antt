-- A chain of comparisons, link by link.
use Rattle.std.proofs.Common.{rules, arith, ◌≡◌, ◌<◌, ◌≤◌, ◌+◌, ℕ, length, drop, get_or, map, ℤ}
use Rattle.std.proofs.Common.{Bool, true, false, ◌&&◌, List, [], ◌∷◌, ◌++◌, Option, Some, None}
use Rattle.std.proofs.Common.{refl, sym, ap, subst, ◌∙◌, append_assoc, append-nil}
use Rattle.std.specs.Prelude.{flat_map}
use Rattle.std.proofs.lemmas.List.{drop_all, length_push}
use Rattle.pawn_cells.specs.Cells.{truth}
use Rattle.pawn_cells.specs.Operators.{compare, chain_holds}
use Rattle.pawn_cells.specs.declared.operator.Comparison.{Comparison}
use Rattle.pawn_tree.specs.declared.name.At.{At}
use Rattle.pawn_tags.specs.declared.operators.Choice.{Choice}
use Rattle.pawn_meaning.specs.Program.{Expr, Chain, Links, no_links, then_link, StaticObject}
use Rattle.names_rules.specs.Verdict.{Verdict, Stands, Breaks, after, faults_of}
use Rattle.types_rules.specs.Typed.{Typed, Value, cell}
use Rattle.types_rules.specs.Around.{Around}
use Rattle.types_rules.specs.Chains.{Compared, link_choice, link_code, link_warned, link_value}
use Rattle.types_rules.specs.Chains.{links_code, links_warned, links_value, chain_value, chain_tag}
use Rattle.types_rules.specs.Chains.{and_more, chain_rule}
use Rattle.pawn_verdict.specs.declared.fault.CheckFault.{CheckFault}
use Rattle.pawn_verdict.specs.Answers.{Fails}
use Rattle.pawn_verdict.proofs.VerdictLaws.{fails_after, fails_first, fails_second}
use Rattle.check_nodes.proofs.ThreadLaws.{next}
use Rattle.check_nodes.specs.declared.chains.Compared as held_compared
use Rattle.check_nodes.specs.Compared.{compared_view}
use Rattle.check_nodes.specs.Begun.{Begun, behind, holding, ended_value, value_with, link_tests}
use Rattle.check_nodes.specs.Begun.{with_link, link_step}

-- ---- links

pub behind-none : (links : Links) → behind links no_links ≡ links
behind-none no_links = refl
behind-none (then_link sign e f swapped more) =
    ap (λ others. then_link sign e f swapped others) (behind-none more)

behind-assoc : (x y z : Links) → behind x (behind y z) ≡ behind (behind x y) z
behind-assoc no_links y z = refl
behind-assoc (then_link sign e f swapped more) y z =
    ap (λ others. then_link sign e f swapped others) (behind-assoc more y z)

code_first : (sign : Comparison) (e : Expr) (by : Option Choice) (more : Links)
    → link_code sign e by more ≡ behind (link_code sign e by no_links) more
code_first sign e None more = refl
code_first sign e (Some by) more = refl

-- ---- what a chain that has no more links is

abbrev pub ended_chain : At → Expr → ℕ → Begun → Typed
ended_chain at e tag done = record {
  at = at;
  form = Value (Chain e done.links);
  tag = tag;
  value = ended_value done.value;
  literals = done.literals;
  warned = done.warned;
}

-- ---- values

abbrev onto : Option (ℤ × Bool) → Option (List (Comparison × ℤ)) → Option ℤ
onto None links = None
onto (Some so_far) None = None
onto (Some so_far) (Some links) = Some (truth (so_far.1 && chain_holds so_far.0 links))

begun_onto : (value : Option ℤ) (links : Option (List (Comparison × ℤ)))
    → chain_value value links ≡ onto (holding value) links
begun_onto None links = refl
begun_onto (Some v) None = refl
begun_onto (Some v) (Some links) = refl

all_hold : (a b c : Bool) → (a && (b && c)) ≡ ((a && b) && c)
all_hold true b c = refl
all_hold false b c = refl

more_onto : (so_far : Option (ℤ × Bool)) (link : Option (Comparison × ℤ))
    (links : Option (List (Comparison × ℤ)))
    → onto so_far (and_more link links) ≡ onto (value_with so_far link) links
unfolding chain_holds
more_onto None link links = refl
more_onto (Some so_far) None links = refl
more_onto (Some so_far) (Some link) None = refl
more_onto (Some so_far) (Some link) (Some links) =
    ap (λ (b : Bool). Some (truth b))
    (all_hold so_far.1 (compare link.0 so_far.0 link.1) (chain_holds link.1 links))

and_true : (a : Bool) → (a && true) ≡ a
and_true true = refl
and_true false = refl

onto_none : (so_far : Option (ℤ × Bool)) → onto so_far (Some []) ≡ ended_value so_far
unfolding chain_holds
onto_none None = refl
onto_none (Some so_far) = ap (λ (b : Bool). Some (truth b)) (and_true so_far.1)

-- ---- the links behind what stands

abbrev from : Links → Verdict Links → Verdict Links
from done more = after more (λ others. Stands (behind done others))

from_none : (w : Verdict Links) → w ≡ from no_links w
from_none (Stands links) = refl
from_none (Breaks faults) = refl

from_one : (done : Links) (sign : Comparison) (e : Expr) (by : Option Choice) (w : Verdict Links)
    → from done (after w (λ others. Stands (link_code sign e by others)))
    ≡ from (behind done (link_code sign e by no_links)) w
from_one done sign e by (Stands others) =
    ap (λ (links : Links). Stands (behind done links)) (code_first sign e by others)
    ∙ ap (λ (links : Links). Stands links) (behind-assoc done (link_code sign e by no_links) others)
from_one done sign e by (Breaks faults) = refl

abbrev literals_in : Compared → List StaticObject
literals_in link = link.operand.literals

module _ (cx : Around) (at : At) (x : Typed) (all : List Compared) where
  -- so many links stand, and the rest goes on from there
  pub record ChainSoFar (rest : List Compared) (done : Begun) : Type 0 where
    pub code : links_code cx at x.tag all ≡ from done.links (links_code cx at done.left rest)
    pub value : chain_value x.value (links_value cx x.tag all)
        ≡ onto done.value (links_value cx done.left rest)
    pub literals : x.literals ++ flat_map literals_in all
        ≡ done.literals ++ flat_map literals_in rest
    pub warned : x.warned ++ links_warned cx x.tag all
        ≡ done.warned ++ links_warned cx done.left rest

  pub chain_begins : (done : Begun) → done ≡ record {
    left = x.tag;
    links = no_links;
    value = holding x.value;
    literals = x.literals;
    warned = x.warned;
  } → ChainSoFar all done
  chain_begins done e =
      let P : Begun → Type 0 = λ it. ChainSoFar all it in
      subst P (sym e) (record {
        code = from_none (links_code cx at x.tag all);
        value = begun_onto x.value (links_value cx x.tag all);
        literals = refl;
        warned = refl;
      })

  warned_is : (left : ℕ) (it : Typed) (by : Option Choice)
      → link_warned cx left it by ≡ link_tests cx left it.tag it.at by ++ it.warned
  warned_is left it None = refl
  warned_is left it (Some by) = refl

  with_one : (it : Compared) (rest : List Compared) (done : Begun) (e : Expr)
      → cell at it.operand ≡ Stands e → ChainSoFar (it ∷ rest) done
      → ChainSoFar rest (with_link cx done it e (link_choice cx done.left it))
  unfolding links_code links_value links_warned
  with_one it rest done e stands so_far =
      let by : Option Choice = link_choice cx done.left it in
      record {
        code = so_far.code
            ∙ rw stands (from_one done.links it.sign e by (links_code cx at it.operand.tag rest));
        value = so_far.value
            ∙ more_onto done.value (link_value it.sign it.operand.value by)
            (links_value cx it.operand.tag rest);
        literals = so_far.literals
            ∙ sym (append_assoc done.literals it.operand.literals (flat_map literals_in rest));
        warned = so_far.warned
            ∙ (ap (λ (own : List At). done.warned ++ (own ++ links_warned cx it.operand.tag rest))
            (warned_is done.left it.operand by)
            ∙ sym (append_assoc done.warned
            (link_tests cx done.left it.operand.tag it.operand.at by ++ it.operand.warned)
            (links_warned cx it.operand.tag rest)));
      }

  step_stands : (w : Verdict Expr) (it : Compared) (rest : List Compared) (done next : Begun)
      → cell at it.operand ≡ w
      → after w (λ e. Stands (with_link cx done it e (link_choice cx done.left it))) ≡ Stands next
      → ChainSoFar (it ∷ rest) done → ChainSoFar rest next
  step_stands (Stands e) it rest done next is same so_far =
      let made : with_link cx done it e (link_choice cx done.left it) ≡ next = cc in
      let P : Begun → Type 0 = λ (b : Begun). ChainSoFar rest b in
      subst P made (with_one it rest done e is so_far)
  step_stands (Breaks faults) it rest done next is same so_far = cc

  pub chain_more : (it : Compared) (rest : List Compared) (done next : Begun)
      → ChainSoFar (it ∷ rest) done → link_step cx at done it ≡ Stands next
      → ChainSoFar rest next
  chain_more it rest done next so_far same =
      step_stands (cell at it.operand) it rest done next refl same so_far

  step_fails : (w : Verdict Expr) (rule : Expr → Begun) (fault : CheckFault)
      → Fails (faults_of (after w (λ e. Stands (rule e)))) fault → Fails (faults_of w) fault
  step_fails (Stands e) rule fault h = h
  step_fails (Breaks faults) rule fault h = h

  pub chain_fails : (it : Compared) (rest : List Compared) (done : Begun) (fault : CheckFault)
      → ChainSoFar (it ∷ rest) done → Fails (faults_of (link_step cx at done it)) fault
      → Fails (faults_of (chain_rule cx at x all)) fault
  unfolding links_code chain_rule
  chain_fails it rest done fault so_far h =
      let broken : Fails (faults_of (cell at it.operand)) fault =
      step_fails (cell at it.operand)
      (λ e. with_link cx done it e (link_choice cx done.left it)) fault h in
      let here : Fails (faults_of (links_code cx at done.left (it ∷ rest))) fault =
      fails_first (cell at it.operand) (links_code cx at it.operand.tag rest)
      (λ e more. Stands (link_code it.sign e (link_choice cx done.left it) more)) fault broken in
      let whole : Fails (faults_of (links_code cx at x.tag all)) fault =
      rw so_far.code (fails_after (links_code cx at done.left (it ∷ rest))
      (λ others. Stands (behind done.links others)) fault here) in
      search (rules, fails_second, whole)

  pub chain_ends : (e : Expr) (tag : ℕ) (done : Begun) → cell at x ≡ Stands e
      → tag ≡ chain_tag cx x.tag all → ChainSoFar [] done
      → chain_rule cx at x all ≡ Stands (ended_chain at e tag done)
  unfolding links_code links_value links_warned chain_rule
  chain_ends e tag done stands same so_far =
      let links : links_code cx at x.tag all ≡ Stands done.links =
      so_far.code ∙ ap (λ (links : Links). Stands links) (behind-none done.links) in
      let value : chain_value x.value (links_value cx x.tag all) ≡ ended_value done.value =
      so_far.value ∙ onto_none done.value in
      let literals : x.literals ++ flat_map literals_in all ≡ done.literals =
      so_far.literals ∙ append-nil done.literals in
      let warned : x.warned ++ links_warned cx x.tag all ≡ done.warned =
      so_far.warned ∙ append-nil done.warned in
      rw (stands, links, value, literals, warned, same) refl

-- ---- over the links that code holds

module _ (cx : Around) (at : At) (x : Typed) (links : List held_compared.Compared) where
  abbrev pub LinksSoFar : ℕ → Begun → Type 0
  LinksSoFar = λ i done.
      ChainSoFar cx at x (map compared_view links) (map compared_view (drop i links)) done

  in_front : (i : ℕ) (it : held_compared.Compared) (done : Begun) → LinksSoFar i done
      → i < length links → it ≡ get_or links i it
      → ChainSoFar cx at x (map compared_view links)
      (compared_view it ∷ map compared_view (drop (i + 1) links)) done
  in_front i it done so_far lt e =
      let P : List held_compared.Compared → Type 0 =
      λ rest. ChainSoFar cx at x (map compared_view links) (map compared_view rest) done in
      subst P (next links i it lt e) so_far

  pub links_more_stand : (xs : List held_compared.Compared) (it : held_compared.Compared)
      (done following : Begun) → LinksSoFar (length xs) done
      → (length xs < length links) × (it ≡ get_or links (length xs) it)
      → link_step cx at done (compared_view it) ≡ Stands following
      → LinksSoFar (length (xs ++ it ∷ [])) following
  links_more_stand xs it done following so_far turn stands =
      let n : length xs + 1 ≡ length (xs ++ it ∷ []) = sym (length_push xs it) in
      let P : ℕ → Type 0 = λ i. LinksSoFar i following in
      subst P n (chain_more cx at x (map compared_view links) (compared_view it)
      (map compared_view (drop (length xs + 1) links)) done following
      (in_front (length xs) it done so_far turn.0 turn.1) stands)

  pub links_fail : (xs : List held_compared.Compared) (it : held_compared.Compared)
      (done : Begun) (fault : CheckFault) → LinksSoFar (length xs) done
      → (length xs < length links) × (it ≡ get_or links (length xs) it)
      → Fails (faults_of (link_step cx at done (compared_view it))) fault
      → Fails (faults_of (chain_rule cx at x (map compared_view links))) fault
  links_fail xs it done fault so_far turn h =
      chain_fails cx at x (map compared_view links) (compared_view it)
      (map compared_view (drop (length xs + 1) links)) done fault
      (in_front (length xs) it done so_far turn.0 turn.1) h

  pub links_end : (n : ℕ) (e : Expr) (tag : ℕ) (done : Begun) → n ≡ length links
      → cell at x ≡ Stands e → tag ≡ chain_tag cx x.tag (map compared_view links)
      → LinksSoFar n done
      → chain_rule cx at x (map compared_view links) ≡ Stands (ended_chain at e tag done)
  links_end n e tag done all stands same so_far =
      let le : length links ≤ n = omega (arith, all) in
      let P : List held_compared.Compared → Type 0 =
      λ rest. ChainSoFar cx at x (map compared_view links) (map compared_view rest) done in
      chain_ends cx at x (map compared_view links) e tag done stands same
      (subst P (drop_all n links le) so_far)
