-- What an expression is worth by what its parts are worth, and which fault it has by theirs.
use Rattle.std.proofs.Common.{◌≡◌, ◌<◌, ◌≤◌, ℕ, zero, suc, ℤ, Bool, true, false, List, [], ◌∷◌, map}
use Rattle.std.proofs.Common.{length, get_or, Option, Some, None, Result, slice_get, option_map}
use Rattle.std.proofs.Common.{refl, sym, ap, ◌∙◌, lit<, arith}
use Rattle.std.proofs.lemmas.Option.{slice_get-map, slice_get-get_or}
use Rattle.std.specs.declared.boxed.Box.{Box}
use Rattle.std.specs.declared.alloc.Global.{Global}
use Rattle.pawn_cells.specs.declared.place.Place.{Place}
use Rattle.pawn_cells.specs.declared.operator.Prefix.{Prefix}
use Rattle.pawn_cells.specs.declared.operator.Operator.{Operator}
use Rattle.pawn_cells.specs.declared.operator.Comparison.{Comparison}
use Rattle.pawn_cells.specs.Cells.{truth}
use Rattle.pawn_cells.specs.Operators.{prefix, binary, compare}
use Rattle.pawn_tags.specs.Tags.{untagged}
use Rattle.pawn_tags.specs.declared.op.Op.{Op}
use Rattle.pawn_tree.specs.declared.name.At.{At}
use Rattle.pawn_tree.specs.declared.expression.Expr as held
use Rattle.pawn_tree.specs.declared.expression.Link as held_link
use Rattle.pawn_tree.specs.Expressions.{links}
use Rattle.pawn_tree.specs.View.{expr_view, link_view}
use Rattle.pawn_tree.proofs.ViewLaws.{chain_view}
use Rattle.names_rules.specs.Verdict.{Verdict, Stands, faults_of, after}
use Rattle.names_rules.specs.Signs as plain
use Rattle.names_rules.specs.Known.{Known, Cells}
use Rattle.names_rules.specs.Around.{Around, truth_tag}
use Rattle.names_rules.specs.Worth.{Valued, valued, not_constant, size_at, one_cell, kind_size}
use Rattle.names_rules.specs.Worth.{is_chosen, unless_chosen, prefix_tag, prefix_worth}
use Rattle.names_rules.specs.Worth.{operator_tag, operated, between_worth, linked, tagged_worth}
use Rattle.names_rules.specs.Worth.{chosen_worth, worth, links_hold}
use Rattle.pawn_verdict.specs.declared.fault.CheckFault.{CheckFault}
use Rattle.pawn_verdict.specs.declared.fault.CheckFault.TheVariants.{Source}
use Rattle.names_sight.specs.declared.fault.Fault as kept
use Rattle.pawn_verdict.specs.Answers.{Fails}
use Rattle.names_sight.specs.Views.{size_view}
use Rattle.pawn_verdict.proofs.VerdictLaws.{fails_after, after_is, both_is}

module _ (around : Around) (place : Place) where
  -- ---- operators of the program

  chosen_fails : {A : Type 0} (op : Option Op) (left right : ℕ) (x : Verdict A) (fault : CheckFault)
      → is_chosen around place op left right ≡ true
      → fault ≡ Source 57 place → Fails
      (faults_of (unless_chosen around place op left right x)) fault
  chosen_fails op left right x fault h e = rw (h, e) (record { cause = (0, lit< tt, refl) })

  unchosen : {A : Type 0} (op : Option Op) (left right : ℕ) (x : Verdict A)
      → is_chosen around place op left right ≡ false
      → unless_chosen around place op left right x ≡ x
  unchosen op left right x h = rw h refl

  pub prefix_fails : (before : plain.Before) (sign : Prefix) (op : Option Op) (x : Valued)
      (fault : CheckFault) → plain.Applies sign op ≡ before
      → is_chosen around place op x.tag untagged ≡ true → fault ≡ Source 57 place
      → Fails (faults_of (prefix_worth around place before x)) fault
  prefix_fails before sign op x fault b h e = rw (← b) (chosen_fails op x.tag untagged _ fault h e)

  pub prefix_stands : (before : plain.Before) (sign : Prefix) (op : Option Op) (x y : Valued)
      (value : ℤ) (tag : ℕ) → plain.Applies sign op ≡ before
      → is_chosen around place op x.tag untagged ≡ false → value ≡ prefix sign x.value
      → tag ≡ prefix_tag around place sign x.tag
      → y ≡ record { value = value; tag = tag } → prefix_worth around place before x ≡ Stands y
  prefix_stands before sign op x y value tag b h v t e =
      rw (← b, e, v, t) (unchosen op x.tag untagged
      (valued (prefix sign x.value) (prefix_tag around place sign x.tag)) h)

  pub between_fails : (at : Place) (between : plain.Between) (operator : Operator) (op : Option Op)
      (x y : Valued) (fault : CheckFault)
      → plain.Operates operator op ≡ between → is_chosen around place op x.tag y.tag ≡ true
      → fault ≡ Source 57 place
      → Fails (faults_of (between_worth around place at between x y)) fault
  between_fails at between operator op x y fault b h e =
      rw (← b) (chosen_fails op x.tag y.tag _ fault h e)

  pub between_is : (at : Place) (between : plain.Between) (operator : Operator) (op : Option Op)
      (x y : Valued)
      → plain.Operates operator op ≡ between → is_chosen around place op x.tag y.tag ≡ false
      → between_worth around place at between x y
      ≡ operated around place at (operator_tag around place operator x.tag)
      (binary operator x.value y.value)
  between_is at between operator op x y b h =
      rw (← b) (unchosen op x.tag y.tag
      (operated around place at (operator_tag around place operator x.tag)
      (binary operator x.value y.value)) h)

  pub operated_stands : (at : Place) (tag t : ℕ) (value : Option ℤ) (v : ℤ) (y : Valued)
      → Some v ≡ value → t ≡ tag
      → y ≡ record { value = v; tag = t } → operated around place at tag value ≡ Stands y
  operated_stands at tag t value v y b h e = rw (← b, e, h) refl

  pub link_breaks : (link : plain.Link) (comparison : Comparison) (op : Op) (x y : Valued)
      (fault : CheckFault) → plain.Compares comparison op ≡ link
      → is_chosen around place (Some op) x.tag y.tag ≡ true → fault ≡ Source 57 place
      → Fails (faults_of (linked around place link x y)) fault
  link_breaks link comparison op x y fault b h e =
      rw (← b) (chosen_fails (Some op) x.tag y.tag _ fault h e)

  pub link_stands : (link : plain.Link) (comparison : Comparison) (op : Op) (x y : Valued)
      (holds : Bool) → plain.Compares comparison op ≡ link
      → is_chosen around place (Some op) x.tag y.tag ≡ false
      → holds ≡ compare comparison x.value y.value
      → linked around place link x y ≡ Stands holds
  link_stands link comparison op x y holds b h e =
      rw (← b, e) (unchosen (Some op) x.tag y.tag (Stands (compare comparison x.value y.value)) h)

  -- ---- sizes

  cells_at : (brackets : ℕ) (sizes : List (Result ℤ kept.Fault)) → 0 < length sizes
      → kind_size around place brackets (Cells (map size_view sizes))
      ≡ size_at around place (slice_get (map size_view sizes) brackets)
  cells_at brackets [] h = absurd (omega (arith, h))
  cells_at brackets (x ∷ sizes) h = refl

  pub no_cells : (brackets : ℕ) (sizes : List (Result ℤ kept.Fault)) → length sizes ≡ 0
      → kind_size around place brackets (Cells (map size_view sizes))
      ≡ one_cell around place brackets
  no_cells brackets [] h = refl
  no_cells brackets (x ∷ sizes) h = absurd (omega (arith, h))

  none_past : {A : Type 0} (xs : List A) (i : ℕ) → length xs ≤ i → slice_get xs i ≡ None
  none_past [] i h = refl
  none_past (x ∷ xs) zero h = absurd (omega (arith, h))
  none_past (x ∷ xs) (suc i) h = let le : length xs ≤ i = omega (arith, h) in none_past xs i le

  pub cells_have : (brackets : ℕ) (sizes : List (Result ℤ kept.Fault)) (d : Result ℤ kept.Fault)
      → brackets < length sizes
      → kind_size around place brackets (Cells (map size_view sizes))
      ≡ size_at around place (Some (size_view (get_or sizes brackets d)))
  cells_have brackets sizes d lt =
      let some : 0 < length sizes = omega (arith, lt) in
      cells_at brackets sizes some
      ∙ ap (size_at around place) (slice_get-map size_view sizes brackets
      ∙ ap (option_map size_view) (slice_get-get_or sizes brackets d lt))

  pub cells_lack : (brackets : ℕ) (sizes : List (Result ℤ kept.Fault)) → 0 < length sizes
      → length sizes ≤ brackets
      → kind_size around place brackets (Cells (map size_view sizes)) ≡ not_constant around place
  cells_lack brackets sizes some le =
      cells_at brackets sizes some
      ∙ ap (size_at around place) (slice_get-map size_view sizes brackets
      ∙ ap (option_map size_view) (none_past sizes brackets le))

  -- ---- expressions

  module _ (means : List ℕ → Option Known) where
    pub tagged_stands : (e : held.Expr) (at : At) (tag : List ℕ) (x : Box held.Expr Global)
        (v y : Valued) → e ≡ held.Tagged at tag x
        → worth around place means (expr_view x.value) ≡ Stands v
        → Stands y ≡ tagged_worth around place tag v
        → worth around place means (expr_view e) ≡ Stands y
    tagged_stands e at tag x v y is h s =
        rw is (after_is (worth around place means (expr_view x.value))
        (tagged_worth around place tag) v h ∙ sym s)

    pub choice_stands : (e : held.Expr) (at : At) (p q r : Box held.Expr Global) (a b c y : Valued)
        → e ≡ held.Choice at p q r
        → worth around place means (expr_view p.value) ≡ Stands a
        → worth around place means (expr_view q.value) ≡ Stands b
        → worth around place means (expr_view r.value) ≡ Stands c
        → Stands y ≡ chosen_worth around place a b c
        → worth around place means (expr_view e) ≡ Stands y
    choice_stands e at p q r a b c y is h k l s = rw (is, h, k, l) (sym s)

    -- what a chain is worth behind its first operand
    abbrev after_links : Valued → List held_link.Link → Verdict Valued
    after_links first list =
        after (links_hold around place means first (links (map link_view list)))
        (λ holds. valued (truth holds) truth_tag)

    chain_is : (at : At) (x : Box held.Expr Global) (list : List held_link.Link) (first : Valued)
        → worth around place means (expr_view x.value) ≡ Stands first
        → worth around place means (expr_view (held.Chain at x list))
        ≡ after_links first list
    chain_is at x list first h =
        ap (λ e. worth around place means e) (chain_view at x list) ∙ rw h refl

    pub chain_stands : (e : held.Expr) (at : At) (x : Box held.Expr Global)
        (list : List held_link.Link) (first : Valued) (holds : Bool) (y : Valued)
        → e ≡ held.Chain at x list
        → worth around place means (expr_view x.value) ≡ Stands first
        → links_hold around place means first (links (map link_view list)) ≡ Stands holds
        → Stands y ≡ valued (truth holds) truth_tag
        → worth around place means (expr_view e) ≡ Stands y
    chain_stands e at x list first holds y is h k s =
        rw is (chain_is at x list first h ∙ rw k (sym s))

    pub chain_fails : (e : held.Expr) (at : At) (x : Box held.Expr Global)
        (list : List held_link.Link) (first : Valued) (fault : CheckFault)
        → e ≡ held.Chain at x list
        → worth around place means (expr_view x.value) ≡ Stands first
        → Fails (faults_of (links_hold around place means first (links (map link_view list)))) fault
        → Fails (faults_of (worth around place means (expr_view e))) fault
    chain_fails e at x list first fault is h k =
        rw (is, chain_is at x list first h)
        (fails_after (links_hold around place means first (links (map link_view list))) _
        fault k)
