-- Each fault has the number of one of four rules.
use Rattle.std.proofs.Common.{◌≡◌, ℕ, zero, suc, ℤ, Bool, true, false, ◌&&◌, not, if◌then◌else◌}
use Rattle.std.proofs.Common.{List, [], ◌∷◌, ◌++◌, Option, Some, None, map, slice_get, option_map}
use Rattle.std.proofs.Common.{refl}
use Rattle.std.specs.Str.{bytes_eq}
use Rattle.pawn_cells.specs.declared.place.Place.{Place}
use Rattle.pawn_cells.specs.Constants.{predefined}
use Rattle.pawn_tree.specs.declared.expression.SizeofOperand.{SizeofOperand}
use Rattle.pawn_tree.specs.declared.expression.SizeofOperand.TheVariants as sized
use Rattle.pawn_tree.specs.declared.expression.TagofOperand.{TagofOperand}
use Rattle.pawn_tree.specs.declared.expression.TagofOperand.TheVariants as tagged
use Rattle.pawn_tree.specs.Expressions as e
use Rattle.pawn_tree.specs.Expressions.{Expr, Links}
use Rattle.pawn_tree.specs.Variables as v
use Rattle.pawn_tree.specs.Variables.{Dim, Init}
use Rattle.pawn_tree.specs.Declarations.{Tree}
use Rattle.pawn_tags.specs.declared.op.Op.{Op}
use Rattle.names_rules.specs.Verdict.{Fault, Verdict, Stands, Breaks, faults_of, after, both}
use Rattle.names_rules.specs.Mark.{Mark, Opens, Closes, Mentions, Uses, Declares, Use, Declaration}
use Rattle.names_rules.specs.Mark.{Sort, Variable, Parameter, Constant, First, Next, Label}
use Rattle.names_rules.specs.TreeMarks.{tree_marks}
use Rattle.names_rules.specs.FileNames.{FileName, file_names, is_twice, twice_faults}
use Rattle.names_rules.specs.Signs.{Before, Applies, Steps, before_of, Between, Operates, Decides}
use Rattle.names_rules.specs.Signs.{Takes, Nothing, between_of, Link, Compares, No_link, link_of}
use Rattle.names_rules.specs.Known.{Known, Kind, Cells, Worth, Function}
use Rattle.pawn_cells.specs.declared.constant.Constant as p
use Rattle.std.specs.Option.{option_or}
use Rattle.names_rules.specs.Around as a
use Rattle.names_rules.specs.Around.{Around, around_of, function_named, everywhere}
use Rattle.names_rules.specs.Worth.{Valued, worth, link_worth, link_sign, links_hold, not_constant}
use Rattle.names_rules.specs.Worth.{known_value, name_worth, kind_size, one_cell, size_at}
use Rattle.names_rules.specs.Worth.{name_size, name_tag, sizeof_worth, tagof_worth, is_chosen}
use Rattle.names_rules.specs.Worth.{unless_chosen, prefix_worth, between_worth, operated, linked}
use Rattle.names_rules.specs.Sizes.{constant_size, character_size, dim_size, expr_gives, given_size}
use Rattle.names_rules.specs.Sizes.{first_size, variable_sizes, open_size, parameter_sizes}
use Rattle.names_rules.specs.Found.{found, meaning, declared, kind_of, known_of, next_after}
use Rattle.names_rules.specs.Here.{is_here}
use Rattle.names_rules.specs.Faults.{use_faults, again_faults, value_faults, mark_faults}
use Rattle.names_rules.specs.Faults.{marks_faults, faults}
use Rattle.names_rules.specs.FaultKinds.{is_rule, AreRules}

-- ---- verdicts

both_hold : (here rest all : Bool) → (here && rest) ≡ true → (rest ≡ true → all ≡ true)
    → (here && all) ≡ true
both_hold true rest all h f = f h
both_hold false rest all h f = h

joined : (xs ys : List Fault) → AreRules xs → AreRules ys → AreRules (xs ++ ys)
joined [] ys x y = y
joined (fault ∷ xs) ys x y = both_hold (is_rule fault.kind) _ _ x (λ rest. joined xs ys rest y)

-- it breaks for some fault
abbrev Told : {A : Type 0} → Verdict A → Type 0
Told (Stands x) = Unit {0}
Told (Breaks []) = ⊥
Told (Breaks (fault ∷ more)) = Unit {0}

-- its faults are of the four rules, and it doesn't break without one
pub record Fine {A : Type 0} (w : Verdict A) : Type 0 where
  pub fine : AreRules (faults_of w)
  pub told : Told w

stands : {A : Type 0} (x : A) → Fine (Stands x)
stands x = record { fine = refl; told = tt }

after_fine : {A B : Type 0} {w : Verdict A} {rule : A → Verdict B} → Fine w
    → ((x : A) → Fine (rule x)) → Fine (after w rule)
after_fine {w = Stands x} w_fine f = f x
after_fine {w = Breaks []} w_fine f = absurd w_fine.told
after_fine {w = Breaks (fault ∷ more)} w_fine f = record { fine = w_fine.fine; told = tt }

both_fine : {A B C : Type 0} {v : Verdict A} {w : Verdict B} {rule : A → B → Verdict C} → Fine v
    → Fine w → ((x : A) (y : B) → Fine (rule x y)) → Fine (both v w rule)
both_fine {v = Stands x} v_fine w_fine f = after_fine w_fine (f x)
both_fine {v = Breaks []} v_fine w_fine f = absurd v_fine.told
both_fine {v = Breaks (fault ∷ more)} {w = w} v_fine w_fine f =
    record { fine = joined (fault ∷ more) (faults_of w) v_fine.fine w_fine.fine; told = tt }

if_fine : {A : Type 0} (b : Bool) {x y : Verdict A} → Fine x → Fine y → Fine (if b then x else y)
if_fine true x y = x
if_fine false x y = y

one_twice_fine : (place : Place) (b : Bool)
    → AreRules (if b then record { kind = 51; place = place } ∷ [] else [])
one_twice_fine place true = refl
one_twice_fine place false = refl

-- ---- what is known

pub data AllFine : List (Verdict ℤ) → Type 0 where
  all_fine : AllFine []
  one_fine : {w : Verdict ℤ} {ws : List (Verdict ℤ)} → Fine w → AllFine ws → AllFine (w ∷ ws)

abbrev pub KindFine : Kind → Type 0
KindFine (Cells sizes) = AllFine sizes
KindFine (Worth w) = Fine w
KindFine Function = Unit {0}

abbrev KnownFine : Option Known → Type 0
KnownFine None = Unit {0}
KnownFine (Some known) = KindFine known.kind

-- what names mean
record MeansFine (means : List ℕ → Option Known) : Type 0 where
  fine : (name : List ℕ) → KnownFine (means name)

-- ---- constant expressions

module _ (around : Around) (place : Place) where
  none : {A : Type 0} → Fine (not_constant around place {A = A})
  none = record { fine = refl; told = tt }

  size_at_fine : (ws : List (Verdict ℤ)) (i : ℕ) → AllFine ws
      → Fine (size_at around place (slice_get ws i))
  size_at_fine [] zero h = none
  size_at_fine [] (suc i) h = none
  size_at_fine (w ∷ ws) zero (one_fine h hs) = after_fine h (λ x. stands _)
  size_at_fine (w ∷ ws) (suc i) (one_fine h hs) = size_at_fine ws i hs

  one_cell_fine : (brackets : ℕ) → Fine (one_cell around place brackets)
  one_cell_fine zero = stands _
  one_cell_fine (suc brackets) = none

  kind_size_fine : (brackets : ℕ) (kind : Kind) → KindFine kind
      → Fine (kind_size around place brackets kind)
  kind_size_fine brackets (Cells []) h = one_cell_fine brackets
  kind_size_fine brackets (Cells (w ∷ ws)) h = size_at_fine (w ∷ ws) brackets h
  kind_size_fine brackets (Worth w) h = one_cell_fine brackets
  kind_size_fine brackets Function h = none

  known_value_fine : (tag : ℕ) (kind : Kind) → KindFine kind
      → Fine (known_value around place tag kind)
  known_value_fine tag (Cells sizes) h = none
  known_value_fine tag (Worth w) h = after_fine h (λ x. stands _)
  known_value_fine tag Function h = none

  name_worth_fine : (at : Place) (known : Option Known) → KnownFine known
      → Fine (name_worth around place at known)
  name_worth_fine at None h = record { fine = refl; told = tt }
  name_worth_fine at (Some known) h = known_value_fine known.tag known.kind h

  name_size_fine : (at : Place) (brackets : ℕ) (known : Option Known) → KnownFine known
      → Fine (name_size around place at brackets known)
  name_size_fine at brackets None h = record { fine = refl; told = tt }
  name_size_fine at brackets (Some known) h = kind_size_fine brackets known.kind h

  name_tag_fine : (at : Place) (known : Option Known) → Fine (name_tag around place at known)
  name_tag_fine at None = record { fine = refl; told = tt }
  name_tag_fine at (Some known) = stands _

  unless_fine : {A : Type 0} (op : Option Op) (left right : ℕ) {x : Verdict A} → Fine x
      → Fine (unless_chosen around place op left right x)
  unless_fine op left right h = if_fine (is_chosen around place op left right) none h

  prefix_fine : (before : Before) (x : Valued) → Fine (prefix_worth around place before x)
  prefix_fine Steps x = none
  prefix_fine (Applies sign op) x = unless_fine op _ _ (stands _)

  operated_fine : (at : Place) (tag : ℕ) (value : Option ℤ)
      → Fine (operated around place at tag value)
  operated_fine at tag None = record { fine = refl; told = tt }
  operated_fine at tag (Some value) = stands _

  between_fine : (at : Place) (between : Between) (x y : Valued)
      → Fine (between_worth around place at between x y)
  between_fine at (Operates operator op) x y = unless_fine op _ _ (operated_fine at _ _)
  between_fine at (Decides operator) x y = stands _
  between_fine at Takes x y = stands _
  between_fine at Nothing x y = none

  linked_fine : (link : Link) (x y : Valued) → Fine (linked around place link x y)
  linked_fine No_link x y = none
  linked_fine (Compares comparison op) x y = unless_fine (Some op) _ _ (stands _)

  module _ (means : List ℕ → Option Known) (h : MeansFine means) where
    sizeof_fine : (at : Place) (x : SizeofOperand) → Fine (sizeof_worth around place means at x)
    sizeof_fine at (sized.Name name brackets) =
        name_size_fine at brackets (means name.bytes) (h.fine name.bytes)
    sizeof_fine at (sized.Text text zero) = stands _
    sizeof_fine at (sized.Text text (suc brackets)) = none

    tagof_fine : (at : Place) (x : TagofOperand) → Fine (tagof_worth around place means at x)
    tagof_fine at (tagged.Name name) = name_tag_fine at (means name.bytes)
    tagof_fine at (tagged.Tag name) = stands _

    mutual
      worth_fine : (x : Expr) → Fine (worth around place means x)
      worth_fine (e.Number at value) = stands _
      worth_fine (e.Text at bytes packed) = none
      worth_fine (e.Name at name) = name_worth_fine at.place (means name) (h.fine name)
      worth_fine (e.Paren at x) = worth_fine x
      worth_fine (e.Sizeof at x) = sizeof_fine at.place x
      worth_fine (e.Tagof at x) = tagof_fine at.place x
      worth_fine (e.Prefix at sign x) = after_fine (worth_fine x) (prefix_fine (before_of sign))
      worth_fine (e.Tagged at tag x) = after_fine (worth_fine x) (λ y. stands _)
      worth_fine (e.Postfix at sign x) = none
      worth_fine (e.Index at x y) = none
      worth_fine (e.Character at x y) = none
      worth_fine (e.Binary at sign x y) =
          both_fine (worth_fine x) (worth_fine y) (between_fine at.place (between_of sign))
      worth_fine (e.Chain at x links) =
          after_fine (worth_fine x) (λ first. after_fine (links_fine first links)
          (λ holds. stands _))
      worth_fine (e.Choice at x y z) =
          after_fine (worth_fine x) (λ test. both_fine (worth_fine y) (worth_fine z)
          (λ a b. stands _))
      worth_fine (e.Assign at sign x y) = none
      worth_fine (e.Call at name args bare) = none

      links_fine : (left : Valued) (xs : Links) → Fine (links_hold around place means left xs)
      links_fine left e.no_links = stands _
      links_fine left (e.then_link x xs) =
          after_fine (link_fine x) (λ right. both_fine
          (linked_fine (link_of (link_sign around place x)) left right) (links_fine right xs)
          (λ a b. stands _))

      link_fine : (x : e.Link) → Fine (link_worth around place means x)
      link_fine (e.Compare sign x) = worth_fine x

    -- ---- sizes

    constant_fine : (x : Expr) → Fine (constant_size around place means x)
    constant_fine x = after_fine (worth_fine x) (λ size. stands _)

    character_fine : (x : Expr) → Fine (character_size around place means x)
    character_fine x = after_fine (constant_fine x) (λ size. stands _)

    dim_fine : (x : Dim) → Fine (dim_size around place means x)
    dim_fine v.Open = none
    dim_fine (v.Cells x) = constant_fine x
    dim_fine (v.Chars x) = character_fine x

    dims_fine : (xs : List Dim) → AllFine (map (dim_size around place means) xs)
    dims_fine [] = all_fine
    dims_fine (x ∷ xs) = one_fine (dim_fine x) (dims_fine xs)

    gives_fine : (x : Expr) → Fine (expr_gives around place means x)
    gives_fine (e.Text at bytes packed) = stands _
    gives_fine (e.Paren at x) = gives_fine x
    gives_fine (e.Tagged at tag x) = gives_fine x
    gives_fine (e.Number at value) = none
    gives_fine (e.Name at name) = none
    gives_fine (e.Sizeof at x) = none
    gives_fine (e.Tagof at x) = none
    gives_fine (e.Prefix at sign x) = none
    gives_fine (e.Postfix at sign x) = none
    gives_fine (e.Index at x y) = none
    gives_fine (e.Character at x y) = none
    gives_fine (e.Binary at sign x y) = none
    gives_fine (e.Chain at x links) = none
    gives_fine (e.Choice at x y z) = none
    gives_fine (e.Assign at sign x y) = none
    gives_fine (e.Call at name args bare) = none

    given_fine : (x : Option Init) → Fine (given_size around place means x)
    given_fine None = none
    given_fine (Some (v.Value x)) = gives_fine x
    given_fine (Some (v.Braces at xs true)) = none
    given_fine (Some (v.Braces at xs false)) = stands _

    first_fine : (x : Dim) (init : Option Init) → Fine (first_size around place means x init)
    first_fine v.Open init = given_fine init
    first_fine (v.Cells x) init = constant_fine x
    first_fine (v.Chars x) init = character_fine x

    variable_fine : (dims : List Dim) (init : Option Init)
        → AllFine (variable_sizes around place means dims init)
    variable_fine [] init = all_fine
    variable_fine (x ∷ xs) init = one_fine (first_fine x init) (dims_fine xs)

    open_fine : (x : Dim) → Fine (open_size around place means x)
    open_fine v.Open = stands _
    open_fine (v.Cells x) = constant_fine x
    open_fine (v.Chars x) = character_fine x

    parameter_fine : (dims : List Dim) → AllFine (parameter_sizes around place means dims)
    parameter_fine [] = all_fine
    parameter_fine (x ∷ xs) = one_fine (open_fine x) (dims_fine xs)

    -- ---- declarations

    next_fine : (name : List ℕ) → Fine (next_after around place (means name))
    next_fine name = after_fine (name_worth_fine place (means name) (h.fine name)) (λ x. stands _)

    kind_fine : (sort : Sort) → KindFine (kind_of around means place sort)
    kind_fine (Variable dims init) = variable_fine dims init
    kind_fine (Parameter dims) = parameter_fine dims
    kind_fine (Constant value) = after_fine (worth_fine value) (λ x. stands _)
    kind_fine First = stands _
    kind_fine (Next last) = next_fine last
    kind_fine (Label last count) = next_fine last

-- ---- marks

module _ (around : Around) where
  either_fine : (function : Option FileName) (constant : Option p.Constant)
      → KnownFine (option_or (option_map (a.function around.tags) function)
      (option_map a.constant constant))
  either_fine None None = tt
  either_fine None (Some x) = stands _
  either_fine (Some x) constant = tt

  everywhere_fine : (name : List ℕ) → KnownFine (everywhere around name)
  everywhere_fine name = either_fine (function_named around.names name) (predefined name)

  chosen_fine : (b : Bool) (x y : Option Known) → KnownFine x → KnownFine y
      → KnownFine (if b then x else y)
  chosen_fine true x y h k = h
  chosen_fine false x y h k = k

  some_fine : (known : Known) → KindFine known.kind → KnownFine (Some known)
  some_fine known h = h

  found_fine : (before : List Mark) (closed : ℕ) (name : List ℕ)
      → KnownFine (found around before closed name)
  found_fine [] closed name = everywhere_fine name
  found_fine (Opens ∷ before) zero name = found_fine before zero name
  found_fine (Opens ∷ before) (suc closed) name = found_fine before closed name
  found_fine (Closes ∷ before) closed name = found_fine before (suc closed) name
  found_fine (Mentions tag ∷ before) closed name = found_fine before closed name
  found_fine (Uses it ∷ before) closed name = found_fine before closed name
  found_fine (Declares it ∷ before) zero name =
      chosen_fine (bytes_eq it.name.bytes name)
      (Some (known_of around (found around before zero) it)) (found around before zero name)
      (some_fine (known_of around (found around before zero) it)
      (kind_fine around it.place (found around before zero)
      (record { fine = λ other. found_fine before zero other }) it.sort))
      (found_fine before zero name)
  found_fine (Declares it ∷ before) (suc closed) name = found_fine before (suc closed) name

  pub declared_fine : (before : List Mark) (it : Declaration)
      → KindFine (declared around before it).kind
  declared_fine before it =
      kind_fine around it.place (meaning around before)
      (record { fine = λ name. found_fine before zero name }) it.sort

  use_fine : (it : Use) (known : Option Known) → AreRules (use_faults it known)
  use_fine it None = refl
  use_fine it (Some known) = refl

  again_fine : (it : Declaration) (here : Bool) → AreRules (again_faults it here)
  again_fine it here = one_twice_fine it.place (not it.outside && here)

  value_fine : (kind : Kind) → KindFine kind → AreRules (value_faults kind)
  value_fine (Cells sizes) h = refl
  value_fine (Worth w) h = h.fine
  value_fine Function h = refl

  mark_fine : (before : List Mark) (mark : Mark) → AreRules (mark_faults around before mark)
  mark_fine before Opens = refl
  mark_fine before Closes = refl
  mark_fine before (Mentions tag) = refl
  mark_fine before (Uses it) = use_fine it (meaning around before it.name)
  mark_fine before (Declares it) =
      joined (again_faults it (is_here before it.name.bytes))
      (value_faults (declared around before it).kind)
      (again_fine it (is_here before it.name.bytes))
      (value_fine (declared around before it).kind (declared_fine before it))

  marks_fine : (marks : List Mark) → AreRules (marks_faults around marks)
  marks_fine [] = refl
  marks_fine (mark ∷ before) =
      joined (marks_faults around before) (mark_faults around before mark) (marks_fine before)
      (mark_fine before mark)

-- ---- the whole

twice_fine : (names : List FileName) → AreRules (twice_faults names)
twice_fine [] = refl
twice_fine (x ∷ before) =
    joined (twice_faults before) (if is_twice x before
    then record { kind = 51; place = x.place } ∷ [] else [])
    (twice_fine before) (one_twice_fine x.place (is_twice x before))

pub fault_kinds : (tree : Tree) → AreRules (faults tree)
fault_kinds tree =
    joined (twice_faults (file_names tree)) (marks_faults (around_of tree) (tree_marks tree))
    (twice_fine (file_names tree)) (marks_fine (around_of tree) (tree_marks tree))
