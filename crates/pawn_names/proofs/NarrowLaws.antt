-- Where code keeps less of what is declared, what it finds is narrower: what stands is the same,
-- and its faults are some of those that there are.
use Rattle.std.proofs.Common.{◌<◌, ℕ, zero, suc, ℤ, List, [], ◌∷◌, ◌++◌, map, Option, Some, None}
use Rattle.std.proofs.Common.{slice_get, refl, ⊎_elim, arith}
use Rattle.std.specs.List.{Contains}
use Rattle.std.proofs.lemmas.List.Elements.{Contains-append_left, Contains-append_right}
use Rattle.std.proofs.lemmas.List.Elements.{Contains-append_cases}
use Rattle.pawn_cells.specs.declared.place.Place.{Place}
use Rattle.pawn_tree.specs.declared.expression.SizeofOperand.{SizeofOperand}
use Rattle.pawn_tree.specs.declared.expression.SizeofOperand.TheVariants as sized
use Rattle.pawn_tree.specs.declared.expression.TagofOperand.{TagofOperand}
use Rattle.pawn_tree.specs.declared.expression.TagofOperand.TheVariants as tagged
use Rattle.pawn_tree.specs.Expressions as e
use Rattle.pawn_tree.specs.Expressions.{Expr, Link, Links}
use Rattle.pawn_tree.specs.Variables as var
use Rattle.pawn_tree.specs.Variables.{Dim, Init}
use Rattle.names_rules.specs.Verdict.{Verdict, Stands, Breaks, Fault, faults_of, after, both}
use Rattle.names_rules.specs.Known.{Known, Kind, Cells, Worth, Function}
use Rattle.names_rules.specs.Mark as mark
use Rattle.names_rules.specs.Mark.{Sort}
use Rattle.names_rules.specs.Around.{Around}
use Rattle.names_rules.specs.Worth.{Valued, known_value, name_worth, size_at, kind_size, name_size}
use Rattle.names_rules.specs.Worth.{name_tag, sizeof_worth, tagof_worth, worth, links_hold}
use Rattle.names_rules.specs.Worth.{link_worth}
use Rattle.names_rules.specs.Sizes.{constant_size, character_size, dim_size, first_size}
use Rattle.names_rules.specs.Sizes.{variable_sizes, open_size, parameter_sizes}
use Rattle.names_rules.specs.Found.{kind_of}
use Rattle.names_sight.specs.Narrower.{Narrower, AreNarrower, NarrowerKind, NarrowerMeant}

-- ---- verdicts

pub same_narrower : {A : Type 0} (w : Verdict A) → Narrower w w
same_narrower w = record { stands = λ x h. h; faults = λ fault h. h }

no_fault : {fault : Fault} {P : Type 0} → Contains [] fault → P
no_fault h = let k : h.0 < 0 = h.1 in absurd (omega (arith, k))

breaks_narrower : {A : Type 0} (faults : List Fault) (w : Verdict A)
    → ((fault : Fault) → Contains faults fault → Contains (faults_of w) fault)
    → Narrower (Breaks faults) w
breaks_narrower faults w h =
    record { stands = λ x same. absurd (let no : ⊥ = cc in no); faults = h }

pub after_narrower : {A B : Type 0} (v w : Verdict A) (f g : A → Verdict B) → Narrower v w
    → ((x : A) → Narrower (f x) (g x))
    → Narrower (after v f) (after w g)
after_narrower (Stands x) w f g h rules = rw (h.stands x refl) (rules x)
after_narrower (Breaks faults) (Stands y) f g h rules =
    breaks_narrower faults (g y) (λ fault c. no_fault (h.faults fault c))
after_narrower (Breaks faults) (Breaks others) f g h rules =
    breaks_narrower faults (Breaks others) h.faults

pub both_narrower : {A B C : Type 0} (v w : Verdict A) (x y : Verdict B) (f g : A → B → Verdict C)
    → Narrower v w → Narrower x y
    → ((a : A) (b : B) → Narrower (f a b) (g a b)) → Narrower (both v x f) (both w y g)
both_narrower (Stands a) w x y f g h k rules =
    rw (h.stands a refl) (after_narrower x y (f a) (g a) k (rules a))
both_narrower (Breaks faults) (Breaks others) x y f g h k rules =
    breaks_narrower (faults ++ faults_of x) (Breaks (others ++ faults_of y)) (λ fault c.
    ⊎_elim (λ c1. Contains-append_left others (faults_of y) fault (h.faults fault c1))
    (λ c2. Contains-append_right others (faults_of y) fault (k.faults fault c2))
    (Contains-append_cases faults (faults_of x) fault c))
both_narrower (Breaks faults) (Stands b) x (Breaks others) f g h k rules =
    breaks_narrower (faults ++ faults_of x) (Breaks others) (λ fault c.
    ⊎_elim (λ c1. no_fault (h.faults fault c1)) (λ c2. k.faults fault c2)
    (Contains-append_cases faults (faults_of x) fault c))
both_narrower (Breaks faults) (Stands b) x (Stands d) f g h k rules =
    breaks_narrower (faults ++ faults_of x) (g b d) (λ fault c.
    ⊎_elim (λ c1. no_fault (h.faults fault c1)) (λ c2. no_fault (k.faults fault c2))
    (Contains-append_cases faults (faults_of x) fault c))

-- ---- constants

-- what is known everywhere, without functions
abbrev pub bare : Around → Around
bare around = record { tags = around.tags; overloads = around.overloads; names = [] }

module _ (around : Around) (place : Place) where
  known_narrower : (tag : ℕ) (kept known : Kind) → NarrowerKind kept known
      → Narrower (known_value (bare around) place tag kept) (known_value around place tag known)
  known_narrower tag (Cells kept) (Cells sizes) h = same_narrower _
  known_narrower tag (Worth kept) (Worth known) h =
      after_narrower kept known _ _ h (λ value. same_narrower _)
  known_narrower tag Function Function h = same_narrower _
  known_narrower tag (Cells kept) (Worth known) h = absurd h
  known_narrower tag (Cells kept) Function h = absurd h
  known_narrower tag (Worth kept) (Cells sizes) h = absurd h
  known_narrower tag (Worth kept) Function h = absurd h
  known_narrower tag Function (Cells sizes) h = absurd h
  known_narrower tag Function (Worth known) h = absurd h

  pub name_narrower : (at : Place) (kept known : Option Known) → NarrowerMeant kept known
      → Narrower (name_worth (bare around) place at kept) (name_worth around place at known)
  name_narrower at None None h = same_narrower _
  name_narrower at (Some kept) (Some known) h =
      rw h.tag (known_narrower known.tag kept.kind known.kind h.kind)
  name_narrower at None (Some known) h = absurd h
  name_narrower at (Some kept) None h = absurd h

  size_narrower : (kept sizes : List (Verdict ℤ)) (brackets : ℕ) → AreNarrower kept sizes
      → Narrower (size_at (bare around) place (slice_get kept brackets))
      (size_at around place (slice_get sizes brackets))
  size_narrower [] [] brackets h = same_narrower _
  size_narrower (x ∷ kept) (y ∷ sizes) zero h =
      after_narrower x y _ _ h.0 (λ value. same_narrower _)
  size_narrower (x ∷ kept) (y ∷ sizes) (suc brackets) h = size_narrower kept sizes brackets h.1
  size_narrower [] (y ∷ sizes) brackets h = absurd h
  size_narrower (x ∷ kept) [] brackets h = absurd h

  kind_narrower : (brackets : ℕ) (kept known : Kind) → NarrowerKind kept known
      → Narrower (kind_size (bare around) place brackets kept)
      (kind_size around place brackets known)
  kind_narrower brackets (Cells []) (Cells []) h = same_narrower _
  kind_narrower brackets (Cells (x ∷ kept)) (Cells (y ∷ sizes)) h =
      size_narrower (x ∷ kept) (y ∷ sizes) brackets h
  kind_narrower brackets (Cells []) (Cells (y ∷ sizes)) h = absurd h
  kind_narrower brackets (Cells (x ∷ kept)) (Cells []) h = absurd h
  kind_narrower brackets (Worth kept) (Worth known) h = same_narrower _
  kind_narrower brackets Function Function h = same_narrower _
  kind_narrower brackets (Cells kept) (Worth known) h = absurd h
  kind_narrower brackets (Cells kept) Function h = absurd h
  kind_narrower brackets (Worth kept) (Cells sizes) h = absurd h
  kind_narrower brackets (Worth kept) Function h = absurd h
  kind_narrower brackets Function (Cells sizes) h = absurd h
  kind_narrower brackets Function (Worth known) h = absurd h

  named_narrower : (at : Place) (brackets : ℕ) (kept known : Option Known)
      → NarrowerMeant kept known
      → Narrower (name_size (bare around) place at brackets kept)
      (name_size around place at brackets known)
  named_narrower at brackets None None h = same_narrower _
  named_narrower at brackets (Some kept) (Some known) h =
      kind_narrower brackets kept.kind known.kind h.kind
  named_narrower at brackets None (Some known) h = absurd h
  named_narrower at brackets (Some kept) None h = absurd h

  tag_narrower : (at : Place) (kept known : Option Known) → NarrowerMeant kept known
      → Narrower (name_tag (bare around) place at kept) (name_tag around place at known)
  tag_narrower at None None h = same_narrower _
  tag_narrower at (Some kept) (Some known) h = rw h.tag (same_narrower _)
  tag_narrower at None (Some known) h = absurd h
  tag_narrower at (Some kept) None h = absurd h

  module _ (kept known : List ℕ → Option Known)
      (means : (name : List ℕ) → NarrowerMeant (kept name) (known name)) where
    sizeof_narrower : (at : Place) (x : SizeofOperand)
        → Narrower (sizeof_worth (bare around) place kept at x)
        (sizeof_worth around place known at x)
    sizeof_narrower at (sized.Name name brackets) =
        named_narrower at brackets (kept name.bytes) (known name.bytes) (means name.bytes)
    sizeof_narrower at (sized.Text text brackets) = same_narrower _

    tagof_narrower : (at : Place) (x : TagofOperand)
        → Narrower (tagof_worth (bare around) place kept at x) (tagof_worth around place known at x)
    tagof_narrower at (tagged.Name name) =
        tag_narrower at (kept name.bytes) (known name.bytes) (means name.bytes)
    tagof_narrower at (tagged.Tag name) = same_narrower _

    mutual
      pub worth_narrower : (x : Expr)
          → Narrower (worth (bare around) place kept x) (worth around place known x)
      worth_narrower (e.Number at value) = same_narrower _
      worth_narrower (e.Text at bytes packed) = same_narrower _
      worth_narrower (e.Name at name) = name_narrower at.place (kept name) (known name) (means name)
      worth_narrower (e.Paren at x) = worth_narrower x
      worth_narrower (e.Sizeof at x) = sizeof_narrower at.place x
      worth_narrower (e.Tagof at x) = tagof_narrower at.place x
      worth_narrower (e.Prefix at sign x) =
          after_narrower _ _ _ _ (worth_narrower x) (λ x. same_narrower _)
      worth_narrower (e.Tagged at tag x) =
          after_narrower _ _ _ _ (worth_narrower x) (λ x. same_narrower _)
      worth_narrower (e.Postfix at sign x) = same_narrower _
      worth_narrower (e.Index at x y) = same_narrower _
      worth_narrower (e.Character at x y) = same_narrower _
      worth_narrower (e.Binary at sign x y) =
          both_narrower _ _ _ _ _ _ (worth_narrower x) (worth_narrower y) (λ x y. same_narrower _)
      worth_narrower (e.Chain at x links) =
          after_narrower _ _ _ _ (worth_narrower x)
          (λ first. after_narrower _ _ _ _ (links_narrower first links)
          (λ holds. same_narrower _))
      worth_narrower (e.Choice at x y z) =
          after_narrower _ _ _ _ (worth_narrower x)
          (λ test. both_narrower _ _ _ _ _ _ (worth_narrower y) (worth_narrower z)
          (λ y z. same_narrower _))
      worth_narrower (e.Assign at sign x y) = same_narrower _
      worth_narrower (e.Call at name args bare_call) = same_narrower _

      links_narrower : (left : Valued) (links : Links)
          → Narrower (links_hold (bare around) place kept left links)
          (links_hold around place known left links)
      links_narrower left e.no_links = same_narrower _
      links_narrower left (e.then_link link links) =
          after_narrower _ _ _ _ (link_narrower link)
          (λ right. both_narrower _ _ _ _ _ _ (same_narrower _) (links_narrower right links)
          (λ here rest. same_narrower _))

      link_narrower : (link : Link) → Narrower (link_worth (bare around) place kept link)
          (link_worth around place known link)
      link_narrower (e.Compare sign x) = worth_narrower x

    -- ---- sizes

    constant_narrower : (x : Expr)
        → Narrower (constant_size (bare around) place kept x) (constant_size around place known x)
    constant_narrower x = after_narrower _ _ _ _ (worth_narrower x) (λ x. same_narrower _)

    character_narrower : (x : Expr)
        → Narrower (character_size (bare around) place kept x) (character_size around place known x)
    character_narrower x = after_narrower _ _ _ _ (constant_narrower x) (λ x. same_narrower _)

    dim_narrower : (x : Dim) → Narrower (dim_size (bare around) place kept x)
        (dim_size around place known x)
    dim_narrower var.Open = same_narrower _
    dim_narrower (var.Cells x) = constant_narrower x
    dim_narrower (var.Chars x) = character_narrower x

    dims_narrower : (xs : List Dim)
        → AreNarrower (map (dim_size (bare around) place kept) xs)
        (map (dim_size around place known) xs)
    dims_narrower [] = tt
    dims_narrower (x ∷ xs) = (dim_narrower x, dims_narrower xs)

    first_narrower : (x : Dim) (init : Option Init)
        → Narrower (first_size (bare around) place kept x init)
        (first_size around place known x init)
    first_narrower var.Open init = same_narrower _
    first_narrower (var.Cells x) init = constant_narrower x
    first_narrower (var.Chars x) init = character_narrower x

    open_narrower : (x : Dim) → Narrower (open_size (bare around) place kept x)
        (open_size around place known x)
    open_narrower var.Open = same_narrower _
    open_narrower (var.Cells x) = constant_narrower x
    open_narrower (var.Chars x) = character_narrower x

    variable_narrower : (dims : List Dim) (init : Option Init)
        → AreNarrower (variable_sizes (bare around) place kept dims init)
        (variable_sizes around place known dims init)
    variable_narrower [] init = tt
    variable_narrower (x ∷ xs) init = (first_narrower x init, dims_narrower xs)

    parameter_narrower : (dims : List Dim)
        → AreNarrower (parameter_sizes (bare around) place kept dims)
        (parameter_sizes around place known dims)
    parameter_narrower [] = tt
    parameter_narrower (x ∷ xs) = (open_narrower x, dims_narrower xs)

    -- ---- declarations

    pub sort_narrower : (sort : Sort)
        → NarrowerKind (kind_of (bare around) kept place sort) (kind_of around known place sort)
    sort_narrower (mark.Variable dims init) = variable_narrower dims init
    sort_narrower (mark.Parameter dims) = parameter_narrower dims
    sort_narrower (mark.Constant value) =
        after_narrower _ _ _ _ (worth_narrower value) (λ x. same_narrower _)
    sort_narrower mark.First = same_narrower _
    sort_narrower (mark.Next last) =
        after_narrower _ _ _ _ (name_narrower place (kept last) (known last) (means last))
        (λ x. same_narrower _)
    sort_narrower (mark.Label last count) =
        after_narrower _ _ _ _ (name_narrower place (kept last) (known last) (means last))
        (λ x. same_narrower _)
