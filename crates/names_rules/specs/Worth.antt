-- What a constant expression is worth (Language Guide, "Constants", "Operators and expressions"),
-- by recursion on it. Every part has to be constant, needed or not, and no operator of the
-- program may be chosen in it.
use Rattle.std.specs.Prelude.{ℕ, zero, suc, ◌+◌, ◌/◌, ℤ, pos, Bool, true, false, ◌&&◌}
use Rattle.std.specs.Prelude.{if◌then◌else◌, List, [], ◌∷◌, length, Option, Some, None, is_some}
use Rattle.std.specs.Prelude.{slice_get, unwrap_or}
use Rattle.pawn_token.specs.declared.sign.Sign.{Sign}
use Rattle.pawn_cells.specs.declared.place.Place.{Place}
use Rattle.pawn_cells.specs.declared.operator.Prefix.{Prefix}
use Rattle.pawn_cells.specs.declared.operator.Prefix.TheVariants as before
use Rattle.pawn_cells.specs.declared.operator.Operator.{Operator}
use Rattle.pawn_cells.specs.Cells.{truth}
use Rattle.pawn_cells.specs.Operators.{prefix, binary, compare, logical, is_true}
use Rattle.pawn_tags.specs.Tags.{number_of, untagged}
use Rattle.pawn_tags.specs.Overloads.{choice}
use Rattle.pawn_tags.specs.declared.op.Op.{Op}
use Rattle.pawn_tree.specs.declared.name.Text as t
use Rattle.pawn_tree.specs.declared.expression.SizeofOperand.{SizeofOperand}
use Rattle.pawn_tree.specs.declared.expression.SizeofOperand.TheVariants as sized
use Rattle.pawn_tree.specs.declared.expression.TagofOperand.{TagofOperand}
use Rattle.pawn_tree.specs.declared.expression.TagofOperand.TheVariants as tagged
use Rattle.pawn_tree.specs.Expressions as tree
use Rattle.pawn_tree.specs.Expressions.{Expr, Links, no_links, then_link, Compare}
use Rattle.names_rules.specs.Verdict.{Verdict, Stands, broken, after, both}
use Rattle.names_rules.specs.Signs.{Before, Applies, Steps, before_of, Between, Operates, Decides}
use Rattle.names_rules.specs.Signs.{Takes, Nothing, between_of, is_test, Link, Compares, No_link}
use Rattle.names_rules.specs.Signs.{link_of}
use Rattle.names_rules.specs.Known.{Known, Kind, Cells, Worth, Function}
use Rattle.names_rules.specs.Around.{Around, truth_tag}

-- a value and its tag's number
pub record Valued : Type 0 where
  pub value : ℤ
  pub tag : ℕ

-- a constant that stands, with its tag's number
abbrev pub valued : ℤ → ℕ → Verdict Valued
valued value tag = Stands (record { value = value; tag = tag })

-- ---- texts

-- the cells of a text, with a zero behind it
abbrev pub text_cells : List ℕ → Bool → ℕ
text_cells bytes packed = if packed then (length bytes + 4) / 4 else length bytes + 1

module _ (around : Around) (place : Place) where
  -- where a constant is wanted, and none stands
  abbrev pub not_constant : {A : Type 0} → Verdict A
  not_constant = broken 57 place

  -- ---- names

  -- a constant's value
  abbrev pub known_value : ℕ → Kind → Verdict Valued
  known_value tag (Cells sizes) = not_constant
  known_value tag (Worth worth) = after worth (λ value. valued value tag)
  known_value tag Function = not_constant

  -- only the name of a constant has one
  abbrev pub name_worth : Place → Option Known → Verdict Valued
  name_worth at None = broken 50 at
  name_worth at (Some known) = known_value known.tag known.kind

  -- ---- sizes and tags

  -- of a size that `sizeof` asks for, which has to be known
  abbrev pub size_at : Option (Verdict ℤ) → Verdict Valued
  size_at None = not_constant
  size_at (Some size) = after size (λ value. valued value untagged)

  -- what has no sizes is one cell
  abbrev pub one_cell : ℕ → Verdict Valued
  one_cell zero = valued (pos 1) untagged
  one_cell (suc brackets) = not_constant

  -- behind so many `[]`
  abbrev pub kind_size : ℕ → Kind → Verdict Valued
  kind_size brackets (Cells []) = one_cell brackets
  kind_size brackets (Cells (size ∷ sizes)) = size_at (slice_get (size ∷ sizes) brackets)
  kind_size brackets (Worth worth) = one_cell brackets
  kind_size brackets Function = not_constant

  -- of `sizeof` of a name with so many pairs of brackets
  abbrev pub name_size : Place → ℕ → Option Known → Verdict Valued
  name_size at brackets None = broken 50 at
  name_size at brackets (Some known) = kind_size brackets known.kind

  -- of `sizeof` of a text, which has one dimension
  abbrev pub text_size : ℕ → t.Text → Verdict Valued
  text_size zero text = valued (pos (text_cells text.bytes text.packed)) untagged
  text_size (suc brackets) text = not_constant

  -- `tagof` gives the number of a tag
  abbrev pub tag_worth : ℕ → Verdict Valued
  tag_worth number = valued (pos number) untagged

  -- `tagof` of a name that is declared
  abbrev pub name_tag : Place → Option Known → Verdict Valued
  name_tag at None = broken 50 at
  name_tag at (Some known) = tag_worth known.tag

  -- ---- operators

  -- the program defines the operator for these tags
  abbrev pub is_chosen : Option Op → ℕ → ℕ → Bool
  is_chosen None left right = false
  is_chosen (Some op) left right = is_some (choice around.overloads op left right)

  -- the program defines no operator for these tags
  abbrev pub unless_chosen : {A : Type 0} → Option Op → ℕ → ℕ → Verdict A → Verdict A
  unless_chosen op left right x = if is_chosen op left right then not_constant else x

  -- `!` gives a truth value, and the others keep their operand's tag
  abbrev pub prefix_tag : Prefix → ℕ → ℕ
  prefix_tag before.Not tag = truth_tag
  prefix_tag before.Invert tag = tag
  prefix_tag before.Negate tag = tag

  -- of an operator before an operand
  abbrev pub prefix_worth : Before → Valued → Verdict Valued
  prefix_worth Steps x = not_constant
  prefix_worth (Applies sign op) x =
      unless_chosen op x.tag untagged (valued (prefix sign x.value) (prefix_tag sign x.tag))

  -- `==` and `!=` give truth values, and the others have their left operand's tag
  abbrev pub operator_tag : Operator → ℕ → ℕ
  operator_tag operator left = if is_test operator then truth_tag else left

  -- nothing where the operator, which begins at a place, divides by zero
  abbrev pub operated : Place → ℕ → Option ℤ → Verdict Valued
  operated at tag None = broken 67 at
  operated at tag (Some value) = valued value tag

  -- of an operator between two operands
  abbrev pub between_worth : Place → Between → Valued → Valued → Verdict Valued
  between_worth at (Operates operator op) x y =
      unless_chosen op x.tag y.tag
      (operated at (operator_tag operator x.tag) (binary operator x.value y.value))
  between_worth at (Decides operator) x y = valued (logical operator x.value y.value) truth_tag
  between_worth at Takes x y = Stands y
  between_worth at Nothing x y = not_constant

  -- ---- comparisons, tags and choices

  -- whether a comparison of a chain holds
  abbrev pub linked : Link → Valued → Valued → Verdict Bool
  linked No_link x y = not_constant
  linked (Compares comparison op) x y =
      unless_chosen (Some op) x.tag y.tag (Stands (compare comparison x.value y.value))

  -- how an operand is compared with the one before it
  abbrev pub link_sign : tree.Link → Sign
  link_sign (Compare sign x) = sign

  -- of an operand with a tag before it
  abbrev pub tagged_worth : List ℕ → Valued → Verdict Valued
  tagged_worth tag x = valued x.value (unwrap_or (number_of around.tags tag) untagged)

  -- of `? :`, with the tag of the first choice
  abbrev pub chosen_worth : Valued → Valued → Valued → Verdict Valued
  chosen_worth x y z = valued (if is_true x.value then y.value else z.value) y.tag

  -- ---- expressions

  module _ (means : List ℕ → Option Known) where
    -- the size of a name or of a text
    abbrev pub sizeof_worth : Place → SizeofOperand → Verdict Valued
    sizeof_worth at (sized.Name name brackets) = name_size at brackets (means name.bytes)
    sizeof_worth at (sized.Text text brackets) = text_size brackets text

    -- the tag of a name, or the one that is written
    abbrev pub tagof_worth : Place → TagofOperand → Verdict Valued
    tagof_worth at (tagged.Name name) = name_tag at (means name.bytes)
    tagof_worth at (tagged.Tag name) =
        tag_worth (unwrap_or (number_of around.tags name.bytes) untagged)

    abbrev mutual
      -- any expression; calls and assignments aren't constant
      pub worth : Expr → Verdict Valued
      worth (tree.Number at value) = valued value untagged
      worth (tree.Text at bytes packed) = not_constant
      worth (tree.Name at name) = name_worth at.place (means name)
      worth (tree.Paren at x) = worth x
      worth (tree.Sizeof at x) = sizeof_worth at.place x
      worth (tree.Tagof at x) = tagof_worth at.place x
      worth (tree.Prefix at sign x) = after (worth x) (prefix_worth (before_of sign))
      worth (tree.Tagged at tag x) = after (worth x) (tagged_worth tag)
      worth (tree.Postfix at sign x) = not_constant
      worth (tree.Index at x y) = not_constant
      worth (tree.Character at x y) = not_constant
      worth (tree.Binary at sign x y) =
          both (worth x) (worth y) (between_worth at.place (between_of sign))
      worth (tree.Chain at x links) =
          after (worth x) (λ first.
          after (links_hold first links) (λ holds. valued (truth holds) truth_tag))
      worth (tree.Choice at x y z) =
          after (worth x) (λ test. both (worth y) (worth z) (chosen_worth test))
      worth (tree.Assign at sign x y) = not_constant
      worth (tree.Call at name args bare) = not_constant

      -- whether all links hold, the first of which has this operand on its left
      pub links_hold : Valued → Links → Verdict Bool
      links_hold left no_links = Stands true
      links_hold left (then_link link links) =
          after (link_worth link) (λ right.
          both (linked (link_of (link_sign link)) left right) (links_hold right links)
          (λ here rest. Stands (here && rest)))

      -- the operand of a link
      pub link_worth : tree.Link → Verdict Valued
      link_worth (Compare sign x) = worth x
