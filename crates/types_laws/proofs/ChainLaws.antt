-- Chains of comparisons and `? :` that stand are valid.
use Rattle.std.proofs.Common.{◌≡◌, ℕ, List, [], ◌∷◌, Option, None, Some, refl, subst}
use Rattle.std.specs.Prelude.{replicate}
use Rattle.pawn_token.specs.declared.sign.Sign.{Sign}
use Rattle.pawn_token.specs.declared.sign.Sign.TheVariants as sign
use Rattle.pawn_tree.specs.declared.name.At.{At}
use Rattle.pawn_cells.specs.declared.operator.Comparison.{Comparison}
use Rattle.pawn_tags.specs.declared.operators.Choice.{Choice}
use Rattle.pawn_meaning.specs.Program.{Expr, Links, no_links, ScalarSlot}
use Rattle.pawn_meaning.specs.Scope as program
use Rattle.pawn_meaning.specs.ValidExprs.{Takes, IsOperator, IsValidExpr, AreValidLinks}
use Rattle.names_rules.specs.Signs.{Link, Compares, No_link, link_of}
use Rattle.types_rules.specs.Typed.{Typed}
use Rattle.types_rules.specs.Around.{Around}
use Rattle.types_rules.specs.Chains.{Compared, compared, link_choice, link_code, links_code}
use Rattle.types_rules.specs.Chains.{chain_rule}
use Rattle.types_rules.specs.Choices.{choice_rule}
use Rattle.types_rules.proofs.VerdictLaws.{Holds, stands_itself, breaks_holds, holds_both}
use Rattle.types_laws.specs.Known.{operands, KnowsAround}
use Rattle.types_laws.proofs.BasicLaws.{Sound, stands, cell_sound}
use Rattle.types_laws.proofs.OperatorLaws.{choice_takes}

pub record SoundLink (scope : program.Scope) (it : Compared) : Type 0 where
  pub operand : Sound scope it.operand
  pub two : operands it.user ≡ 2

abbrev pub AreSoundLinks : program.Scope → List Compared → Type 0
AreSoundLinks scope [] = Unit {0}
AreSoundLinks scope (link ∷ more) = SoundLink scope link × AreSoundLinks scope more

record ValidLinks (scope : program.Scope) (links : List Compared) (more : Links) : Type 0 where
  pub valid : AreValidLinks scope more
  pub some : ¬ (links ≡ []) → ¬ (more ≡ no_links)

-- ---- links

abbrev pub IsBinaryLink : Link → Type 0
IsBinaryLink No_link = Unit {0}
IsBinaryLink (Compares sign user) = operands user ≡ 2

pub link_binary : (s : Sign) → IsBinaryLink (link_of s)
link_binary sign.Less = refl
link_binary sign.LessEqual = refl
link_binary sign.Greater = refl
link_binary sign.GreaterEqual = refl
link_binary _ = tt

pub compared_sound : (scope : program.Scope) (at : At) (it : Link) (x : Typed) → IsBinaryLink it
    → Sound scope x → Holds (SoundLink scope) (compared at it x)
compared_sound scope at No_link x b p = breaks_holds _ _
compared_sound scope at (Compares s user) x b p =
    stands_itself _ _ (record { operand = p; two = b })

module _ (scope : program.Scope) (cx : Around) (known : KnowsAround scope.program cx) where
  link_takes : (left : ℕ) (link : Compared) → operands link.user ≡ 2 → (by : Choice)
      → link_choice cx left link ≡ Some by → IsOperator scope 2 by.function
  link_takes left link two by e =
      subst (λ (n : ℕ). Takes scope.program by.function (replicate n ScalarSlot)) two
      (choice_takes scope cx known link.user left link.operand.tag by e)

  link_sound : (s : Comparison) (e : Expr) (by : Option Choice) (rest : Links)
      (links : List Compared) → ((c : Choice) → by ≡ Some c → IsOperator scope 2 c.function)
      → IsValidExpr scope e → AreValidLinks scope rest
      → ValidLinks scope links (link_code s e by rest)
  link_sound s e None rest links k p q =
      record { valid = (tt, p, q); some = λ n same. let no : ⊥ = cc in no }
  link_sound s e (Some by) rest links k p q =
      record { valid = (k by refl, p, q); some = λ n same. let no : ⊥ = cc in no }

  links_sound : (at : At) (left : ℕ) (links : List Compared) → AreSoundLinks scope links
      → Holds (ValidLinks scope links) (links_code cx at left links)
  unfolding links_code
  links_sound at left [] h =
      stands_itself _ no_links (record { valid = tt; some = λ n same. n refl })
  links_sound at left (link ∷ more) h =
      holds_both (cell_sound scope at link.operand h.0.operand)
      (links_sound at link.operand.tag more h.1) (λ e rest p q.
      stands_itself _ _ (link_sound link.sign e (link_choice cx left link) rest (link ∷ more)
      (link_takes left link h.0.two) p.code q.valid))

  pub chain_sound : (at : At) (x : Typed) (links : List Compared) → ¬ (links ≡ [])
      → Sound scope x → AreSoundLinks scope links → Holds (Sound scope) (chain_rule cx at x links)
  unfolding chain_rule
  chain_sound at x links n p h =
      holds_both (cell_sound scope at x p) (links_sound at x.tag links h) (λ e more s t.
      stands scope _ (t.some n, s.code, t.valid))

-- ---- `? :`

record BothCells (scope : program.Scope) (parts : Expr × Expr) : Type 0 where
  pub first : IsValidExpr scope parts.0
  pub second : IsValidExpr scope parts.1

pub choice_sound : (scope : program.Scope) (cx : Around) (at : At) (x y z : Typed)
    → Sound scope x → Sound scope y → Sound scope z
    → Holds (Sound scope) (choice_rule cx at x y z)
unfolding choice_rule
choice_sound scope cx at x y z p q r =
    holds_both (cell_sound scope at x p)
    (holds_both (cell_sound scope at y q) (cell_sound scope at z r) (λ a b s t.
    stands_itself (BothCells scope) (a, b) (record { first = s.code; second = t.code })))
    (λ c parts s t. stands scope _ (s.code, t.first, t.second))
