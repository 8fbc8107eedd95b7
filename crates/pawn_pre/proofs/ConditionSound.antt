-- What is read to a value spells a tree of that value.
use Rattle.std.proofs.Common.{◌≡◌, ℕ, ◌≤◌, ◌-◌, Bool, true, false, leb, Option, Some, None, List}
use Rattle.std.proofs.Common.{[], ◌∷◌, ◌++◌, refl, sym, ap, subst, ◌∙◌, append_assoc, arith}
use Rattle.std.proofs.lemmas.Bool.{leb-true, leb-false}
use Rattle.std.proofs.lemmas.List.{append-nil}
use Rattle.pawn_cells.specs.declared.operator.Operator.TheVariants as between
use Rattle.pawn_cells.specs.declared.operator.Prefix.{Prefix}
use Rattle.pawn_cells.specs.declared.operator.Prefix.TheVariants as prefix
use Rattle.pawn_pre.specs.declared.part.Infix.{Infix}
use Rattle.pawn_pre.specs.declared.part.Infix.TheVariants.{Cells, Compare, Logic}
use Rattle.pawn_pre.specs.declared.part.Part.{Part}
use Rattle.pawn_pre.specs.declared.part.Part.TheVariants as part
use Rattle.pawn_pre.specs.declared.reading.Reading.{Reading}
use Rattle.pawn_pre.specs.declared.evaluate.Wait.{Wait}
use Rattle.pawn_pre.specs.declared.evaluate.Wait.TheVariants.{Mark, Pre, Left, Chooses}
use Rattle.pawn_pre.specs.declared.evaluate.Wait.TheVariants.{Second}
use Rattle.pawn_pre.specs.Nested.{Nested, Number, Group, Before, Two, Choice, level, parts}
use Rattle.pawn_pre.specs.Nested.{Nests, reading, prefix_part, grouped}
use Rattle.pawn_pre.specs.ConditionMachine.{Held, held, settle, operand, operator, whole_by}
use Rattle.pawn_pre.specs.ConditionMachine.{bracket_closed_by, chosen_by}
use Rattle.pawn_pre.proofs.ConditionComplete.{levels}

-- what waits, with the trees that were read
data Half : Type 0 where
  AMark : Half
  APre : Prefix → Half
  ALeft : Infix → Nested → Half
  AChoose : Nested → Half
  ASecond : Nested → Nested → Half

abbrev wait_of : Half → Wait
wait_of AMark = Mark
wait_of (APre sign) = Pre sign
wait_of (ALeft sign a) = Left sign (reading a)
wait_of (AChoose c) = Chooses (reading c)
wait_of (ASecond c a) = Second (reading c) (reading a)

abbrev waits_of : List Half → List Wait
waits_of [] = []
waits_of (h ∷ hs) = wait_of h ∷ waits_of hs

-- the parts of one that waits, and of all
abbrev parts_of_half : Half → List Part
parts_of_half AMark = part.Open ∷ []
parts_of_half (APre sign) = prefix_part sign ∷ []
parts_of_half (ALeft sign a) = parts a ++ part.Two sign ∷ []
parts_of_half (AChoose c) = parts c ++ part.Question ∷ []
parts_of_half (ASecond c a) = parts c ++ (part.Question ∷ (parts a ++ part.Colon ∷ []))

abbrev read : List Half → List Part
read [] = []
read (h ∷ hs) = read hs ++ parts_of_half h

-- the level that the next operand needs
abbrev need_of : Half → ℕ
need_of AMark = 13
need_of (APre sign) = 2
need_of (ALeft sign a) = level sign - 1
need_of (AChoose c) = 13
need_of (ASecond c a) = 13

abbrev need : List Half → ℕ
need [] = 13
need (h ∷ hs) = need_of h

abbrev GoodHalf : Half → ℕ → Type 0
GoodHalf AMark below = Unit {0}
GoodHalf (APre sign) below = Unit {0}
GoodHalf (ALeft sign a) below = (level sign ≤ below) × Nests (level sign) a
GoodHalf (AChoose c) below = (13 ≤ below) × Nests 12 c
GoodHalf (ASecond c a) below = (13 ≤ below) × Nests 12 c × Nests 13 a

abbrev Good : List Half → Type 0
Good [] = Unit {0}
Good (h ∷ hs) = GoodHalf h (need hs) × Good hs

need_low : (hs : List Half) → 2 ≤ need hs
need_low [] = omega arith
need_low (AMark ∷ hs) = omega arith
need_low (APre sign ∷ hs) = omega arith
need_low (ALeft sign a ∷ hs) = let bounds = levels sign in omega (arith, bounds.0)
need_low (AChoose c ∷ hs) = omega arith
need_low (ASecond c a ∷ hs) = omega arith

-- none needs a level of 12
need_last : (hs : List Half) → 12 ≤ need hs → 13 ≤ need hs
need_last [] h = omega arith
need_last (AMark ∷ hs) h = omega arith
need_last (APre sign ∷ hs) h = absurd (omega (arith, h))
need_last (ALeft sign a ∷ hs) h = let bounds = levels sign in absurd (omega (arith, bounds.1, h))
need_last (AChoose c ∷ hs) h = omega arith
need_last (ASecond c a ∷ hs) h = omega arith

-- what settling leaves is again such a stack, with an operand that spells the same
record Settled (k : ℕ) (hs : List Half) (e : Nested) : Type 0 where
  halves : List Half
  tree : Nested
  good : Good halves
  fits : Nests (need halves) tree
  fits_level : Nests k tree
  low : k ≤ need halves
  is : settle k (waits_of hs) (reading e) ≡ held (waits_of halves) (reading tree)
  same : read halves ++ parts tree ≡ read hs ++ parts e

kept : (k : ℕ) (hs : List Half) (e : Nested) → Good hs → Nests (need hs) e → Nests k e → k ≤ need hs
    → settle k (waits_of hs) (reading e) ≡ held (waits_of hs) (reading e) → Settled k hs e
kept k hs e good fits at low is =
    record {
      halves = hs;
      tree = e;
      good = good;
      fits = fits;
      fits_level = at;
      low = low;
      is = is;
      same = refl;
    }

-- a step that settles one more
stepped : (k : ℕ) (h : Half) (hs : List Half) (e f : Nested) → Settled k hs f →
    settle k (waits_of (h ∷ hs)) (reading e) ≡ settle k (waits_of hs) (reading f)
    → parts f ≡ parts_of_half h ++ parts e → Settled k (h ∷ hs) e
stepped k h hs e f s is same = record {
  halves = s.halves;
  tree = s.tree;
  good = s.good;
  fits = s.fits;
  fits_level = s.fits_level;
  low = s.low;
  is = is ∙ s.is;
  same =
      s.same ∙ ap (λ ts. read hs ++ ts) same
      ∙ sym (append_assoc (read hs) (parts_of_half h) (parts e));
}

left_case : (k : ℕ) (sign : Infix) (a : Nested) (hs : List Half) (e : Nested) (t : Bool)
    → leb (level sign) k ≡ t → Good (ALeft sign a ∷ hs) →
    Nests (need (ALeft sign a ∷ hs)) e → Nests k e → (level sign ≤ k → Settled k hs (Two sign a e))
    → Settled k (ALeft sign a ∷ hs) e
unfolding settle parts reading
left_case k sign a hs e true y good fits at rest =
    stepped k (ALeft sign a) hs e (Two sign a e) (rest (leb-true (level sign) k y)) (rw y refl)
    (sym (append_assoc (parts a) (part.Two sign ∷ []) (parts e)))
left_case k sign a hs e false n good fits at rest =
    let above = leb-false (level sign) k n in
    kept k (ALeft sign a ∷ hs) e good fits at (omega (arith, above)) (rw n refl)

second_case : (k : ℕ) (c a : Nested) (hs : List Half) (e : Nested) (t : Bool) → leb 13 k ≡ t
    → Good (ASecond c a ∷ hs) →
    Nests (need (ASecond c a ∷ hs)) e → Nests k e → (13 ≤ k → Settled k hs (Choice c a e))
    → Settled k (ASecond c a ∷ hs) e
unfolding settle parts reading
second_case k c a hs e true y good fits at rest =
    stepped k (ASecond c a) hs e (Choice c a e) (rest (leb-true 13 k y)) (rw y refl)
    (simp append_assoc)
second_case k c a hs e false n good fits at rest =
    let above = leb-false 13 k n in
    kept k (ASecond c a ∷ hs) e good fits at (omega (arith, above)) (rw n refl)

settled : (k : ℕ) (hs : List Half) (e : Nested) → 3 ≤ k → k ≤ 13 → Good hs → Nests (need hs) e
    → Nests k e → Settled k hs e
unfolding settle Nests parts reading
settled k [] e low top good fits at = kept k [] e good fits at (omega (arith, top)) refl
settled k (AMark ∷ hs) e low top good fits at =
    kept k (AMark ∷ hs) e good fits at (omega (arith, top)) refl
settled k (AChoose c ∷ hs) e low top good fits at =
    kept k (AChoose c ∷ hs) e good fits at (omega (arith, top)) refl
settled k (APre sign ∷ hs) e low top good fits at =
    let f : Nested = Before sign e in
    stepped k (APre sign) hs e f (settled k hs f low top good.1 (need_low hs, fits)
    (omega (arith, low), fits)) refl refl
settled k (ALeft sign a ∷ hs) e low top good fits at =
    left_case k sign a hs e _ refl good fits at
    (λ y. settled k hs (Two sign a e) low top good.1 (good.0.0, good.0.1, fits) (y, good.0.1, fits))
settled k (ASecond c a ∷ hs) e low top good fits at =
    second_case k c a hs e _ refl good fits at
    (λ y. settled k hs (Choice c a e) low top good.1 (good.0.0, good.0.1, good.0.2, fits)
    (y, good.0.1, good.0.2, fits))

-- a tree for all the parts
pub record Whole (all : List Part) (r : Reading) : Type 0 where
  pub tree : Nested
  pub fits : Nests 13 tree
  pub spelled : parts tree ≡ all
  pub is : reading tree ≡ r

moved : (ts us : List Part) (r : Reading) → ts ≡ us → Whole ts r → Whole us r
moved ts us r e w = subst (λ vs. Whole vs r) e w

nothing : {A : Type 0} (r : Reading) → (let none : Option Reading = None in none) ≡ Some r → A
nothing r e = absurd (never e)
  where
    never : (let none : Option Reading = None in none) ≡ Some r → ⊥
    never k = cc

some_same : (a b : Reading) → Some a ≡ Some b → a ≡ b
some_same a b e = cc

primary : (ts us : List Part) (hs : List Half) (h : Half)
    → read (h ∷ hs) ++ us ≡ read hs ++ (parts_of_half h ++ us)
primary ts us hs h = append_assoc (read hs) (parts_of_half h) us

ended : (hs halves : List Half) (e tree : Nested) (r : Reading) → Nests (need halves) tree
    → read halves ++ parts tree ≡ read hs ++ parts e
    → whole_by (waits_of halves) (reading tree) ≡ Some r → Whole (read hs ++ parts e) r
ended hs [] e tree r fits same got =
    record { tree = tree; fits = fits; spelled = same; is = some_same _ _ got }
ended hs (h ∷ more) e tree r fits same got = nothing r got

-- a part more behind what was read
shift : (a b c : List Part) (t : Part) (ts : List Part) → a ++ b ≡ c
    → (a ++ (b ++ t ∷ [])) ++ ts ≡ c ++ (t ∷ ts)
shift a b c t ts e = rw (← e) (simp append_assoc)

colon_case : (ts : List Part) (halves : List Half) (tree : Nested) (r : Reading) → Good halves
    → Nests 13 tree →
    ((hs : List Half) → Good hs → operand ts (waits_of hs) ≡ Some r → Whole (read hs ++ ts) r) →
    chosen_by (waits_of halves) (λ c below. operand ts (Second c (reading tree) ∷ below)) ≡ Some r
    → Whole ((read halves ++ parts tree) ++ (part.Colon ∷ ts)) r
colon_case ts [] tree r good fits rest got = nothing r got
colon_case ts (AMark ∷ hs) tree r good fits rest got = nothing r got
colon_case ts (APre sign ∷ hs) tree r good fits rest got = nothing r got
colon_case ts (ALeft sign a ∷ hs) tree r good fits rest got = nothing r got
colon_case ts (ASecond c a ∷ hs) tree r good fits rest got = nothing r got
colon_case ts (AChoose c ∷ hs) tree r good fits rest got =
    moved _ _ r (simp append_assoc)
    (rest (ASecond c tree ∷ hs) ((good.0.0, good.0.1, fits), good.1) got)

close_case : (ts : List Part) (halves : List Half) (tree : Nested) (r : Reading) → Good halves
    → Nests 13 tree →
    ((hs : List Half) → Good hs → operator ts (waits_of hs) (reading (Group tree)) ≡ Some r
    → Whole ((read hs ++ parts (Group tree)) ++ ts) r) →
    bracket_closed_by (waits_of halves) (λ below. operator ts below (grouped (reading tree)))
    ≡ Some r
    → Whole ((read halves ++ parts tree) ++ (part.Close ∷ ts)) r
unfolding parts reading
close_case ts [] tree r good fits rest got = nothing r got
close_case ts (AMark ∷ hs) tree r good fits rest got =
    moved _ _ r (simp append_assoc) (rest hs good.1 got)
close_case ts (APre sign ∷ hs) tree r good fits rest got = nothing r got
close_case ts (ALeft sign a ∷ hs) tree r good fits rest got = nothing r got
close_case ts (ASecond c a ∷ hs) tree r good fits rest got = nothing r got
close_case ts (AChoose c ∷ hs) tree r good fits rest got = nothing r got

mutual
  unfolding operand operator parts reading Nests

  operand_sound : (ts : List Part) (hs : List Half) (r : Reading) → Good hs
      → operand ts (waits_of hs) ≡ Some r → Whole (read hs ++ ts) r
  operand_sound [] hs r good got = nothing r got
  operand_sound (part.Value v ∷ ts) hs r good got =
      moved _ _ r (append_assoc (read hs) (part.Value v ∷ []) ts)
      (operator_sound ts hs (Number v) r good (λ k h. tt) got)
  operand_sound (part.Not ∷ ts) hs r good got =
      moved _ _ r (append_assoc (read hs) (part.Not ∷ []) ts)
      (operand_sound ts (APre prefix.Not ∷ hs) r (tt, good) got)
  operand_sound (part.Invert ∷ ts) hs r good got =
      moved _ _ r (append_assoc (read hs) (part.Invert ∷ []) ts)
      (operand_sound ts (APre prefix.Invert ∷ hs) r (tt, good) got)
  operand_sound (part.Question ∷ ts) hs r good got = nothing r got
  operand_sound (part.Colon ∷ ts) hs r good got = nothing r got
  operand_sound (part.Open ∷ ts) hs r good got =
      moved _ _ r (append_assoc (read hs) (part.Open ∷ []) ts)
      (operand_sound ts (AMark ∷ hs) r (tt, good) got)
  operand_sound (part.Close ∷ ts) hs r good got = nothing r got
  operand_sound (part.Two (Cells between.Multiply) ∷ ts) hs r good got = nothing r got
  operand_sound (part.Two (Cells between.Divide) ∷ ts) hs r good got = nothing r got
  operand_sound (part.Two (Cells between.Remainder) ∷ ts) hs r good got = nothing r got
  operand_sound (part.Two (Cells between.Add) ∷ ts) hs r good got = nothing r got
  operand_sound (part.Two (Cells between.Subtract) ∷ ts) hs r good got =
      moved _ _ r (append_assoc (read hs) (part.Two (Cells between.Subtract) ∷ []) ts)
      (operand_sound ts (APre prefix.Negate ∷ hs) r (tt, good) got)
  operand_sound (part.Two (Cells between.ShiftLeft) ∷ ts) hs r good got = nothing r got
  operand_sound (part.Two (Cells between.ShiftRight) ∷ ts) hs r good got = nothing r got
  operand_sound (part.Two (Cells between.ShiftUnsigned) ∷ ts) hs r good got = nothing r got
  operand_sound (part.Two (Cells between.And) ∷ ts) hs r good got = nothing r got
  operand_sound (part.Two (Cells between.Xor) ∷ ts) hs r good got = nothing r got
  operand_sound (part.Two (Cells between.Or) ∷ ts) hs r good got = nothing r got
  operand_sound (part.Two (Cells between.Equal) ∷ ts) hs r good got = nothing r got
  operand_sound (part.Two (Cells between.NotEqual) ∷ ts) hs r good got = nothing r got
  operand_sound (part.Two (Compare c) ∷ ts) hs r good got = nothing r got
  operand_sound (part.Two (Logic op) ∷ ts) hs r good got = nothing r got

  operator_sound : (ts : List Part) (hs : List Half) (e : Nested) (r : Reading) → Good hs
      → ((k : ℕ) → 2 ≤ k → Nests k e) →
      operator ts (waits_of hs) (reading e) ≡ Some r → Whole ((read hs ++ parts e) ++ ts) r
  operator_sound [] hs e r good fits got =
      let s =
      settled 13 hs e (omega arith) (omega arith) good (fits (need hs) (need_low hs))
      (fits 13 (omega arith)) in
      moved _ _ r (sym (append-nil (read hs ++ parts e)))
      (ended hs s.halves e s.tree r s.fits s.same
      (sym (ap (λ (h : Held). whole_by h.waits h.operand) s.is) ∙ got))
  operator_sound (part.Value v ∷ ts) hs e r good fits got = nothing r got
  operator_sound (part.Not ∷ ts) hs e r good fits got = nothing r got
  operator_sound (part.Invert ∷ ts) hs e r good fits got = nothing r got
  operator_sound (part.Open ∷ ts) hs e r good fits got = nothing r got
  operator_sound (part.Two sign ∷ ts) hs e r good fits got =
      let bounds = levels sign in
      let s =
      settled (level sign) hs e bounds.0 (omega (arith, bounds.1)) good
      (fits (need hs) (need_low hs)) (fits (level sign) (omega (arith, bounds.0))) in
      moved _ _ r (shift (read s.halves) (parts s.tree) _ (part.Two sign) ts s.same)
      (operand_sound ts (ALeft sign s.tree ∷ s.halves) r ((s.low, s.fits_level), s.good)
      (sym (ap (λ (h : Held). operand ts (Left sign h.operand ∷ h.waits)) s.is) ∙ got))
  operator_sound (part.Question ∷ ts) hs e r good fits got =
      let s =
      settled 12 hs e (omega arith) (omega arith) good (fits (need hs) (need_low hs))
      (fits 12 (omega arith)) in
      moved _ _ r (shift (read s.halves) (parts s.tree) _ part.Question ts s.same)
      (operand_sound ts (AChoose s.tree ∷ s.halves) r
      ((need_last s.halves s.low, s.fits_level), s.good)
      (sym (ap (λ (h : Held). operand ts (Chooses h.operand ∷ h.waits)) s.is) ∙ got))
  operator_sound (part.Colon ∷ ts) hs e r good fits got =
      let s =
      settled 13 hs e (omega arith) (omega arith) good (fits (need hs) (need_low hs))
      (fits 13 (omega arith)) in
      moved _ _ r (ap (λ us. us ++ (part.Colon ∷ ts)) s.same)
      (colon_case ts s.halves s.tree r s.good s.fits_level
      (λ below g o. operand_sound ts below r g o)
      (sym (ap (λ (h : Held). chosen_by h.waits
      (λ c below. operand ts (Second c h.operand ∷ below))) s.is) ∙ got))
  operator_sound (part.Close ∷ ts) hs e r good fits got =
      let s =
      settled 13 hs e (omega arith) (omega arith) good (fits (need hs) (need_low hs))
      (fits 13 (omega arith)) in
      moved _ _ r (ap (λ us. us ++ (part.Close ∷ ts)) s.same)
      (close_case ts s.halves s.tree r s.good s.fits_level
      (λ below g o. operator_sound ts below (Group s.tree) r g (λ k h. s.fits_level) o)
      (sym (ap (λ (h : Held).
      bracket_closed_by h.waits (λ below. operator ts below (grouped h.operand)))
      s.is) ∙ got))

-- all that is read spells a tree
pub sound : (all : List Part) (r : Reading) → operand all [] ≡ Some r → Whole all r
sound all r got = operand_sound all [] r tt got
