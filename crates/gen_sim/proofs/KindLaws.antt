-- Which places are cells, and which are characters.
use Rattle.std.proofs.Common.{◌*◌, inl, inr, ℕ, length}
use Rattle.pawn_meaning.specs.Program.{Scalar, Global, Own, Element, Char}
use Rattle.pawn_meaning.specs.Program as node
use Rattle.pawn_meaning.specs.Memory.{Place, Cell, Character, through}
use Rattle.pawn_meaning.specs.World.{World}
use Rattle.pawn_meaning.specs.Run.{Outcome, Gives, Stops, More, Run, ◌>>=◌, then_do, give, look}
use Rattle.pawn_meaning.specs.References.{is_known, index, first_size, cell_at, character_at}
use Rattle.pawn_meaning.specs.Meaning.{Scene, Fewer, place, array, value}
use Rattle.amx_ops.specs.Moves.{Config, move}
use Rattle.gen_sim.specs.Does.{Then}
use Rattle.gen_sim.proofs.Sim.{reach_holds}
use Rattle.gen_sim.specs.Site.{Site, DoesAt}

abbrev pub IsCellPlace : Place → Type 0
IsCellPlace (Cell name i) = Unit {0}
IsCellPlace (Character name i k) = ⊥

abbrev pub IsCharacterPlace : Place → Type 0
IsCharacterPlace (Cell name i) = ⊥
IsCharacterPlace (Character name i k) = Unit {0}

-- a place is of the kind that a scalar is
abbrev pub OfKind : Scalar → Place → Type 0
OfKind (Global o) at = IsCellPlace at
OfKind (Own s) at = IsCellPlace at
OfKind (node.Through s) at = IsCellPlace at
OfKind (Element a e) at = IsCellPlace at
OfKind (Char a e) at = IsCharacterPlace at

-- something holds of what an outcome gives
abbrev pub Known : {A : Type 0} → Outcome A → (A → Type 0) → Type 0
Known (Gives a w) F = F a
Known (Stops end w) F = Unit {0}
Known (More w) F = Unit {0}

after_known : {A B : Type 0} (o : Outcome A) (go : A → Run B) (F : B → Type 0)
    → ((a : A) (w : World) → Known (go a w) F) → Known (then_do o go) F
after_known (Gives a w) go F h = h a w
after_known (Stops end w) go F h = tt
after_known (More w) go F h = tt

module _ (scene : Scene) (fewer : Fewer) where
  pub place_kind : (p : Scalar) (w : World) → Known (place scene fewer p w) (OfKind p)
  place_kind (Global o) w = tt
  place_kind (Own s) w = tt
  place_kind (node.Through s) w =
      after_known (look (through s) w) (λ r. give (cell_at r 0)) (OfKind (node.Through s))
      (λ r u. tt)
  place_kind (Element a e) w =
      after_known (array scene fewer a w)
      (λ r. value scene fewer e >>= (λ v. index (is_known a) (first_size r.sizes) v
      >>= (λ i. give (cell_at r i)))) (OfKind (Element a e))
      (λ r u. after_known (value scene fewer e u)
      (λ v. index (is_known a) (first_size r.sizes) v >>= (λ i. give (cell_at r i)))
      (OfKind (Element a e))
      (λ v y. after_known (index (is_known a) (first_size r.sizes) v y) (λ i. give (cell_at r i))
      (OfKind (Element a e)) (λ i z. tt)))
  place_kind (Char a e) w =
      after_known (array scene fewer a w)
      (λ r. value scene fewer e >>= (λ v. index (is_known a) (4 * first_size r.sizes) v
      >>= (λ i. give (character_at r i))))
      (OfKind (Char a e))
      (λ r u. after_known (value scene fewer e u)
      (λ v. index (is_known a) (4 * first_size r.sizes) v >>= (λ i. give (character_at r i)))
      (OfKind (Char a e))
      (λ v y. after_known (index (is_known a) (4 * first_size r.sizes) v y)
      (λ i. give (character_at r i)) (OfKind (Char a e)) (λ i z. tt)))

-- and is known beside what the machine does
known_by : {A : Type 0} (x : Site) (n : ℕ) (w : World) (c : Config) (o : Outcome A)
    (P : A → World → Config → Type 0) (F : A → Type 0) → Known o F
    → Then (move x.amx x.script) (length x.amx.code) x.room n w.turns c o P
    → Then (move x.amx x.script) (length x.amx.code) x.room n w.turns c o (λ a u t. P a u t × F a)
known_by x n w c (Gives a u) P F f (inl short) = inl short
known_by x n w c (Gives a u) P F f (inr r) =
    inr (reach_holds (move x.amx x.script) (length x.amx.code) x.room r (r.holds, f))
known_by x n w c (Stops end u) P F f d = d
known_by x n w c (More u) P F f d = d

pub known_does : {A : Type 0} (x : Site) (n : ℕ) (w : World) {c : Config} (o : Outcome A)
    (P : A → World → Config → Type 0) (F : A → Type 0) → Known o F
    → DoesAt x n w c o P → DoesAt x n w c o (λ a u t. P a u t × F a)
known_does x n w {c} o P F f d = record { does = known_by x n w c o P F f d.does }
