-- Rows of pieces: their cells, how many they are, and what a change of one piece does to all.
use Rattle.std.proofs.Common.{◌≡◌, ◌+◌, ◌≤◌, ℕ, ℤ, pos, List, [], ◌∷◌, ◌++◌, Option, None, Some}
use Rattle.std.proofs.Common.{length, take, drop, slice_get, get_or, refl, sym, ap, subst, ◌∙◌}
use Rattle.std.proofs.Common.{arith, append_assoc, length-append}
use Rattle.std.proofs.lemmas.Option.{get_or_from_slice_get}
use Rattle.std.proofs.lemmas.List.{get_or-append-add}
use Rattle.std.proofs.Math.Seq.{drop-append_seam, take-append_seam}
use Rattle.pawn_arrays.specs.Sizes.{elements_in}
use Rattle.pawn_meaning.specs.Memory.{Object, Memory, object_at, put}
use Rattle.gen_sim.specs.Pieces.{Piece, Fixed, Thing, Automaton, Each, HasSized, HasState, IsThere}
use Rattle.gen_sim.specs.Pieces.{AreThere, object_cells, state_cells, cells_in, image, extent}
use Rattle.gen_sim.specs.Pieces.{total, vectors}
use Rattle.gen_sim.specs.Places.{Apart, StandsIn}
use Rattle.gen_sim.proofs.Lists.{got_in_first, put-after, put-before}

-- ---- what holds of each

pub each_first : (P : Piece → Type 0) (ps qs : List Piece) → Each P (ps ++ qs) → Each P ps
each_first P [] qs h = tt
each_first P (p ∷ ps) qs h = (h.0, each_first P ps qs h.1)

pub each_rest : (P : Piece → Type 0) (ps qs : List Piece) → Each P (ps ++ qs) → Each P qs
each_rest P [] qs h = h
each_rest P (p ∷ ps) qs h = each_rest P ps qs h.1

pub each_both : (P : Piece → Type 0) (ps qs : List Piece) → Each P ps → Each P qs
    → Each P (ps ++ qs)
each_both P [] qs h g = g
each_both P (p ∷ ps) qs h g = (h.0, each_both P ps qs h.1 g)

pub each_gives : (P Q : Piece → Type 0) (ps : List Piece) → ((p : Piece) → P p → Q p) → Each P ps
    → Each Q ps
each_gives P Q [] f h = tt
each_gives P Q (p ∷ ps) f h = (f p h.0, each_gives P Q ps f h.1)

-- ---- their cells

length_object : (sizes : List ℕ) (o : Option Object) → HasSized sizes o
    → length (object_cells sizes o) ≡ length (vectors sizes) + elements_in sizes
length_object sizes None h = elim h [ ]
length_object sizes (Some x) h =
    length-append (vectors sizes) x.cells ∙ ap (λ n. length (vectors sizes) + n) h.count

length_state : (o : Option (Option ℕ)) → HasState o → length (state_cells o) ≡ 1
length_state None h = elim h [ ]
length_state (Some state) h = refl

pub length_cells : (m : Memory) (p : Piece) → IsThere m p → length (cells_in m p) ≡ extent p
length_cells m (Fixed cells) h = refl
length_cells m (Thing name sizes) h = length_object sizes (object_at m name) h
length_cells m (Automaton a) h = length_state (slice_get m.states a) h

pub length_image : (m : Memory) (ps : List Piece) → AreThere m ps → length (image m ps) ≡ total ps
length_image m [] h = refl
length_image m (p ∷ ps) h =
    let a = length-append (cells_in m p) (image m ps) in
    omega (arith, a, length_cells m p h.0, length_image m ps h.1)

pub image-append : (m : Memory) (ps qs : List Piece) → image m (ps ++ qs) ≡ image m ps ++ image m qs
image-append m [] qs = refl
image-append m (p ∷ ps) qs =
    ap (λ l. cells_in m p ++ l) (image-append m ps qs)
    ∙ sym (append_assoc (cells_in m p) (image m ps) (image m qs))

pub total-append : (ps qs : List Piece) → total (ps ++ qs) ≡ total ps + total qs
total-append [] qs = omega arith
total-append (p ∷ ps) qs = omega (arith, total-append ps qs)

-- ---- what a change leaves

-- from one memory to the next the pieces of a kind keep their cells
pub record LeavesPieces (m n : Memory) (P : Piece → Type 0) : Type 0 where
  pub cells : (q : Piece) → P q → cells_in n q ≡ cells_in m q
  pub there : (q : Piece) → P q → IsThere m q → IsThere n q

pub image_left : (m n : Memory) (P : Piece → Type 0) → LeavesPieces m n P → (ps : List Piece)
    → Each P ps → image n ps ≡ image m ps
image_left m n P l [] h = refl
image_left m n P l (p ∷ ps) h = rw (l.cells p h.0, image_left m n P l ps h.1) refl

pub there_left : (m n : Memory) (P : Piece → Type 0) → LeavesPieces m n P → (ps : List Piece)
    → Each P ps → AreThere m ps → AreThere n ps
there_left m n P l [] h t = tt
there_left m n P l (p ∷ ps) h t = (l.there p h.0 t.0, there_left m n P l ps h.1 t.1)

-- ---- one piece among others

-- the cells around a piece
pub around : (m : Memory) (before after : List Piece) (p : Piece)
    → image m (before ++ p ∷ after) ≡ image m before ++ (cells_in m p ++ image m after)
around m before after p = image-append m before (p ∷ after)

module _ (m : Memory) (p : Piece) (ps : List Piece) (first : ℕ) (at : StandsIn p ps first)
    (t : AreThere m ps) where
  all : AreThere m (at.before ++ p ∷ at.after)
  all = subst (λ l. AreThere m l) at.split t

  pub before_count : length (image m at.before) ≡ first
  before_count =
      length_image m at.before (each_first (IsThere m) at.before (p ∷ at.after) all)
      ∙ sym at.first_is

  pub piece_there : IsThere m p
  piece_there = (each_rest (IsThere m) at.before (p ∷ at.after) all).0

  split_image : image m ps ≡ image m at.before ++ (cells_in m p ++ image m at.after)
  split_image = ap (λ l. image m l) at.split ∙ around m at.before at.after p

  -- a cell of the piece is a cell of the row
  pub row_has : (i : ℕ) (v : ℤ) → slice_get (cells_in m p) i ≡ Some v
      → get_or (image m ps) (first + i) (pos 0) ≡ v
  row_has i v g =
      rw (split_image, sym before_count)
      (get_or-append-add (image m at.before) (cells_in m p ++ image m at.after) i (pos 0)
      ∙ get_or_from_slice_get _ i v (pos 0) (got_in_first (cells_in m p) (image m at.after) i v g))

  -- all its cells stand there
  pub row_holds : take (extent p) (drop first (image m ps)) ≡ cells_in m p
  row_holds =
      rw (
        split_image,
        sym before_count,
        sym (length_cells m p piece_there),
        drop-append_seam (image m at.before) (cells_in m p ++ image m at.after),
      )
      (take-append_seam (cells_in m p) (image m at.after))

  module _ (n : Memory) (l : LeavesPieces m n (Apart p)) where
    -- cells put into the piece are put into the row
    pub row_put : (i : ℕ) (vs : List ℤ) → i + length vs ≤ length (cells_in m p)
        → cells_in n p ≡ put vs i (cells_in m p)
        → image n ps ≡ put vs (first + i) (image m ps)
    row_put i vs h e =
        let same : image n ps ≡ image m at.before ++ (put vs i (cells_in m p) ++ image m at.after) =
        ap (λ l. image n l) at.split ∙ around n at.before at.after p
        ∙ rw (
          image_left m n (Apart p) l at.before at.not_before,
          image_left m n (Apart p) l at.after at.not_after,
          e,
        ) refl in
        let written : put vs (length (image m at.before) + i)
        (image m at.before ++ (cells_in m p ++ image m at.after))
        ≡ image m at.before ++ (put vs i (cells_in m p) ++ image m at.after) =
        put-after (image m at.before) (cells_in m p ++ image m at.after) vs i
        ∙ ap (λ l. image m at.before ++ l) (put-before (cells_in m p) (image m at.after) vs i h) in
        same ∙ sym written ∙ rw (split_image, sym before_count) refl

    pub row_there : IsThere n p → AreThere n ps
    row_there h =
        let b =
        there_left m n (Apart p) l at.before at.not_before
        (each_first (IsThere m) at.before (p ∷ at.after) all) in
        let a =
        there_left m n (Apart p) l at.after at.not_after
        (each_rest (IsThere m) at.before (p ∷ at.after) all).1 in
        subst (λ l. AreThere n l) (sym at.split)
        (each_both (IsThere n) at.before (p ∷ at.after) b (h, a))
