-- What holds of a view holds of the next one: with a local more, a temporary argument more, or
-- within a call.
use Rattle.std.proofs.Common.{◌≡◌, ◌+◌, ◌*◌, ◌≤◌, inl, ℕ, zero, suc, ℤ, pos, List, [], ◌∷◌, ◌++◌}
use Rattle.std.proofs.Common.{Some, Bool, true, false, ◌==◌, length, refl, sym, ap, subst, ◌∙◌}
use Rattle.std.proofs.Common.{arith, if◌then◌else◌, append_assoc, ne_eqb, eq-eqb}
use Rattle.pawn_meaning.specs.Program.{Program}
use Rattle.pawn_meaning.specs.Memory.{Name, Static, Local, Temporary, Reference}
use Rattle.pawn_meaning.specs.Natives.{Held, Value}
use Rattle.pawn_meaning.specs.Natives as natives
use Rattle.gen_sim.specs.Pieces.{Piece, Fixed, Thing, Automaton, Each, total, data_pieces}
use Rattle.gen_sim.specs.Pieces.{temporaries}
use Rattle.gen_sim.specs.Places.{Apart, Placed}
use Rattle.gen_sim.specs.View.{View, IsAlive, IsOf, IsOfCall, depth, innermost, all_cells, low}
use Rattle.gen_sim.specs.View.{RefersTo, ParamAt, Laid}
use Rattle.gen_sim.specs.Next.{with_local, with_temporary, param_pieces, referred, HoldArguments}
use Rattle.gen_sim.specs.Next.{in_call}
use Rattle.gen_sim.proofs.PieceLaws.{each_both, each_gives, total-append}
use Rattle.gen_sim.proofs.MemLaws.{placed_above, placed_behind}

-- ---- names that are alive are others than a new one

pub older_apart : (calls temps slot : ℕ) (name : Name) (sizes inner : List ℕ)
    → IsAlive calls temps name
    → Apart (Thing name sizes) (Thing (Local calls slot) inner)
older_apart calls temps slot (Static o) sizes inner h = tt
older_apart calls temps slot (Local k s) sizes inner h = inl (λ e. absurd (omega (arith, h, e)))
older_apart calls temps slot (Temporary n) sizes inner h = tt

pub earlier_apart : (calls temps : ℕ) (name : Name) (sizes inner : List ℕ)
    → IsAlive calls temps name
    → Apart (Thing name sizes) (Thing (Temporary temps) inner)
earlier_apart calls temps (Static o) sizes inner h = tt
earlier_apart calls temps (Local k s) sizes inner h = tt
earlier_apart calls temps (Temporary n) sizes inner h = λ e. absurd (omega (arith, h, e))

pub alive_longer : (calls temps more new : ℕ) (name : Name) → calls ≤ more → temps ≤ new
    → IsAlive calls temps name → IsAlive more new name
alive_longer calls temps more new (Static o) a b h = tt
alive_longer calls temps more new (Local k s) a b h = omega (arith, a, h)
alive_longer calls temps more new (Temporary n) a b h = omega (arith, b, h)

pub of_longer : (calls temps more new : ℕ) (piece : Piece) → calls ≤ more → temps ≤ new
    → IsOf calls temps piece → IsOf more new piece
of_longer calls temps more new (Fixed cells) a b h = tt
of_longer calls temps more new (Thing name sizes) a b h =
    alive_longer calls temps more new name a b h
of_longer calls temps more new (Automaton o) a b h = tt

-- what a high piece stands for is alive, also with more calls
pub of_call : (calls more new : ℕ) (piece : Piece) → calls ≤ more → IsOfCall calls piece
    → IsOf more new piece
of_call calls more new (Fixed cells) a h = tt
of_call calls more new (Thing (Static o) sizes) a h = tt
of_call calls more new (Thing (Local k s) sizes) a h = omega (arith, a, h)
of_call calls more new (Thing (Temporary n) sizes) a h = elim h [ ]
of_call calls more new (Automaton o) a h = tt

-- and a high piece it is then too
pub call_longer : (calls more : ℕ) (piece : Piece) → calls ≤ more → IsOfCall calls piece
    → IsOfCall more piece
call_longer calls more (Fixed cells) a h = tt
call_longer calls more (Thing (Static o) sizes) a h = h
call_longer calls more (Thing (Local k s) sizes) a h = omega (arith, a, h)
call_longer calls more (Thing (Temporary n) sizes) a h = h
call_longer calls more (Automaton o) a h = h

-- it is no object of the program, and no automaton
pub object_below : (calls o : ℕ) (sizes : List ℕ) (piece : Piece) → IsOfCall calls piece
    → Apart (Thing (Static o) sizes) piece
object_below calls o sizes (Fixed cells) h = tt
object_below calls o sizes (Thing (Static b) inner) h = elim h [ ]
object_below calls o sizes (Thing (Local k s) inner) h = tt
object_below calls o sizes (Thing (Temporary n) inner) h = tt
object_below calls o sizes (Automaton a) h = tt

pub automaton_below : (calls a : ℕ) (piece : Piece) → IsOfCall calls piece
    → Apart (Automaton a) piece
automaton_below calls a (Fixed cells) h = tt
automaton_below calls a (Thing name sizes) h = tt
automaton_below calls a (Automaton b) h = elim h [ ]

-- a new name is another than those that are alive
pub next_apart : (calls temps : ℕ) (sizes : List ℕ) (piece : Piece) → IsOf calls temps piece
    → Apart (Thing (Temporary temps) sizes) piece
next_apart calls temps sizes (Fixed cells) h = tt
next_apart calls temps sizes (Thing (Static o) inner) h = tt
next_apart calls temps sizes (Thing (Local k s) inner) h = tt
next_apart calls temps sizes (Thing (Temporary i) inner) h = λ e. absurd (omega (arith, h, e))
next_apart calls temps sizes (Automaton a) h = tt

pub local_apart : (calls temps k slot : ℕ) (sizes : List ℕ) (piece : Piece) → calls ≤ k
    → IsOf calls temps piece → Apart (Thing (Local k slot) sizes) piece
local_apart calls temps k slot sizes (Fixed cells) l h = tt
local_apart calls temps k slot sizes (Thing (Static o) inner) l h = tt
local_apart calls temps k slot sizes (Thing (Local j s) inner) l h =
    inl (λ e. absurd (omega (arith, l, h, e)))
local_apart calls temps k slot sizes (Thing (Temporary i) inner) l h = tt
local_apart calls temps k slot sizes (Automaton a) l h = tt

module _ (program : Program) (room : ℕ) where
  -- ---- a local more

  local_refers : (v : View) (slot : ℕ) (sizes : List ℕ) (r : Reference) (cell : ℕ)
      → IsAlive (innermost v) v.temps_before r.object
      → RefersTo program room v r cell → RefersTo program room (with_local v slot sizes) r cell
  local_refers v slot sizes r cell o h = record {
    sizes = h.sizes;
    first = h.first;
    placed =
        placed_above (Thing (Local (innermost v) slot) sizes ∷ [])
        (older_apart (innermost v) v.temps_before slot r.object h.sizes sizes o, tt) h.placed;
    leads = h.leads;
    alive = h.alive;
  }

  local_param : (v : View) (slot : ℕ) (sizes : List ℕ) (s : ℕ) (r : Reference)
      → ParamAt program room v s r
      → ParamAt program room (with_local v slot sizes) s r
  local_param v slot sizes s r h = record {
    cell = h.cell;
    refers = local_refers v slot sizes r h.cell h.older h.refers;
    older = h.older;
    before = Thing (Local (innermost v) slot) sizes ∷ h.before;
    after = h.after;
    split = ap (λ l. Thing (Local (innermost v) slot) sizes ∷ l) h.split;
    place = omega (arith, h.place);
  }

  pub local_laid : (v : View) (slot : ℕ) (sizes : List ℕ) → 1 ≤ depth v → Laid program room v
      → Laid program room (with_local v slot sizes)
  local_laid v slot sizes deep l = record {
    small = l.small;
    refs = λ s r e. local_param v slot sizes s r (l.refs s r e);
    none_above = l.none_above;
    marks = l.marks;
    frames_are = (omega (arith, deep), l.frames_are);
    frame_below = l.frame_below;
  }

  -- ---- a temporary argument more

  pub more_low : (v : View) → low program room (with_temporary v)
      ≡ low program room v ++ Thing (Temporary v.temps) (1 ∷ []) ∷ []
  more_low v =
      sym (append_assoc (data_pieces program) (temporaries v.temps)
      (Thing (Temporary v.temps) (1 ∷ []) ∷ []))

  pub temporary_refers : (v : View) (r : Reference) (cell : ℕ) → RefersTo program room v r cell
      → RefersTo program room (with_temporary v) r cell
  temporary_refers v r cell h = record {
    sizes = h.sizes;
    first = h.first;
    placed =
        subst (λ l. Placed (all_cells program room) l v.high (Thing r.object h.sizes) h.first)
        (sym (more_low v))
        (placed_behind (Thing (Temporary v.temps) (1 ∷ []) ∷ [])
        (earlier_apart (depth v) v.temps r.object h.sizes (1 ∷ []) h.alive, tt) h.placed);
    leads = h.leads;
    alive =
        alive_longer (depth v) v.temps (depth v) (suc v.temps) r.object (omega arith)
        (omega arith) h.alive;
  }

  temporary_param : (v : View) (s : ℕ) (r : Reference) → ParamAt program room v s r
      → ParamAt program room (with_temporary v) s r
  temporary_param v s r h = record {
    cell = h.cell;
    refers = temporary_refers v r h.cell h.refers;
    older = h.older;
    before = h.before;
    after = h.after;
    split = h.split;
    place = h.place;
  }

  pub temporary_laid : (v : View) → Laid program room v → Laid program room (with_temporary v)
  temporary_laid v l = record {
    small = l.small;
    refs = λ s r e. temporary_param v s r (l.refs s r e);
    none_above = l.none_above;
    marks = omega (arith, l.marks);
    frames_are = l.frames_are;
    frame_below = l.frame_below;
  }

  -- arguments that were evaluated stay where they are
  pub temporary_arguments : (v : View) (held : List Held) (cells : List ℤ)
      → HoldArguments program room v held cells
      → HoldArguments program room (with_temporary v) held cells
  temporary_arguments v [] [] h = tt
  temporary_arguments v [] (cell ∷ cells) h = h
  temporary_arguments v (it ∷ held) [] h = h
  temporary_arguments v (Value x ∷ held) (cell ∷ cells) h =
      (h.0, temporary_arguments v held cells h.1)
  temporary_arguments v (natives.Refers r ∷ held) (cell ∷ cells) h =
      ((h.0.0, temporary_refers v r h.0.0 h.0.1, h.0.2), temporary_arguments v held cells h.1)

  -- ---- a call

  -- the address of a parameter that refers, and the pieces around it
  record ParamPiece (v : View) (frame slot i : ℕ) (held : List Held) (cells : List ℤ)
      (r : Reference) : Type 0 where
    cell : ℕ
    refers : RefersTo program room v r cell
    before : List Piece
    after : List Piece
    split : param_pieces frame slot held cells ≡ before ++ Fixed (pos (4 * cell) ∷ []) ∷ after
    place : total before ≡ i

  inside : (q r : Reference) → Some q ≡ Some r → q ≡ r
  inside q r e = cc

  param_piece : (v : View) (frame slot i : ℕ) (held : List Held) (cells : List ℤ) (r : Reference)
      → HoldArguments program room v held cells
      → referred held i ≡ Some r → ParamPiece v frame slot i held cells r
  param_piece v frame slot i [] [] r h e = cc
  param_piece v frame slot i [] (c ∷ cells) r h e = elim h [ ]
  param_piece v frame slot i (x ∷ held) [] r h e = elim h [ ]
  param_piece v frame slot zero (Value x ∷ held) (c ∷ cells) r h e = cc
  param_piece v frame slot zero (natives.Refers q ∷ held) (c ∷ cells) r h e =
      record {
        cell = h.0.0;
        refers = subst (λ z. RefersTo program room v z h.0.0) (inside q r e) h.0.1;
        before = [];
        after = param_pieces frame (slot + 1) held cells;
        split = ap (λ z. Fixed (z ∷ []) ∷ param_pieces frame (slot + 1) held cells) h.0.2;
        place = refl;
      }
  param_piece v frame slot (suc i) (Value x ∷ held) (c ∷ cells) r h e =
      let o = param_piece v frame (slot + 1) i held cells r h.1 e in
      record {
        cell = o.cell;
        refers = o.refers;
        before = Thing (Local frame slot) (1 ∷ []) ∷ o.before;
        after = o.after;
        split = ap (λ l. Thing (Local frame slot) (1 ∷ []) ∷ l) o.split;
        place = omega (arith, o.place);
      }
  param_piece v frame slot (suc i) (natives.Refers q ∷ held) (c ∷ cells) r h e =
      let o = param_piece v frame (slot + 1) i held cells r h.1 e in
      record {
        cell = o.cell;
        refers = o.refers;
        before = Fixed (c ∷ []) ∷ o.before;
        after = o.after;
        split = ap (λ l. Fixed (c ∷ []) ∷ l) o.split;
        place = omega (arith, o.place);
      }

  pub total_params : (v : View) (frame slot : ℕ) (held : List Held) (cells : List ℤ)
      → HoldArguments program room v held cells
      → total (param_pieces frame slot held cells) ≡ length cells
  total_params v frame slot [] [] h = refl
  total_params v frame slot [] (c ∷ cells) h = elim h [ ]
  total_params v frame slot (x ∷ held) [] h = elim h [ ]
  total_params v frame slot (Value x ∷ held) (c ∷ cells) h =
      omega (arith, total_params v frame (slot + 1) held cells h.1)
  total_params v frame slot (natives.Refers r ∷ held) (c ∷ cells) h =
      omega (arith, total_params v frame (slot + 1) held cells h.1)

  params_apart : (calls temps slot : ℕ) (held : List Held) (cells : List ℤ) (name : Name)
      (sizes : List ℕ) → IsAlive calls temps name
      → Each (Apart (Thing name sizes)) (param_pieces calls slot held cells)
  params_apart calls temps slot [] cells name sizes h = tt
  params_apart calls temps slot (x ∷ held) [] name sizes h = tt
  params_apart calls temps slot (Value x ∷ held) (c ∷ cells) name sizes h = (
    older_apart calls temps slot name sizes (1 ∷ []) h,
    params_apart calls temps (slot + 1) held cells name sizes h,
  )
  params_apart calls temps slot (natives.Refers r ∷ held) (c ∷ cells) name sizes h =
      (tt, params_apart calls temps (slot + 1) held cells name sizes h)

  params_of : (calls slot : ℕ) (held : List Held) (cells : List ℤ)
      → Each (IsOfCall (suc calls)) (param_pieces calls slot held cells)
  params_of calls slot [] cells = tt
  params_of calls slot (x ∷ held) [] = tt
  params_of calls slot (Value x ∷ held) (c ∷ cells) =
      (omega arith, params_of calls (slot + 1) held cells)
  params_of calls slot (natives.Refers r ∷ held) (c ∷ cells) =
      (tt, params_of calls (slot + 1) held cells)

  module _ (v : View) (need : ℕ) (saved : List ℤ) (held : List Held) (cells waits : List ℤ) where
    abbrev callee : View
    callee = in_call program room v need saved held cells waits

    abbrev params : List Piece
    params = param_pieces (depth v) 0 held cells

    abbrev extra : List Piece
    extra = Fixed saved ∷ (params ++ Fixed waits ∷ [])

    pub call_refers : (r : Reference) (cell : ℕ) → RefersTo program room v r cell
        → RefersTo program room callee r cell
    call_refers r cell h =
        let same : extra ++ v.high ≡ callee.high =
        ap (λ l. Fixed saved ∷ l) (append_assoc params (Fixed waits ∷ []) v.high) in
        let apart : Each (Apart (Thing r.object h.sizes)) extra = (
          tt,
          each_both (Apart (Thing r.object h.sizes)) params (Fixed waits ∷ [])
              (params_apart (depth v) v.temps 0 held cells r.object h.sizes h.alive) (tt, tt),
        ) in
        record {
          sizes = h.sizes;
          first = h.first;
          placed =
              subst (λ high. Placed (all_cells program room) (low program room v) high
              (Thing r.object h.sizes) h.first) same
              (placed_above extra apart h.placed);
          leads = h.leads;
          alive =
              alive_longer (depth v) v.temps (suc (depth v)) v.temps r.object (omega arith)
              (omega arith) h.alive;
        }

    -- what held of the caller's view holds of the callee's
    pub call_laid : Laid program room v → HoldArguments program room v held cells → length saved ≡ 3
        → total v.high + length waits + length cells + 3 ≤ all_cells program room
        → Laid program room callee
    call_laid l lie three fits = record {
      small = l.small;
      refs = λ slot r e.
          let top : (depth v == depth v) ≡ true = eq-eqb _ _ refl in
          let j : innermost callee ≡ depth v = omega arith in
          let e0 : callee.params (depth v) slot ≡ Some r =
          subst (λ k. callee.params k slot ≡ Some r) j e in
          let e' : referred held slot ≡ Some r =
          subst (λ (b : Bool). (if b then referred held else v.params (depth v)) slot
          ≡ Some r) top e0 in
          let o = param_piece v (depth v) 0 slot held cells r lie e' in
          record {
            cell = o.cell;
            refers = call_refers r o.cell o.refers;
            older = subst (λ k. IsAlive k v.temps r.object) (sym j) o.refers.alive;
            before = Fixed saved ∷ o.before;
            after = o.after ++ Fixed waits ∷ v.high;
            split =
                ap (λ x. Fixed saved ∷ (x ++ Fixed waits ∷ v.high)) o.split
                ∙ ap (λ x. Fixed saved ∷ x) (append_assoc o.before
                (Fixed (pos (4 * o.cell) ∷ []) ∷ o.after) (Fixed waits ∷ v.high));
            place =
                omega (
                  arith,
                  three,
                  fits,
                  o.place,
                  total-append params (Fixed waits ∷ v.high),
                  total_params v (depth v) 0 held cells lie,
                );
          };
      none_above = λ k slot h.
          let other : (k == depth v) ≡ false = ne_eqb _ _ (λ x. absurd (omega (arith, x, h))) in
          rw other (l.none_above k slot (omega (arith, h)));
      marks = omega arith;
      frames_are = (
        tt,
        each_both (IsOfCall (suc (depth v))) params (Fixed waits ∷ v.high)
            (params_of (depth v) 0 held cells) (
              tt,
              each_gives (IsOfCall (depth v)) (IsOfCall (suc (depth v))) v.high
                  (λ q h. call_longer (depth v) (suc (depth v)) q (omega arith) h) l.frames_are,
            ),
      );
      frame_below = omega arith;
    }
