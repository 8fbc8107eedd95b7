-- The scope in which a body begins, and the view within its call.
use Rattle.std.proofs.Common.{◌≡◌, ◌+◌, ◌-◌, ◌==◌, ◌<◌, ◌≤◌, inr, ℕ, zero, suc, ℤ, List, [], ◌∷◌}
use Rattle.std.proofs.Common.{◌++◌, None, Some, Bool, true, length, take, slice_get, refl, sym, ap}
use Rattle.std.proofs.Common.{subst, ◌∙◌, arith, eq-eqb, if◌then◌else◌}
use Rattle.pawn_meaning.specs.Program.{Slot, ScalarSlot, ReferenceSlot, ArraySlot, OpenSlot, Body}
use Rattle.pawn_meaning.specs.Program.{Program}
use Rattle.pawn_meaning.specs.Valid.{body_scope}
use Rattle.pawn_meaning.specs.Memory.{Local, Reference}
use Rattle.pawn_meaning.specs.Natives.{Held, Value}
use Rattle.pawn_meaning.specs.Natives as natives
use Rattle.gen_sim.specs.Pieces.{Piece, Fixed, Thing, Each, total}
use Rattle.gen_sim.specs.Places.{Apart, StandsIn}
use Rattle.gen_sim.specs.View.{View, IsOf, IsOfCall, depth, innermost, all_cells, low, PlacedIn}
use Rattle.gen_sim.specs.View.{Laid}
use Rattle.gen_sim.specs.Next.{param_pieces, referred, HoldArguments, in_call}
use Rattle.gen_sim.proofs.PieceLaws.{each_both, each_gives, total-append}
use Rattle.gen_sim.proofs.DataLaws.{of_low}
use Rattle.gen_sim.proofs.ViewLaws.{of_call, local_apart, total_params}
use Rattle.gen_sim.specs.Fits.{IsOfKind, ParamFits, Fits}
use Rattle.gen_sim.specs.Results.{Suits, SuitAll}

-- ---- what the arguments are

-- one argument of a kind
pub record ArgumentIs (kind : Slot) (held : List Held) (s : ℕ) : Type 0 where
  pub it : Held
  pub there : slice_get held s ≡ Some it
  pub suits : Suits kind it

inside : {A : Type 0} (a b : A) → Some a ≡ Some b → a ≡ b
inside a b e = cc

argument_is : (kinds : List Slot) (held : List Held) (s : ℕ) (kind : Slot) → SuitAll kinds held
    → slice_get kinds s ≡ Some kind → ArgumentIs kind held s
argument_is [] held s kind h e = cc
argument_is (k ∷ kinds) [] s kind h e = elim h [ ]
argument_is (k ∷ kinds) (x ∷ held) zero kind h e =
    record { it = x; there = refl; suits = subst (λ z. Suits z x) (inside k kind e) h.0 }
argument_is (k ∷ kinds) (x ∷ held) (suc s) kind h e =
    let r = argument_is kinds held s kind h.1 e in
    record { it = r.it; there = r.there; suits = r.suits }

-- what it refers to
referred_is : (held : List Held) (s : ℕ) (it : Held) (r : Reference) → slice_get held s ≡ Some it
    → referred held s ≡ Some r → it ≡ natives.Refers r
referred_is [] s it r e h = cc
referred_is (Value x ∷ held) zero it r e h = cc
referred_is (natives.Refers q ∷ held) zero it r e h =
    sym (inside (natives.Refers q) it e) ∙ ap natives.Refers (inside q r h)
referred_is (Value x ∷ held) (suc s) it r e h = referred_is held s it r e h
referred_is (natives.Refers q ∷ held) (suc s) it r e h = referred_is held s it r e h

none_behind : (held : List Held) (s : ℕ) → length held ≤ s → referred held s ≡ None
none_behind [] s h = refl
none_behind (Value x ∷ held) zero h = absurd (omega (arith, h))
none_behind (natives.Refers r ∷ held) zero h = absurd (omega (arith, h))
none_behind (Value x ∷ held) (suc s) h = none_behind held s (omega (arith, h))
none_behind (natives.Refers r ∷ held) (suc s) h = none_behind held s (omega (arith, h))

pub suit_count : (kinds : List Slot) (held : List Held) → SuitAll kinds held
    → length held ≡ length kinds
suit_count [] [] h = refl
suit_count [] (x ∷ held) h = elim h [ ]
suit_count (k ∷ kinds) [] h = elim h [ ]
suit_count (k ∷ kinds) (x ∷ held) h = ap suc (suit_count kinds held h.1)

pub hold_count : (program : Program) (room : ℕ) (v : View) (held : List Held) (cells : List ℤ)
    → HoldArguments program room v held cells → length cells ≡ length held
hold_count program room v [] [] h = refl
hold_count program room v [] (c ∷ cells) h = elim h [ ]
hold_count program room v (x ∷ held) [] h = elim h [ ]
hold_count program room v (x ∷ held) (c ∷ cells) h =
    ap suc (hold_count program room v held cells h.1)

-- ---- the pieces of the parameters

module _ (program : Program) (room : ℕ) (v : View) where
  -- no other slot's
  params_apart : (frame from s : ℕ) (held : List Held) (cells : List ℤ) → from + length held ≤ s
      → Each (Apart (Thing (Local frame s) [])) (param_pieces frame from held cells)
  params_apart frame from s [] cells h = tt
  params_apart frame from s (x ∷ held) [] h = tt
  params_apart frame from s (Value x ∷ held) (c ∷ cells) h = (
    inr (λ e. absurd (omega (arith, e, h))),
    params_apart frame (from + 1) s held cells (omega (arith, h)),
  )
  params_apart frame from s (natives.Refers r ∷ held) (c ∷ cells) h =
      (tt, params_apart frame (from + 1) s held cells (omega (arith, h)))

  params_later : (frame from s : ℕ) (sizes : List ℕ) (held : List Held) (cells : List ℤ) → s < from
      → Each (Apart (Thing (Local frame s) sizes)) (param_pieces frame from held cells)
  params_later frame from s sizes [] cells h = tt
  params_later frame from s sizes (x ∷ held) [] h = tt
  params_later frame from s sizes (Value x ∷ held) (c ∷ cells) h = (
    inr (λ e. absurd (omega (arith, e, h))),
    params_later frame (from + 1) s sizes held cells (omega (arith, h)),
  )
  params_later frame from s sizes (natives.Refers r ∷ held) (c ∷ cells) h =
      (tt, params_later frame (from + 1) s sizes held cells (omega (arith, h)))

  -- a parameter's cell behind one cell more
  behind_one : (frame from i : ℕ) (piece : Piece) (pieces : List Piece) → total (piece ∷ []) ≡ 1
      → Apart (Thing (Local frame (from + suc i)) (1 ∷ [])) piece
      → StandsIn (Thing (Local frame (from + 1 + i)) (1 ∷ [])) pieces i
      → StandsIn (Thing (Local frame (from + suc i)) (1 ∷ [])) (piece ∷ pieces) (suc i)
  behind_one frame from i piece pieces one apart stands =
      let same : from + 1 + i ≡ from + suc i = omega arith in
      let q = subst (λ n. StandsIn (Thing (Local frame n) (1 ∷ [])) pieces i) same stands in
      record {
        before = piece ∷ q.before;
        after = q.after;
        split = ap (λ l. piece ∷ l) q.split;
        first_is = omega (arith, q.first_is, one);
        not_before = (apart, q.not_before);
        not_after = q.not_after;
      }

  apart_next : (frame from i : ℕ) (pieces : List Piece)
      → Each (Apart (Thing (Local frame (from + suc i)) (1 ∷ []))) pieces
      → Each (Apart (Thing (Local frame (from + 1 + i)) (1 ∷ []))) pieces
  apart_next frame from i pieces apart =
      let same : from + suc i ≡ from + 1 + i = omega arith in
      subst (λ n. Each (Apart (Thing (Local frame n) (1 ∷ []))) pieces) same apart

  -- a value's cell, among them and what lies behind them
  param_stands : (frame from i : ℕ) (x : ℤ) (held : List Held) (cells : List ℤ) (more : List Piece)
      → HoldArguments program room v held cells
      → slice_get held i ≡ Some (Value x)
      → Each (Apart (Thing (Local frame (from + i)) (1 ∷ []))) more
      → StandsIn (Thing (Local frame (from + i)) (1 ∷ []))
      (param_pieces frame from held cells ++ more) i
  param_stands frame from i x [] cells more h e apart = cc
  param_stands frame from i x (y ∷ held) [] more h e apart = elim h [ ]
  param_stands frame from zero x (Value y ∷ held) (c ∷ cells) more h e apart =
      let same : from + 0 ≡ from = omega arith in
      let here : StandsIn (Thing (Local frame from) (1 ∷ []))
      (param_pieces frame from (Value y ∷ held) (c ∷ cells) ++ more) 0 = record {
        before = [];
        after = param_pieces frame (from + 1) held cells ++ more;
        split = refl;
        first_is = refl;
        not_before = tt;
        not_after =
            each_both (Apart (Thing (Local frame from) (1 ∷ [])))
            (param_pieces frame (from + 1) held cells) more
            (params_later frame (from + 1) from (1 ∷ []) held cells (omega arith))
            (subst (λ n. Each (Apart (Thing (Local frame n) (1 ∷ []))) more) same apart);
      } in
      subst (λ n. StandsIn (Thing (Local frame n) (1 ∷ []))
      (param_pieces frame from (Value y ∷ held) (c ∷ cells) ++ more) 0) (sym same) here
  param_stands frame from zero x (natives.Refers r ∷ held) (c ∷ cells) more h e apart = cc
  param_stands frame from (suc i) x (Value y ∷ held) (c ∷ cells) more h e apart =
      behind_one frame from i (Thing (Local frame from) (1 ∷ []))
      (param_pieces frame (from + 1) held cells ++ more) refl
      (inr (λ z. absurd (omega (arith, z))))
      (param_stands frame (from + 1) i x held cells more h.1 e (apart_next frame from i more apart))
  param_stands frame from (suc i) x (natives.Refers r0 ∷ held) (c ∷ cells) more h e apart =
      behind_one frame from i (Fixed (c ∷ [])) (param_pieces frame (from + 1) held cells ++ more) refl
      tt
      (param_stands frame (from + 1) i x held cells more h.1 e (apart_next frame from i more apart))

  -- ---- within the call

  module _ (kinds : List Slot) (body : Body) (need : ℕ) (saved : List ℤ) (held : List Held)
      (cells waits : List ℤ) (laid : Laid program room v)
      (hold : HoldArguments program room v held cells) (suit : SuitAll kinds held)
      (begins : take (length kinds) body.slots ≡ kinds)
      (three : length saved ≡ 3) (fits : total v.high + length waits + length cells + 3
      ≤ all_cells program room) where
    abbrev callee : View
    callee = in_call program room v need saved held cells waits

    abbrev more : List Piece
    more = Fixed waits ∷ v.high

    -- the slots of callers are others
    older_apart : (s : ℕ) (sizes : List ℕ) → Each (Apart (Thing (Local (depth v) s) sizes)) more
    older_apart s sizes = (
      tt,
      each_gives (IsOfCall (depth v)) (Apart (Thing (Local (depth v) s) sizes)) v.high
          (λ q h. local_apart (depth v) v.temps (depth v) s sizes q (omega arith)
          (of_call (depth v) (depth v) v.temps q (omega arith) h)) laid.frames_are,
    )

    innermost_is : innermost callee ≡ depth v
    innermost_is = omega arith

    kind_is : (s : ℕ) (kind : Slot) → s < length kinds → slice_get body.slots s ≡ Some kind
        → slice_get kinds s ≡ Some kind
    kind_is s kind below e =
        subst (λ l. slice_get l s ≡ Some kind) begins
        (taken (length kinds) body.slots s kind below e)
      where
        taken : (n : ℕ) (xs : List Slot) (i : ℕ) (y : Slot) → i < n → slice_get xs i ≡ Some y
            → slice_get (take n xs) i ≡ Some y
        taken zero xs i y l k = absurd (omega (arith, l))
        taken (suc n) [] i y l k = cc
        taken (suc n) (x ∷ xs) zero y l k = k
        taken (suc n) (x ∷ xs) (suc i) y l k = taken n xs i y (omega (arith, l)) k

    params_are : (s : ℕ) → callee.params (depth v) s ≡ referred held s
    params_are s =
        let top : (depth v == depth v) ≡ true = eq-eqb _ _ refl in
        ap (λ (b : Bool). (if b then referred held else v.params (depth v)) s) top

    numbers : total callee.high ≡ 3 + (length cells + (length waits + total v.high))
    numbers =
        omega (
          arith,
          three,
          total-append (param_pieces (depth v) 0 held cells) more,
          total_params program room v (depth v) 0 held cells hold,
        )

    plain_at : (s : ℕ) (x : ℤ) → slice_get held s ≡ Some (Value x)
        → ParamFits program room callee s ScalarSlot
    plain_at s x e =
        let n : ℕ = 0 + s in
        let zero_more : 0 + s ≡ s = omega arith in
        let r0 =
        param_stands (depth v) 0 s x held cells more hold e
        (older_apart (0 + s) (1 ∷ [])) in
        let r1 =
        subst (λ k. StandsIn (Thing (Local (depth v) k) (1 ∷ []))
        (param_pieces (depth v) 0 held cells ++ more) s) zero_more r0 in
        let first : ℕ = all_cells program room + (3 + s) - total callee.high in
        let piece = Thing (Local (depth v) s) (1 ∷ []) in
        let placed : PlacedIn program room callee piece first = record {
          where_it_is = inr (record {
            behind = 3 + s;
            stands = record {
              before = Fixed saved ∷ r1.before;
              after = r1.after;
              split = ap (λ l. Fixed saved ∷ l) r1.split;
              first_is = omega (arith, three, r1.first_is);
              not_before = (tt, r1.not_before);
              not_after = r1.not_after;
            };
            apart =
                each_gives (IsOf 0 v.temps) (Apart piece) (low program room v)
                (λ q h. local_apart 0 v.temps (depth v) s (1 ∷ []) q (omega arith) h)
                (of_low program 0 v.temps);
            place = omega (arith, numbers, fits);
          });
        } in (
          first,
          subst (λ k. PlacedIn program room callee (Thing (Local k s) (1 ∷ [])) first)
              (sym innermost_is) placed,
          omega (arith, numbers, fits),
        )

    refers_of : (s : ℕ) (kind : Slot) → ArgumentIs kind held s → (r : Reference)
        → callee.params (innermost callee) s ≡ Some r → IsOfKind kind r
    refers_of s kind a r e =
        let k : callee.params (depth v) s ≡ Some r =
        subst (λ j. callee.params j s ≡ Some r) innermost_is e in
        let same = referred_is held s a.it r a.there (sym (params_are s) ∙ k) in
        suits_refers kind (subst (λ z. Suits kind z) same a.suits)
      where
        suits_refers : (kind : Slot) → Suits kind (natives.Refers r) → IsOfKind kind r
        suits_refers ScalarSlot h = h
        suits_refers ReferenceSlot h = h
        suits_refers (ArraySlot sizes) h = h
        suits_refers (OpenSlot inner) h = h

    by_kind : (s : ℕ) (kind : Slot) → ArgumentIs kind held s → ParamFits program room callee s kind
    by_kind s ScalarSlot a = by_held a.it a.there a.suits
      where
        by_held : (it : Held) → slice_get held s ≡ Some it → Suits ScalarSlot it
            → ParamFits program room callee s ScalarSlot
        by_held (Value x) e h = plain_at s x e
        by_held (natives.Refers r) e h = elim h [ ]
    by_kind s ReferenceSlot a = λ r e. refers_of s ReferenceSlot a r e
    by_kind s (ArraySlot sizes) a = λ r e. refers_of s (ArraySlot sizes) a r e
    by_kind s (OpenSlot inner) a = λ r e. refers_of s (OpenSlot inner) a r e

    -- no local is made yet, and each parameter has its cell or refers to what is of its kind
    pub called_fits : Fits program room (body_scope program kinds body) callee
    called_fits = record {
      rest = callee.high;
      locals = refl;
      once = tt;
      behind_params = λ s made. absurd (omega (arith, made.2));
      frame = omega (arith, numbers, fits);
      params =
          λ s kind below is. by_kind s kind
          (argument_is kinds held s kind suit (kind_is s kind below is));
      nowhere_else = λ s above. (
        subst (λ k. Each (Apart (Thing (Local k s) [])) callee.high) (sym innermost_is) (
          tt,
          each_both (Apart (Thing (Local (depth v) s) []))
              (param_pieces (depth v) 0 held cells) more
              (params_apart (depth v) 0 s held cells
              (omega (arith, above, suit_count kinds held suit))) (older_apart s []),
        ),
        subst (λ k. callee.params k s ≡ None) (sym innermost_is)
            (params_are s ∙ none_behind held s (omega (arith, above, suit_count kinds held suit))),
      );
      deep = omega arith;
    }
