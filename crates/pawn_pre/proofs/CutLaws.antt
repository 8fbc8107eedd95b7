-- Text that was built as far as a line can be long.
use Rattle.std.proofs.Common.{◌≡◌, ◌≤◌, ℕ, zero, suc, ◌+◌, ◌-◌, ◌++◌, List, [], Bool, true, false}
use Rattle.std.proofs.Common.{Option, Some, None, length, take, if◌then◌else◌, ◌∷◌, length-append}
use Rattle.std.proofs.Common.{◌<◌, drop, get_or, add-one, drop-cons, append-nil, append_assoc, refl}
use Rattle.std.proofs.Common.{sym, ap, ◌∙◌, arith}
use Rattle.std.specs.Prelude.{min}
use Rattle.std.proofs.Math.Seq.{take-append-add, take-append_seam}
use Rattle.std.proofs.lemmas.Bool.{ltb-true, lt-ltb}
use Rattle.std.proofs.lemmas.List.{length-take, take_all, take_min}
use Rattle.pawn_pre.specs.declared.quote.Quote.{Quote}
use Rattle.pawn_token.specs.declared.class.Class.TheVariants as class
use Rattle.pawn_token.specs.Class.{is_in}
use Rattle.pawn_pre.specs.Quote.{quote_after}
use Rattle.pawn_pre.specs.Table.{Rules}
use Rattle.pawn_pre.specs.declared.matching.Given.{Given}
use Rattle.pawn_pre.specs.declared.piece.Piece.{Piece}
use Rattle.pawn_pre.specs.Substitution.{Cursor, bytes_for, filled, begins_whole_name, place_at}
use Rattle.pawn_pre.specs.Substitution.{substituted, with_before, or_later, is_long}
use Rattle.pawn_pre.specs.Expansion.{IsCut, IsPlace, IsCursor, up_to_long}

long_front : (a b : ℕ) → is_long a ≡ true → is_long (a + b) ≡ true
long_front a b h = grind arith

cut_whole : (whole : List ℕ) → IsCut whole whole
cut_whole whole = (refl, λ h. refl)

true_false : {b : Bool} → b ≡ true → b ≡ false → ⊥
true_false h k = cc

take_twice : (n : ℕ) (xs ys : List ℕ) → take n (take n xs ++ ys) ≡ take n (xs ++ ys)
take_twice zero xs ys = refl
take_twice (suc n) [] ys = refl
take_twice (suc n) (x ∷ xs) ys = ap (λ t. x ∷ t) (take_twice n xs ys)

-- the first 4,096 bytes are too long where the whole is
long_min : (n : ℕ) → is_long (min 4096 n) ≡ is_long n
long_min n = by_long (is_long n) refl
  where
    by_long : (t : Bool) → is_long n ≡ t → is_long (min 4096 n) ≡ is_long n
    by_long true e =
        let p = ltb-true 4095 n e in
        let q : 4095 < min 4096 n = omega (arith, p) in
        lt-ltb 4095 (min 4096 n) q ∙ sym e
    by_long false e =
        let p : n ≤ 4095 = grind arith in
        let q : min 4096 n ≡ n = omega (arith, p) in
        ap is_long q

-- and else they are the whole
front_all : (whole : List ℕ) → is_long (length whole) ≡ false → take 4096 whole ≡ whole
front_all whole e = let p : length whole ≤ 4096 = grind arith in take_all 4096 whole p

cut_front : (whole : List ℕ) → IsCut whole (up_to_long whole)
unfolding up_to_long
cut_front whole =
    let e : is_long (length (take 4096 whole)) ≡ is_long (length whole) =
    ap is_long (length-take 4096 whole) ∙ long_min (length whole) in
    (e, λ h. front_all whole (sym e ∙ h))

-- bytes put at the end, as far as there is room
pub front_put : (out bytes : List ℕ) → length out ≤ 4096 →
    out ++ take (min (4096 - length out) (length bytes)) bytes ≡ up_to_long (out ++ bytes)
unfolding up_to_long
front_put out bytes h =
    let e : length out + (4096 - length out) ≡ 4096 = omega arith in
    ap (λ t. out ++ t) (take_min (4096 - length out) bytes)
    ∙ sym (take-append-add out bytes (4096 - length out)) ∙ ap (λ k. take k (out ++ bytes)) e

-- a piece more
front_more : (out piece rest whole : List ℕ) → up_to_long (out ++ (piece ++ rest)) ≡ whole →
    up_to_long (up_to_long (out ++ piece) ++ rest) ≡ whole
unfolding up_to_long
front_more out piece rest whole h =
    take_twice 4096 (out ++ piece) rest ∙ ap (λ t. take 4096 t) (append_assoc out piece rest) ∙ h

pub front_more_at : (out new : List ℕ) (given : List Given) (text : List Piece) (i : ℕ) (d : Piece)
    (whole : List ℕ) →
    i < length text → up_to_long (out ++ filled given (drop i text)) ≡ whole →
    new ≡ up_to_long (out ++ bytes_for given (get_or text i d)) →
    up_to_long (new ++ filled given (drop (i + 1) text)) ≡ whole
unfolding filled
front_more_at out new given text i d whole h e put =
    rw (put, add-one) (front_more out _ _ _ (rw (drop-cons text i d h) at e))

-- a text that is long already
pub front_full : (out more whole : List ℕ) → up_to_long (out ++ more) ≡ whole → length out ≡ 4096
    → out ≡ whole
unfolding up_to_long
front_full out more whole h e =
    sym (take-append_seam out more) ∙ ap (λ k. take k (out ++ more)) e ∙ h

-- a text that is whole
pub front_whole : (out more whole : List ℕ) → up_to_long (out ++ more) ≡ whole → length out ≤ 4096
    → more ≡ [] → out ≡ whole
unfolding up_to_long
front_whole out more whole h e none =
    sym (take_all 4096 out e) ∙ ap (λ t. take 4096 t)
    (sym (append-nil out) ∙ ap (λ t. out ++ t) (sym none)) ∙ h

pub length-up_to_long : (bytes : List ℕ) → length (up_to_long bytes) ≤ 4096
unfolding up_to_long
length-up_to_long bytes = omega (arith, length-take 4096 bytes)

-- the same bytes behind both
cut_append : (whole out rest : List ℕ) → IsCut whole out → IsCut (whole ++ rest) (out ++ rest)
cut_append whole out rest h = by_long (is_long (length out)) refl
  where
    by_long : (b : Bool) → is_long (length out) ≡ b → IsCut (whole ++ rest) (out ++ rest)
    by_long true e =
        let long : (bytes : List ℕ) → is_long (length bytes) ≡ true
        → is_long (length (bytes ++ rest)) ≡ true =
        λ bytes k. rw (length-append bytes rest) (long_front (length bytes) (length rest) k) in
        (long out e ∙ sym (long whole (sym h.0 ∙ e)), λ k. absurd (true_false (long out e) k))
    by_long false e = rw (h.1 e) (cut_whole (whole ++ rest))

-- such bytes with the same behind them
pub cut_behind : (whole out rest : List ℕ) → out ≡ up_to_long whole
    → IsCut (whole ++ rest) (out ++ rest)
cut_behind whole out rest e = rw e (cut_append whole (up_to_long whole) rest (cut_front whole))

-- how long a line is behind some bytes
pub cut_sum : (n : ℕ) (whole out : List ℕ) → IsCut whole out
    → is_long (n + length out) ≡ is_long (n + length whole)
cut_sum n whole out h = by_long (is_long (length out)) refl
  where
    by_long : (b : Bool) → is_long (length out) ≡ b
        → is_long (n + length out) ≡ is_long (n + length whole)
    by_long true e =
        let f : is_long (length whole) ≡ true = sym h.0 ∙ e in
        let p : is_long (n + length out) ≡ true = grind arith in
        let q : is_long (n + length whole) ≡ true = grind arith in
        p ∙ sym q
    by_long false e = ap (λ (bytes : List ℕ). is_long (n + length bytes)) (h.1 e)

pub cut_same : (n : ℕ) (whole out : List ℕ) → IsCut whole out → is_long (n + length out) ≡ false
    → out ≡ whole
cut_same n whole out h e = h.1 (grind arith)

-- a place that was found behind a front
pub placed : (front after : List ℕ) (place : Option (List ℕ)) (later : Option Cursor)
    → IsPlace place (Some after) →
    IsCursor (with_before front (or_later place later)) front after
unfolding with_before
placed front after None later h = absurd h
placed front after (Some whole) later h = (append-nil front, h)

before_both : (front more : List ℕ) (o : Option Cursor)
    → with_before (front ++ more) o ≡ with_before front (with_before more o)
unfolding with_before
before_both front more None = refl
before_both front more (Some cursor) =
    ap
    (λ
    (bytes : List ℕ).
    let o : Option Cursor = Some (record { before = bytes; after = cursor.after }) in
    o) (append_assoc front more cursor.before)

-- the next byte of a line, whether a place begins there or not
module _ (rules : Rules) (control : ℕ) (quote : Quote) (joined : Bool) (front bytes : List ℕ)
    (b : ℕ) (rest : List ℕ) (whole : Option Cursor)
    (cut : bytes ≡ b ∷ rest) (so_far : with_before front
    (substituted rules control quote joined bytes) ≡ whole) where
  pub place_here : (after : List ℕ)
      → IsPlace (if begins_whole_name quote joined b then place_at rules control bytes else None)
      (Some after) → IsCursor whole front after
  unfolding substituted
  place_here after h = rw (sym so_far) (rw cut (placed front after _ _ (rw cut at h)))

  pub no_place : (if begins_whole_name quote joined b then place_at rules control bytes else None)
      ≡ None →
      with_before (front ++ b ∷ []) (substituted rules control (quote_after control quote b)
      (is_in class.NameByte b) rest) ≡ whole
  unfolding substituted
  no_place h = before_both front (b ∷ []) _ ∙ rw (rw cut at h) at (rw cut at so_far)
