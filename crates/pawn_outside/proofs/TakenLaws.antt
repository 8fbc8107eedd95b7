-- What was taken grows at its end: pieces one behind another are one piece.
use Rattle.std.proofs.Common.{◌≡◌, ◌+◌, ◌<◌, ℕ, List, [], ◌++◌, Option, None, Some, Bor, length}
use Rattle.std.proofs.Common.{take, drop, get_or, suc, refl, sym, ap, ◌∙◌, append_assoc, append-nil}
use Rattle.std.proofs.Common.{length-append, arith}
use Rattle.std.proofs.Math.Seq.{drop-cons}
use Rattle.std.proofs.lemmas.List.{take-append-drop}
use Rattle.std.proofs.lemmas.List.Concat.{flat_map-append}
use Rattle.pawn_outside.specs.Taken.{with_more, WroteFront, joined}

pub with_more-nil : (taken : Option (List ℕ)) → with_more taken [] ≡ taken
with_more-nil None = refl
with_more-nil (Some bytes) = ap Some (append-nil bytes)

pub with_more-with_more : (taken : Option (List ℕ)) (a b : List ℕ)
    → with_more (with_more taken a) b ≡ with_more taken (a ++ b)
with_more-with_more None a b = refl
with_more-with_more (Some bytes) a b = ap Some (append_assoc bytes a b)

-- all of it is a prefix of it
pub wrote_whole : (old new : Option (List ℕ)) (bytes : List ℕ) → new ≡ with_more old bytes
    → WroteFront old new bytes
wrote_whole old new bytes e =
    record { part = bytes; written = e; front = record { rest = []; whole_is = append-nil bytes } }

-- a prefix of the piece that follows what was taken
pub wrote_within : (old mid new : Option (List ℕ)) (before piece after whole : List ℕ)
    → mid ≡ with_more old before → WroteFront mid new piece
    → before ++ (piece ++ after) ≡ whole → WroteFront old new whole
wrote_within old mid new before piece after whole m w e = record {
  part = before ++ w.part;
  written = w.written ∙ ap (λ t. with_more t w.part) m ∙ with_more-with_more old before w.part;
  front = record {
    rest = w.front.rest ++ after;
    whole_is =
        append_assoc before w.part (w.front.rest ++ after)
        ∙ ap (λ t. before ++ t) (sym (append_assoc w.part w.front.rest after)
        ∙ ap (λ t. t ++ after) w.front.whole_is) ∙ e;
  };
}

-- the pieces before one, that one and those after it
pub joined_at : (pieces : List (Bor (List ℕ))) (i : ℕ) (d : Bor (List ℕ)) → i < length pieces
    → joined (take i pieces) ++ ((get_or pieces i d).now ++ joined (drop (suc i) pieces))
    ≡ joined pieces
joined_at pieces i d h =
    sym (ap (λ rest. joined (take i pieces) ++ joined rest) (drop-cons pieces i d h))
    ∙ sym (flat_map-append (λ (piece : Bor (List ℕ)). piece.now) (take i pieces) (drop i pieces))
    ∙ ap joined (take-append-drop i pieces)

pub length-joined_at : (pieces : List (Bor (List ℕ))) (i : ℕ) (d : Bor (List ℕ)) (n : ℕ)
    → i < length pieces
    → length (joined pieces) + n ≡ length (joined (take i pieces))
    + (length (get_or pieces i d).now + (length (joined (drop (suc i) pieces)) + n))
length-joined_at pieces i d n h =
    let whole = ap length (joined_at pieces i d h) in
    let outer =
    length-append (joined (take i pieces))
    ((get_or pieces i d).now ++ joined (drop (suc i) pieces)) in
    let inner = length-append (get_or pieces i d).now (joined (drop (suc i) pieces)) in
    omega (arith, whole, outer, inner)
