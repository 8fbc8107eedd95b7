-- A text that is written part by part: what was said, and what is left of the whole.
use Rattle.std.proofs.Common.{◌≡◌, ℕ, List, [], ◌++◌, Option, Result, Ok, Err, refl, sym, ap, ◌∙◌}
use Rattle.std.proofs.Common.{append_assoc, append-nil}
use Rattle.pawn_outside.specs.declared.fault.SinkFault.{SinkFault}
use Rattle.pawn_outside.specs.Said.{Said}
use Rattle.pawn_outside.proofs.SaidLaws.{said_as, said_then, said_cut, said_nothing}

-- a text was said whole, what is left of it aside
pub record SoFar {S : Type 0} (taken : S → Option (List ℕ)) (faults : S → ℕ)
    (has_room : S → ℕ → Type 0) (old now : S) (left whole : List ℕ) : Type 0 where
  pub text : List ℕ
  pub said : Said taken faults has_room old now text (Ok tt)
  pub whole_is : text ++ left ≡ whole

module _ {S : Type 0} {taken : S → Option (List ℕ)} {faults : S → ℕ}
    {has_room : S → ℕ → Type 0} where
  pub so_far_none : (out : S) (whole : List ℕ) → SoFar taken faults has_room out out whole whole
  so_far_none out whole = record { text = []; said = said_nothing out; whole_is = refl }

  module _ {old mid : S} {rest whole : List ℕ}
      (before : SoFar taken faults has_room old mid rest whole) where
    parts : (line left : List ℕ) → rest ≡ line ++ left → before.text ++ (line ++ left) ≡ whole
    parts line left e = ap (λ t. before.text ++ t) (sym e) ∙ before.whole_is

    -- one more part
    pub so_far_more : {new : S} {line left : List ℕ} {done : Unit {0}} → rest ≡ line ++ left
        → Said taken faults has_room mid new line (Ok done)
        → SoFar taken faults has_room old new left whole
    so_far_more {line = line} {left = left} e said = record {
      text = before.text ++ line;
      said = said_then before.said said;
      whole_is = append_assoc before.text line left ∙ parts line left e;
    }

    -- a fault within a part
    pub so_far_cut : {new : S} {line : List ℕ} {fault other : SinkFault} (left : List ℕ)
        → rest ≡ line ++ left
        → (result : Result (Unit {0}) SinkFault) → result ≡ Err other
        → Said taken faults has_room mid new line (Err fault)
        → Said taken faults has_room old new whole result
    so_far_cut {line = line} left e result is said =
        said_as (parts line left e) (said_then before.said (said_cut left result is said))

  module _ {old mid : S} {rest whole : List ℕ}
      (before : SoFar taken faults has_room old mid rest whole) where
    -- nothing is left
    pub so_far_done : rest ≡ [] → Said taken faults has_room old mid whole (Ok tt)
    so_far_done e =
        said_as (sym (append-nil before.text) ∙ ap (λ t. before.text ++ t) (sym e)
        ∙ before.whole_is) before.said

    -- the last part
    pub so_far_last : {new : S} {result : Result (Unit {0}) SinkFault}
        → Said taken faults has_room mid new rest result
        → Said taken faults has_room old new whole result
    so_far_last said = said_as before.whole_is (said_then before.said said)
