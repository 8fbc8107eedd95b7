-- What is said in parts, one behind another, is said.
use Rattle.std.proofs.Common.{◌≡◌, ◌+◌, ℕ, List, [], ◌++◌, Option, Result, Ok, Err, IsOk, length}
use Rattle.std.proofs.Common.{ap, sym, refl, subst, ◌∙◌, append-nil, length-append, arith}
use Rattle.std.proofs.lemmas.Result.{on_ok_weaker, on_err_weaker}
use Rattle.pawn_outside.specs.declared.fault.SinkFault.{SinkFault}
use Rattle.pawn_outside.specs.Rose.{risen}
use Rattle.pawn_outside.specs.Said.{Said}
use Rattle.pawn_outside.specs.Taken.{with_more}
use Rattle.pawn_outside.proofs.TakenLaws.{with_more-nil, with_more-with_more, wrote_within}

never : {A : Type 0} (fault : SinkFault) → IsOk {T = Unit {0}} (Err fault) → A
never fault is = absurd (cc is)

module _ {S : Type 0} {taken : S → Option (List ℕ)} {faults : S → ℕ}
    {has_room : S → ℕ → Type 0} where
  -- the same text by another name
  pub said_as : {old new : S} {a b : List ℕ} {result : Result (Unit {0}) SinkFault} → a ≡ b
      → Said taken faults has_room old new a result → Said taken faults has_room old new b result
  said_as {old} {new} {result = result} e said =
      subst (λ text. Said taken faults has_room old new text result) e said

  -- two texts
  pub said_then : {old mid new : S} {a b : List ℕ} {done : Unit {0}}
      {result : Result (Unit {0}) SinkFault}
      → Said taken faults has_room old mid a (Ok done) → Said taken faults has_room mid new b result
      → Said taken faults has_room old new (a ++ b) result
  said_then {old} {mid} {new} {a} {b} {done} {result} first second = record {
    whole =
        on_ok_weaker result (λ e. e ∙ ap (λ t. with_more t b) first.whole
        ∙ with_more-with_more (taken old) a b) second.whole;
    front =
        wrote_within (taken old) (taken mid) (taken new) a b [] (a ++ b) first.whole second.front
        (ap (λ t. a ++ t) (append-nil b));
    steady = on_ok_weaker result (λ e. e ∙ first.steady) second.steady;
    cause = on_err_weaker result (λ e. e ∙ ap risen first.steady) second.cause;
    unfailing = λ rest room.
        let e : length (a ++ b) + rest ≡ length a + (length b + rest) =
        omega (arith, length-append a b) in
        second.unfailing rest (first.unfailing (length b + rest) (subst (has_room old) e room)).0;
  }

  -- after a fault a prefix of the first text is a prefix of both
  pub said_cut : {old mid : S} {a : List ℕ} {fault other : SinkFault} (b : List ℕ)
      (result : Result (Unit {0}) SinkFault)
      → result ≡ Err other → Said taken faults has_room old mid a (Err fault)
      → Said taken faults has_room old mid (a ++ b) result
  said_cut {old} {mid} {a} {fault} b result is said = rw is (record {
    whole = tt;
    front =
        wrote_within (taken old) (taken old) (taken mid) [] a b (a ++ b)
        (sym (with_more-nil (taken old))) said.front refl;
    steady = tt;
    cause = said.cause;
    unfailing = λ rest room.
        let e : length (a ++ b) + rest ≡ length a + (length b + rest) =
        omega (arith, length-append a b) in
        never fault (said.unfailing (length b + rest) (subst (has_room old) e room)).1;
  })

  -- nothing
  pub said_nothing : (out : S) → Said taken faults has_room out out [] (Ok tt)
  said_nothing out = record {
    whole = sym (with_more-nil (taken out));
    front =
        record {
          part = [];
          written = sym (with_more-nil (taken out));
          front = record { rest = []; whole_is = refl };
        };
    steady = refl;
    cause = tt;
    unfailing = λ rest room. (subst (has_room out) (omega arith) room, refl);
  }
