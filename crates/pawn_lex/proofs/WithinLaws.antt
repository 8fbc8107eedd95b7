-- What lines have of tokens: no more than their bytes, and each on one of them.
use Rattle.std.proofs.Common.{◌≡◌, ◌≤◌, ◌+◌, inl, inr, ℕ, List, [], ◌∷◌, ◌++◌, Bool, false, Result}
use Rattle.std.proofs.Common.{Ok, Err, length, sym, ap, subst, ◌∙◌, arith, length-append}
use Rattle.std.specs.Prelude.{All}
use Rattle.std.proofs.lemmas.List.Elements.{All-nil, All-cons, All-append, All-weaker}
use Rattle.std.proofs.lemmas.List.Sums.{sum_by-append, sum_by-cons}
use Rattle.pawn_cells.specs.declared.place.Place.{Place}
use Rattle.pawn_pre.specs.declared.line.Line.{Line}
use Rattle.pawn_pre.specs.Bounds.{bytes_of}
use Rattle.pawn_token.specs.Kinds.{past_blanks}
use Rattle.pawn_token.specs.Sizes.{IsNameOrOther, name_size}
use Rattle.pawn_token.proofs.ForCallers.{token_shorter, token_takes, past_blanks-le}
use Rattle.pawn_lex.specs.declared.fault.LexFault.{LexFault}
use Rattle.pawn_lex.specs.declared.fault.LexFault.TheVariants as lex
use Rattle.pawn_lex.specs.declared.token.Token.{Token}
use Rattle.pawn_lex.specs.declared.token.Tokens.{Tokens}
use Rattle.pawn_lex.specs.Answers.{IsAnswer}
use Rattle.pawn_lex.specs.Lines.{Leads, AreTokens, IsFirstFault}
use Rattle.pawn_lex.specs.Within.{IsPlaceOf, names_size, AreWithin, IsWithin}

abbrev Named : Token → Type 0
Named token = IsNameOrOther token.kind

-- a token stands on a line
abbrev On : Line → Token → Type 0
On line token = token.place ≡ line.place

-- tokens from one place of a line to another
record LineTakes (line : Line) (tokens : List Token) (n m : ℕ) : Type 0 where
  few : length tokens + m ≤ n
  small : names_size tokens + m ≤ n
  named : All Named tokens
  placed : All (On line) tokens

leads_take : (line : Line) (first : Bool) (at : List ℕ) (tokens : List Token) (end : List ℕ)
    → Leads line first at tokens end
    → LineTakes line tokens (length at) (length end)
leads_take line first at [] end here =
    let same = ap length here in
    record {
      few = omega (arith, same);
      small = omega (arith, same);
      named = All-nil Named;
      placed = All-nil (On line);
    }
leads_take line first at (token ∷ tokens) end (rest, next, others) =
    let later = leads_take line false rest tokens end others in
    let here = past_blanks at in
    let shorter = token_shorter line.ctrl line.packed here next.kind rest next.here in
    let takes = token_takes line.ctrl line.packed here next.kind rest next.here in
    let kind_is : next.kind ≡ token.kind = ap (λ (t : Token). t.kind) (sym next.token_is) in
    let size_is = ap name_size kind_is in
    let blank = past_blanks-le at in
    record {
      few = omega (arith, later.few, shorter, blank);
      small =
          omega (
            arith,
            later.small,
            takes.1,
            blank,
            size_is,
            sum_by-cons (λ (t : Token). name_size t.kind) token tokens,
          );
      named = All-cons Named token tokens (subst IsNameOrOther kind_is takes.0) later.named;
      placed =
          All-cons (On line) token tokens (ap (λ (t : Token). t.place) next.token_is) later.placed;
    }

-- all tokens of lines
pub tokens_within : (lines : List Line) (tokens : List Token) → AreTokens lines tokens
    → AreWithin lines tokens
tokens_within [] tokens none =
    subst (AreWithin []) (sym none)
    (record {
      few = omega arith;
      small = omega arith;
      named = All-nil Named;
      placed = All-nil (λ (token : Token). IsPlaceOf [] token.place);
    })
tokens_within (line ∷ lines) tokens (here, more, is, tokenised, others) =
    let takes = leads_take line _ line.bytes here tokenised.end tokenised.leads in
    let later = tokens_within lines more others in
    let counted = length-append here more in
    let summed = sum_by-append (λ (token : Token). name_size token.kind) here more in
    let bytes = sum_by-cons (λ (l : Line). length l.bytes) line lines in
    subst (AreWithin (line ∷ lines)) (sym is) (record {
      few = omega (arith, takes.few, later.few, counted, bytes);
      small = omega (arith, takes.small, later.small, summed, bytes);
      named = All-append Named here more takes.named later.named;
      placed = All-append (λ (token : Token). IsPlaceOf (line ∷ lines) token.place) here more
          (All-weaker (On line) (λ (token : Token). IsPlaceOf (line ∷ lines) token.place)
          (λ token e. inl e) here takes.placed)
          (All-weaker (λ (token : Token). IsPlaceOf lines token.place)
          (λ (token : Token). IsPlaceOf (line ∷ lines) token.place)
          (λ token e. inr e) more later.placed);
    })

fault_within : (lines : List Line) (fault : ℕ) (place : Place) → IsFirstFault lines fault place
    → IsPlaceOf lines place
fault_within [] fault place is = absurd is
fault_within (line ∷ lines) fault place (inl (wrong, e)) = inl e
fault_within (line ∷ lines) fault place (inr (here, tokens, later)) =
    inr (fault_within lines fault place later)

pub answer_within : (lines : List Line) (answer : Result Tokens LexFault) → IsAnswer lines answer
    → IsWithin lines answer
answer_within lines (Ok tokens) are = tokens_within lines tokens.list are
answer_within lines (Err (lex.Source fault place)) is = fault_within lines fault place is
answer_within lines (Err lex.Memory) is = tt
