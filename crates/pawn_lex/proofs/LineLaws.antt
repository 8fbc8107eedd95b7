-- Lines: tokens as they are read, and that lines have at most one list of tokens or one first
-- fault.
use Rattle.std.proofs.Common.{◌≡◌, ◌≤◌, ◌<◌, ◌+◌, inl, inr, ℕ, suc, List, [], ◌∷◌, ◌++◌, Bool, true}
use Rattle.std.proofs.Common.{false, not, ◌&&◌, ◌==◌, Result, Ok, Err, length, drop, get_or, refl}
use Rattle.std.proofs.Common.{sym, ap, subst, ◌∙◌, arith, length-append, append_assoc, append-nil}
use Rattle.std.proofs.Common.{add-one}
use Rattle.std.proofs.Math.ListN.{drop_of_length-le}
use Rattle.std.proofs.Math.Seq.{drop-cons}
use Rattle.pawn_cells.specs.declared.place.Place.{Place}
use Rattle.pawn_pre.specs.declared.line.Line.{Line}
use Rattle.pawn_lex.specs.declared.fault.LexFault.{LexFault}
use Rattle.pawn_lex.specs.declared.fault.LexFault.TheVariants as lex
use Rattle.pawn_lex.specs.declared.token.Token.{Token}
use Rattle.pawn_token.specs.declared.kind.TokenKind.{TokenKind}
use Rattle.pawn_lex.specs.declared.token.Tokens.{Tokens}
use Rattle.pawn_lex.specs.Answers.{IsAnswer, AnswersTokens, AnswersFault, AreDetermined}
use Rattle.pawn_token.specs.Forms.{IsToken, IsFault}
use Rattle.pawn_token.specs.Kinds.{blanks, past_blanks}
use Rattle.pawn_lex.specs.Lines.{IsNext, Leads, IsTokenised, IsFaulty, AreTokens, IsFirstFault}
use Rattle.pawn_token.proofs.ForCallers.{token_one, token_not_fault, place_fault_one, token_shorter}
use Rattle.pawn_token.proofs.ForCallers.{fault_some, past_blanks-le}

-- the flag `first` behind some tokens
abbrev pub flag_after : Bool → List Token → Bool
flag_after first [] = first
flag_after first (token ∷ tokens) = false

flag_false : (tokens : List Token) → flag_after false tokens ≡ false
flag_false [] = refl
flag_false (token ∷ tokens) = refl

flag_more : (first : Bool) (tokens : List Token) (token : Token)
    → flag_after first (tokens ++ token ∷ []) ≡ false
flag_more first [] token = refl
flag_more first (other ∷ tokens) token = refl

leads_more : (line : Line) (first : Bool) (at : List ℕ) (tokens : List Token) (mid : List ℕ)
    (token : Token) (rest : List ℕ)
    → Leads line first at tokens mid → IsNext line (flag_after first tokens) mid token rest
    → Leads line first at (tokens ++ token ∷ []) rest
leads_more line first at [] mid token rest here next =
    (rest, subst (λ bytes. IsNext line first bytes token rest) (sym here) next, refl)
leads_more line first at (other ∷ tokens) mid token rest (behind, begins, others) next = (
  behind,
  begins,
  leads_more line false behind tokens mid token rest others
      (subst (λ flag. IsNext line flag mid token rest) (sym (flag_false tokens)) next),
)

-- the tokens of a line up to a place
pub record LineFront (line : Line) (old new : List Token) (first : Bool)
    (at : List ℕ) : Type 0 where
  pub here : List Token
  pub new_is : new ≡ old ++ here
  pub leads : Leads line true line.bytes here at
  pub first_is : first ≡ flag_after true here

pub line_begins : (line : Line) (old : List Token) → LineFront line old old true line.bytes
line_begins line old =
    record { here = []; new_is = sym (append-nil old); leads = refl; first_is = refl }

pub line_goes_on : (line : Line) (old new : List Token) (first : Bool) (at : List ℕ) (token : Token)
    (rest : List ℕ)
    → LineFront line old new first at → IsNext line first at token rest
    → LineFront line old (new ++ token ∷ []) false rest
line_goes_on line old new first at token rest front next =
    record {
      here = front.here ++ token ∷ [];
      new_is =
          ap (λ tokens. tokens ++ token ∷ []) front.new_is
          ∙ append_assoc old front.here (token ∷ []);
      leads =
          leads_more line true line.bytes front.here at token rest front.leads
          (subst (λ flag. IsNext line flag at token rest) front.first_is next);
      first_is = sym (flag_more true front.here token);
    }

-- a token that was read behind the blanks
pub line_step : (line : Line) (old list new : List Token) (first touches : Bool) (at front : List ℕ)
    (kind : TokenKind) (rest : List ℕ)
    → LineFront line old list first at → front ≡ past_blanks at
    → IsToken line.ctrl line.packed front kind rest
    → touches ≡ (not first && (length (blanks at) == 0))
    → new ≡ list ++ record {
      kind = kind;
      place = line.place;
      first = first;
      touches = touches;
      strict = line.strict;
    } ∷ []
    → LineFront line old new false rest
line_step line old list new first touches at front kind rest so_far behind token touch pushed =
    let put =
    λ (flag : Bool). list ++ record {
      kind = kind;
      place = line.place;
      first = first;
      touches = flag;
      strict = line.strict;
    } ∷ [] in
    let whole : new ≡ put (not first && (length (blanks at) == 0)) = pushed ∙ ap put touch in
    subst (λ tokens. LineFront line old tokens false rest) (sym whole)
    (line_goes_on line old list first at _ rest so_far
    (record {
      kind = kind;
      here = subst (λ bytes. IsToken line.ctrl line.packed bytes kind rest)
          behind token;
      token_is = refl;
    }))

pub line_shorter : (line : Line) (at front : List ℕ) (kind : TokenKind) (rest : List ℕ)
    → front ≡ past_blanks at
    → IsToken line.ctrl line.packed front kind rest → length rest < length at
line_shorter line at front kind rest behind token =
    let shorter = token_shorter line.ctrl line.packed front kind rest token in
    let counted = ap length behind in
    omega (arith, shorter, counted, past_blanks-le at)

-- the flag as the code has it
pub touch_then : (first touches empty : Bool) (n : ℕ) → first ≡ false → touches ≡ empty
    → empty ≡ (n == 0) → touches ≡ (not first && (n == 0))
touch_then first touches empty n later is none = is ∙ none ∙ ap (λ b. not b && (n == 0)) (sym later)

pub touch_else : (first touches : Bool) (n : ℕ) → first ≡ true → touches ≡ not first
    → touches ≡ (not first && (n == 0))
touch_else first touches n here is = is ∙ ap not here ∙ ap (λ b. not b && (n == 0)) (sym here)

pub line_ends : (line : Line) (old new : List Token) (first : Bool) (at : List ℕ)
    → LineFront line old new first at → past_blanks at ≡ []
    → (here : List Token) × (new ≡ old ++ here) × IsTokenised line here
line_ends line old new first at front blank =
    (front.here, front.new_is, record { end = at; leads = front.leads; blank = blank })

pub line_fails : (line : Line) (old new : List Token) (first : Bool) (at : List ℕ) (fault : ℕ)
    → LineFront line old new first at
    → IsFault line.ctrl line.packed (past_blanks at) fault → IsFaulty line fault
line_fails line old new first at fault front here =
    record { tokens = front.here; end = at; leads = front.leads; here = here }

-- at a place of a line stands at most one token
with_kind : Line → Bool → List ℕ → TokenKind → Token
with_kind line first at kind = record {
  kind = kind;
  place = line.place;
  first = first;
  touches = not first && (length (blanks at) == 0);
  strict = line.strict;
}

next_one : (line : Line) (first : Bool) (at : List ℕ) (a b : Token) (rest more : List ℕ)
    → IsNext line first at a rest → IsNext line first at b more
    → (a ≡ b) × (rest ≡ more)
unfolding with_kind
next_one line first at a b rest more x y =
    let same =
    token_one line.ctrl line.packed
    (past_blanks at) x.kind y.kind rest more x.here y.here in
    (x.token_is ∙ ap (with_kind line first at) same.0 ∙ sym y.token_is, same.1)

-- no token stands behind a place
Stops : Line → List ℕ → Type 0
Stops line at = (first : Bool) (token : Token) (rest : List ℕ) → IsNext line first at token rest → ⊥

blank_stops : (line : Line) (at : List ℕ) → past_blanks at ≡ [] → Stops line at
unfolding Stops
blank_stops line at blank first token rest next =
    let shorter = token_shorter line.ctrl line.packed (past_blanks at) next.kind rest next.here in
    let none = ap length blank in
    omega (arith, shorter, none)

fault_stops : (line : Line) (at : List ℕ) (fault : ℕ)
    → IsFault line.ctrl line.packed (past_blanks at) fault → Stops line at
unfolding Stops
fault_stops line at fault here first token rest next =
    token_not_fault line.ctrl line.packed (past_blanks at) next.kind rest fault next.here here

leads_one : (line : Line) (first : Bool) (at : List ℕ) (a b : List Token) (end last : List ℕ)
    → Leads line first at a end
    → Leads line first at b last → Stops line end → Stops line last → (a ≡ b) × (end ≡ last)
unfolding Stops
leads_one line first at [] [] end last x y ends stops = (refl, sym x ∙ y)
leads_one line first at [] (token ∷ b) end last x (rest, begins, others) ends stops =
    absurd (ends first token rest (subst (λ bytes. IsNext line first bytes token rest) x begins))
leads_one line first at (token ∷ a) [] end last (rest, begins, others) y ends stops =
    absurd (stops first token rest (subst (λ bytes. IsNext line first bytes token rest) y begins))
leads_one line first at (token ∷ a) (other ∷ b) end last (rest, begins, others)
    (more, starts, further) ends stops =
    let same = next_one line first at token other rest more begins starts in
    let tail =
    leads_one line false rest a b end last others
    (subst (λ bytes. Leads line false bytes b last) (sym same.1) further) ends stops in
    (ap (λ token. token ∷ a) same.0 ∙ ap (λ tokens. other ∷ tokens) tail.0, tail.1)

-- a line has at most one list of tokens or one fault
line_one : (line : Line) (a b : List Token) → IsTokenised line a → IsTokenised line b → a ≡ b
line_one line a b x y =
    (leads_one line true line.bytes a b x.end y.end x.leads y.leads (blank_stops line x.end x.blank)
    (blank_stops line y.end y.blank)).0

line_not_fault : (line : Line) (a : List Token) (fault : ℕ) → IsTokenised line a
    → IsFaulty line fault → ⊥
line_not_fault line a fault x y =
    let same =
    leads_one line true line.bytes a y.tokens x.end y.end x.leads y.leads
    (blank_stops line x.end x.blank) (fault_stops line y.end fault y.here) in
    let some = fault_some line.ctrl line.packed (past_blanks y.end) fault y.here in
    let none = ap length (ap past_blanks (sym same.1) ∙ x.blank) in
    omega (arith, some, none)

line_fault_one : (line : Line) (a b : ℕ) → IsFaulty line a → IsFaulty line b → a ≡ b
line_fault_one line a b x y =
    let same =
    leads_one line true line.bytes x.tokens y.tokens x.end y.end x.leads y.leads
    (fault_stops line x.end a x.here) (fault_stops line y.end b y.here) in
    place_fault_one line.ctrl line.packed (past_blanks x.end) a b x.here
    (subst (λ bytes. IsFault line.ctrl line.packed (past_blanks bytes) b) (sym same.1) y.here)

-- and so have lines
tokens_one : (lines : List Line) (a b : List Token) → AreTokens lines a → AreTokens lines b → a ≡ b
tokens_one [] a b x y = x ∙ sym y
tokens_one (line ∷ lines) a b (here, more, a_is, first, others)
    (there, rest, b_is, second, further) =
    let same = line_one line here there first second in
    let tails = tokens_one lines more rest others further in
    a_is ∙ ap (λ tokens. tokens ++ more) same ∙ ap (λ tokens. there ++ tokens) tails ∙ sym b_is

faults_one : (lines : List Line) (a b : ℕ) (p q : Place) → IsFirstFault lines a p
    → IsFirstFault lines b q → (a ≡ b) × (p ≡ q)
faults_one [] a b p q x y = absurd x
faults_one (line ∷ lines) a b p q (inl (fault, place)) (inl (other, there)) =
    (line_fault_one line a b fault other, place ∙ sym there)
faults_one (line ∷ lines) a b p q (inl (fault, place)) (inr (here, tokens, later)) =
    absurd (line_not_fault line here a tokens fault)
faults_one (line ∷ lines) a b p q (inr (here, tokens, later)) (inl (fault, place)) =
    absurd (line_not_fault line here b tokens fault)
faults_one (line ∷ lines) a b p q (inr (here, tokens, later)) (inr (there, others, further)) =
    faults_one lines a b p q later further

never_both : (lines : List Line) (list : List Token) (fault : ℕ) (place : Place)
    → AreTokens lines list → IsFirstFault lines fault place → ⊥
never_both [] list fault place x y = y
never_both (line ∷ lines) list fault place (here, more, is, first, others) (inl (wrong, there)) =
    line_not_fault line here fault first wrong
never_both (line ∷ lines) list fault place (here, more, is, first, others)
    (inr (there, tokens, later)) =
    never_both lines more fault place others later

pub are_determined : (lines : List Line) → AreDetermined lines
are_determined lines =
    record { tokens = tokens_one lines; faults = faults_one lines; never_both = never_both lines }

pub only_tokens : (lines : List Line) (answer : Result Tokens LexFault) (list : List Token)
    → IsAnswer lines answer → AreTokens lines list
    → AnswersTokens list answer
only_tokens lines (Ok tokens) list is here = tokens_one lines tokens.list list is here
only_tokens lines (Err (lex.Source fault place)) list is here =
    never_both lines list fault place here is
only_tokens lines (Err lex.Memory) list is here = tt

pub only_fault : (lines : List Line) (answer : Result Tokens LexFault) (fault : ℕ) (place : Place)
    → IsAnswer lines answer → IsFirstFault lines fault place
    → AnswersFault fault place answer
only_fault lines (Ok tokens) fault place is here = never_both lines tokens.list fault place is here
only_fault lines (Err (lex.Source other there)) fault place is here =
    faults_one lines other fault there place is here
only_fault lines (Err lex.Memory) fault place is here = tt

-- whatever holds from a line on holds of all lines
pub record Onward (lines : List Line) (i : ℕ) (read : List Token) : Type 0 where
  pub tokens : (more : List Token) → AreTokens (drop i lines) more → AreTokens lines (read ++ more)
  pub fault : (fault : ℕ) (place : Place) → IsFirstFault (drop i lines) fault place
      → IsFirstFault lines fault place

pub onward_begins : (lines : List Line) (read : List Token) → read ≡ [] → Onward lines 0 read
onward_begins lines read none = record {
  tokens = λ more are. subst (AreTokens lines) (ap (λ tokens. tokens ++ more) (sym none)) are;
  fault = λ fault place is. is;
}

pub onward_goes : (lines : List Line) (i : ℕ) (line : Line) (old new : List Token)
    → i < length lines → get_or lines i line ≡ line → Onward lines i old
    → ((here : List Token) × (new ≡ old ++ here) × IsTokenised line here) → Onward lines (i + 1) new
onward_goes lines i line old new within is onward (here, new_is, tokenised) =
    let step : drop i lines ≡ line ∷ drop (suc i) lines =
    drop-cons lines i line within ∙ ap (λ line. line ∷ drop (suc i) lines) is in
    let next : drop (i + 1) lines ≡ drop (suc i) lines = ap (λ n. drop n lines) (add-one i) in
    record {
      tokens = λ more are.
          let later : AreTokens (drop (suc i) lines) more =
          subst (λ lines. AreTokens lines more) next are in
          let all : AreTokens (drop i lines) (here ++ more) =
          subst (λ lines. AreTokens lines (here ++ more)) (sym step)
          (here, more, refl, tokenised, later) in
          subst (AreTokens lines) (sym (append_assoc old here more)
          ∙ ap (λ tokens. tokens ++ more) (sym new_is)) (onward.tokens (here ++ more) all);
      fault = λ fault place later.
          let from_next : IsFirstFault (drop (suc i) lines) fault place =
          subst (λ lines. IsFirstFault lines fault place) next later in
          onward.fault fault place (subst (λ lines. IsFirstFault lines fault place) (sym step)
          (inr (here, tokenised, from_next)));
    }

pub onward_ends : (lines : List Line) (i : ℕ) (read : List Token) → length lines ≤ i
    → Onward lines i read → AreTokens lines read
onward_ends lines i read past onward =
    let none : drop i lines ≡ [] = drop_of_length-le lines past in
    subst (AreTokens lines) (append-nil read)
    (onward.tokens [] (subst (λ lines. AreTokens lines []) (sym none) refl))

pub onward_fails : (lines : List Line) (i : ℕ) (line : Line) (read : List Token) (fault : ℕ)
    → i < length lines → get_or lines i line ≡ line → Onward lines i read
    → IsFaulty line fault → IsFirstFault lines fault line.place
onward_fails lines i line read fault within is onward here =
    let step : drop i lines ≡ line ∷ drop (suc i) lines =
    drop-cons lines i line within ∙ ap (λ line. line ∷ drop (suc i) lines) is in
    onward.fault fault line.place (subst (λ lines. IsFirstFault lines fault line.place) (sym step)
    (inl (here, refl)))
