-- The parts of a text are those of its tokens.
use Rattle.std.proofs.Common.{◌≡◌, ◌<◌, ℕ, zero, suc, ◌-◌, Bool, true, false, Option, Some, None}
use Rattle.std.proofs.Common.{List, [], ◌∷◌, length, drop, cond, refl, sym, ap, subst, ◌∙◌, arith}
use Rattle.pawn_token.specs.declared.class.Class.TheVariants as class
use Rattle.pawn_token.specs.declared.kind.TokenKind.{TokenKind}
use Rattle.pawn_token.specs.Class.{is_in}
use Rattle.pawn_token.specs.Forms.{IsToken, IsFault}
use Rattle.pawn_token.specs.Kinds.{past_blanks, AreKinds}
use Rattle.pawn_token.specs.Plain.{Found, plain_at, IsAText, IsSeen}
use Rattle.pawn_token.proofs.ForCallers.{plain_seen, token_one, token_not_fault, token_shorter}
use Rattle.pawn_token.proofs.ForCallers.{token_rest, blank_skipped, blank_stays}
use Rattle.pawn_pre.specs.declared.part.Part.{Part}
use Rattle.pawn_pre.specs.ConditionParts.{part_of, step_with, step_by}
use Rattle.pawn_pre.specs.ConditionParts.{step_at, with_parts, step_then}
use Rattle.pawn_pre.specs.ConditionParts.{parts_from, part_then, parts_of}

-- a text is no part
text_part : (k : TokenKind) → IsAText k → part_of k ≡ None
text_part k (bytes, packed, e) = ap part_of e

-- bytes of a token behind the first
behind : (control b : ℕ) (rest : List ℕ) (k : TokenKind) (more : List ℕ)
    → IsToken control false (b ∷ rest) k more
    → drop ((suc (length rest) - length more) - 1) rest ≡ more
behind control b rest k more token =
    let shorter = token_shorter control false (b ∷ rest) k more token in
    let size : suc (length rest) - length more ≡ suc ((suc (length rest) - length more) - 1) =
    omega (arith, shorter) in
    ap (λ n. drop n (b ∷ rest)) (sym size) ∙ token_rest control false (b ∷ rest) k more token

-- the part that a token is, and how many bytes it takes
pub token_step : (control : ℕ) (at : List ℕ) (k : TokenKind) (more : List ℕ) → 0 < length at
    → IsToken control false at k more
    → step_at control at ≡ step_with (length at) more (part_of k)
token_step control at k more some token = by (plain_at control at) (plain_seen control at some)
  where
    by : (o : Option Found) → IsSeen control at o
        → step_by (length at) o ≡ step_with (length at) more (part_of k)
    by None seen = ap (step_with (length at) more) (sym (text_part k (seen k more token)))
    by (Some found) seen =
        let same = token_one control false at found.0 k found.1 more seen token in
        ap (λ kind. step_with (length at) found.1 (part_of kind)) same.0
        ∙ ap (λ end. step_with (length at) end (part_of k)) same.1

-- a fault is none
pub fault_step : (control : ℕ) (at : List ℕ) (fault : ℕ) → 0 < length at
    → IsFault control false at fault → step_at control at ≡ None
fault_step control at fault some wrong = by (plain_at control at) (plain_seen control at some)
  where
    by : (o : Option Found) → IsSeen control at o → step_by (length at) o ≡ None
    by None seen = refl
    by (Some found) seen =
        absurd (token_not_fault control false at found.0 found.1 fault seen wrong)

-- the parts where a token stands
at_token : (control b : ℕ) (rest : List ℕ) (k : TokenKind) (more : List ℕ)
    → is_in class.Blank b ≡ false → IsToken control false (b ∷ rest) k more
    → parts_from control 0 (b ∷ rest)
    ≡ part_then (part_of k) (parts_from control ((suc (length rest) - length more) - 1) rest)
unfolding parts_from
at_token control b rest k more black token =
    ap (λ t. cond t (parts_from control 0 rest)
    (step_then (step_at control (b ∷ rest)) (λ left. parts_from control left rest))) black
    ∙ ap (λ o. step_then o (λ left. parts_from control left rest))
    (token_step control (b ∷ rest) k more (omega arith) token)
    ∙ as_step (part_of k)
  where
    as_step : (o : Option Part) → step_then (step_with (suc (length rest)) more o)
        (λ left. parts_from control left rest)
        ≡ part_then o (parts_from control ((suc (length rest) - length more) - 1) rest)
    as_step None = refl
    as_step (Some p) = refl

drop_none : (left : ℕ) → drop left (let none : List ℕ = [] in none) ≡ []
drop_none zero = refl
drop_none (suc left) = refl

none_there : {A : Type 0} (control : ℕ) (kind : TokenKind) (rest : List ℕ)
    → IsToken control false (past_blanks []) kind rest → A
none_there control kind rest token =
    let shorter = token_shorter control false (past_blanks []) kind rest token in
    absurd (omega (arith, shorter))

-- what is told of the bytes behind the first
Told : ℕ → List ℕ → Type 0
Told control rest =
    (left : ℕ) (kinds : List TokenKind) → AreKinds control false (drop left rest) kinds
    → parts_from control left rest ≡ parts_of kinds

-- past a blank
blank_parts : (control b : ℕ) (rest : List ℕ) → is_in class.Blank b ≡ true
    → parts_from control 0 (b ∷ rest) ≡ parts_from control 0 rest
unfolding parts_from
blank_parts control b rest white =
    ap (λ t. cond t (parts_from control 0 rest)
    (step_then (step_at control (b ∷ rest)) (λ left. parts_from control left rest))) white

blank_kinds : (control b : ℕ) (rest : List ℕ) (kinds : List TokenKind) → is_in class.Blank b ≡ true
    → AreKinds control false (b ∷ rest) kinds
    → AreKinds control false rest kinds
blank_kinds control b rest [] white none = sym (blank_skipped b rest white) ∙ none
blank_kinds control b rest (k ∷ kinds) white (more, token, others) =
    (more, subst (λ at. IsToken control false at k more) (blank_skipped b rest white) token, others)

kinds_blank : (control b : ℕ) (rest : List ℕ) (kinds : List TokenKind) → is_in class.Blank b ≡ true
    → AreKinds control false rest kinds
    → AreKinds control false (b ∷ rest) kinds
kinds_blank control b rest [] white none = blank_skipped b rest white ∙ none
kinds_blank control b rest (k ∷ kinds) white (more, token, others) = (
  more,
  subst (λ at. IsToken control false at k more)
      (sym (blank_skipped b rest white)) token,
  others,
)

told_here : (control b : ℕ) (rest : List ℕ) → Told control rest → (t : Bool)
    → is_in class.Blank b ≡ t → (kinds : List TokenKind)
    → AreKinds control false (b ∷ rest) kinds → parts_from control 0 (b ∷ rest) ≡ parts_of kinds
unfolding Told parts_of
told_here control b rest later true white kinds are =
    blank_parts control b rest white ∙ later 0 kinds (blank_kinds control b rest kinds white are)
told_here control b rest later false black [] none =
    let some = ap length (sym (blank_stays b rest black) ∙ none) in absurd (omega (arith, some))
told_here control b rest later false black (k ∷ kinds) (more, token, others) =
    let here = subst (λ at. IsToken control false at k more) (blank_stays b rest black) token in
    let left = (suc (length rest) - length more) - 1 in
    let all =
    later left kinds (subst (λ at. AreKinds control false at kinds)
    (sym (behind control b rest k more here)) others) in
    at_token control b rest k more black here ∙ ap (λ ps. part_then (part_of k) ps) all

-- whatever tokens stand there, the parts are theirs
pub told : (control : ℕ) (bytes : List ℕ) (left : ℕ) (kinds : List TokenKind)
    → AreKinds control false (drop left bytes) kinds
    → parts_from control left bytes ≡ parts_of kinds
unfolding parts_from parts_of Told
told control [] left [] are = refl
told control [] left (k ∷ kinds) (rest, token, others) =
    none_there control k rest (subst (λ at. IsToken control false (past_blanks at) k rest)
    (drop_none left) token)
told control (b ∷ rest) (suc left) kinds are = told control rest left kinds are
told control (b ∷ rest) zero kinds are =
    told_here control b rest (λ left more there. told control rest left more there)
    (is_in class.Blank b) refl kinds are

-- tokens that stand at a place
Stand : ℕ → List ℕ → Type 0
Stand control at = (kinds : List TokenKind) × AreKinds control false at kinds

Found_there : ℕ → List ℕ → Type 0
Found_there control rest = (left : ℕ) (all : List Part) → parts_from control left rest ≡ Some all
    → Stand control (drop left rest)

never : {A : Type 0} (all : List Part)
    → (let none : Option (List Part) = None in none) ≡ Some all → A
never all h = absurd (no h)
  where
    no : (let none : Option (List Part) = None in none) ≡ Some all → ⊥
    no k = cc

stand_after : (control b : ℕ) (rest : List ℕ) (all : List Part) → Found_there control rest
    → (k : TokenKind) (more : List ℕ) → is_in class.Blank b ≡ false
    → IsToken control false (b ∷ rest) k more → (o : Option Part) (os : Option (List Part))
    → parts_from control ((suc (length rest) - length more) - 1) rest ≡ os
    → part_then o os ≡ Some all → Stand control (b ∷ rest)
unfolding Stand Found_there with_parts
stand_after control b rest all later k more black token None os f h = never all h
stand_after control b rest all later k more black token (Some p) None f h = never all h
stand_after control b rest all later k more black token (Some p) (Some qs) f h =
    let others = later ((suc (length rest) - length more) - 1) qs f in (
      k ∷ others.0,
      (
        more,
        subst (λ at. IsToken control false at k more) (sym (blank_stays b rest black)) token,
        subst (λ at. AreKinds control false at others.0)
            (behind control b rest k more token) others.1,
      ),
    )

stand_found : (control b : ℕ) (rest : List ℕ) (all : List Part) → Found_there control rest
    → parts_from control 0 (b ∷ rest) ≡ Some all
    → (o : Option Found) → plain_at control (b ∷ rest) ≡ o → is_in class.Blank b ≡ false
    → IsSeen control (b ∷ rest) o → Stand control (b ∷ rest)
unfolding parts_from
stand_found control b rest all later e None f black seen =
    never all (sym (ap (λ o. step_then (step_by (suc (length rest)) o)
    (λ left. parts_from control left rest)) f)
    ∙ sym (ap (λ t. cond t (parts_from control 0 rest)
    (step_then (step_at control (b ∷ rest)) (λ left. parts_from control left rest))) black) ∙ e)
stand_found control b rest all later e (Some found) f black seen =
    let same = at_token control b rest found.0 found.1 black seen in
    stand_after control b rest all later found.0 found.1 black seen (part_of found.0)
    (parts_from control ((suc (length rest) - length found.1) - 1) rest) refl (sym same ∙ e)

stand_here : (control b : ℕ) (rest : List ℕ) (all : List Part) → Found_there control rest
    → parts_from control 0 (b ∷ rest) ≡ Some all
    → (t : Bool) → is_in class.Blank b ≡ t → Stand control (b ∷ rest)
unfolding Stand Found_there
stand_here control b rest all later e true white =
    let others = later 0 all (sym (blank_parts control b rest white) ∙ e) in
    (others.0, kinds_blank control b rest others.0 white others.1)
stand_here control b rest all later e false black =
    stand_found control b rest all later e (plain_at control (b ∷ rest)) refl black
    (plain_seen control (b ∷ rest) (omega arith))

-- where there are parts, there are tokens
pub tokens_there : (control : ℕ) (bytes : List ℕ) (left : ℕ) (all : List Part)
    → parts_from control left bytes ≡ Some all
    → (kinds : List TokenKind) × AreKinds control false (drop left bytes) kinds
unfolding parts_from Stand Found_there
tokens_there control [] left all e = ([], ap past_blanks (drop_none left))
tokens_there control (b ∷ rest) (suc left) all e = tokens_there control rest left all e
tokens_there control (b ∷ rest) zero all e =
    stand_here control b rest all (λ left more there. tokens_there control rest left more there) e
    (is_in class.Blank b) refl
