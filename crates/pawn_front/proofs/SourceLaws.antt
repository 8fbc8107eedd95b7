-- A source has one program at most, and isn't refused where it has one.
use Rattle.std.proofs.Common.{◌≡◌, ◌⊎◌, ◌∙◌, ◌<◌, inl, inr, ℕ, ℤ, List, [], Some, Contains, map}
use Rattle.std.proofs.Common.{refl, sym, ap, subst, arith}
use Rattle.pawn_cells.specs.declared.place.Place.{Place}
use Rattle.pawn_outside.specs.Held.{Held}
use Rattle.pawn_pre.specs.declared.line.Lines.{Lines}
use Rattle.pawn_pre.specs.Outcome.{Outcome, Whole, Fault, Long, NotHeld}
use Rattle.pawn_pre.proofs.PageLaws.{only_outcome}
use Rattle.pawn_lex.specs.declared.token.Token.{Token}
use Rattle.pawn_lex.proofs.LineLaws.{are_determined}
use Rattle.pawn_tree.specs.Declarations.{Tree}
use Rattle.tree_rules.specs.Spells.{IsParse}
use Rattle.tree_rules.proofs.Trees.{one_tree}
use Rattle.pawn_meaning.specs.Program.{Program}
use Rattle.names_rules.specs.Verdict as verdict
use Rattle.names_rules.specs.Verdict.{Verdict, faults_of}
use Rattle.types_rules.specs.TypedTrees.{Checked}
use Rattle.types_rules.specs.IsTyped.{IsTyped, IsFault}
use Rattle.pawn_front.specs.declared.compiled.Warning.{Warning}
use Rattle.pawn_front.specs.declared.fault.CompileFault.{CompileFault}
use Rattle.pawn_front.specs.declared.fault.CompileFault.TheVariants.{Refused, NoSource, TooLarge}
use Rattle.pawn_front.specs.declared.fault.CompileFault.TheVariants.{Files, Memory}
use Rattle.pawn_front.specs.Faults.{BreaksTree, too_deep, no_tree, BreaksTokens, by_tokens, by_tree}
use Rattle.pawn_front.specs.Faults.{Breaks, by_bytes, behind_bytes, IsRefused, by_lines}
use Rattle.pawn_front.specs.Faults.{behind_lines, NotCompiled}
use Rattle.pawn_front.specs.Means.{ComesTo, IsProgramOfTokens, IsProgramOf, HasProgram, Means}
use Rattle.pawn_front.specs.OneProgram.{ASourceHasOneProgram, WhatMeansIsNotRefused}
use Rattle.pawn_front.specs.Places.{warning_at}

-- ---- one layer each

one_outcome : (held : Held) (name : List ℕ) (a b : Outcome) → ComesTo (Some held) name a
    → ComesTo (Some held) name b → a ≡ b
one_outcome held name a b x y = only_outcome held name a b (x held refl) (y held refl)

one_lines : (held : Held) (name : List ℕ) (a b : Lines) → ComesTo (Some held) name (Whole a)
    → ComesTo (Some held) name (Whole b) → a ≡ b
one_lines held name a b x y = cc (one_outcome held name (Whole a) (Whole b) x y)

one_typed : (tree : Tree) (dynamic : ℤ) (p q : Program) (v w : List Place)
    → IsTyped tree dynamic p v → IsTyped tree dynamic q w
    → (p ≡ q) × (v ≡ w)
one_typed tree dynamic p q v w a b =
    let one : Checked = record { program = p; warnings = v } in
    let other : Checked = record { program = q; warnings = w } in
    let e : verdict.Stands one ≡ verdict.Stands other = sym a ∙ b in
    let same : one ≡ other = cc e in
    (ap (λ (c : Checked). c.program) same, ap (λ (c : Checked). c.warnings) same)

none_in : (fault : verdict.Fault) → Contains [] fault → ⊥
none_in fault x = let below : x.0 < 0 = x.1 in omega (arith, below)

no_fault : (tree : Tree) (dynamic : ℤ) (p : Program) (v : List Place) (fault : verdict.Fault)
    → IsTyped tree dynamic p v
    → IsFault tree dynamic fault → ⊥
no_fault tree dynamic p v fault a b =
    none_in fault (subst (λ (w : Verdict Checked). Contains (faults_of w) fault) a b)

-- ---- one program

module _ (p q : Program) (v w : List Place) where
  of_tokens : (ts : List Token) (dynamic : ℤ) → IsProgramOfTokens ts dynamic p v
      → IsProgramOfTokens ts dynamic q w → (p ≡ q) × (v ≡ w)
  of_tokens ts dynamic x y =
      let e : y.tree ≡ x.tree = one_tree ts y.tree x.tree y.is_tree.spells x.is_tree.spells in
      let P : Tree → Type 0 = λ t. IsTyped t dynamic q w in
      one_typed x.tree dynamic p q v w x.is_typed (subst P e y.is_typed)

  of_lines : (lines : Lines) → IsProgramOf lines p v → IsProgramOf lines q w → (p ≡ q) × (v ≡ w)
  of_lines lines x y =
      let e : y.tokens ≡ x.tokens =
      (are_determined lines.lines).tokens y.tokens x.tokens y.are_tokens x.are_tokens in
      let P : List Token → Type 0 = λ ts. IsProgramOfTokens ts lines.dynamic q w in
      of_tokens x.tokens lines.dynamic x.typed (subst P e y.typed)

has_one : (lines : Lines) (p q : Program) (a b : List Warning) → HasProgram lines p a
    → HasProgram lines q b → (p ≡ q) × (a ≡ b)
has_one lines p q a b x y =
    let both = of_lines p q x.places y.places lines x.is y.is in (
      both.0,
      x.warnings_are ∙ ap (λ (places : List Place). map (warning_at lines.files) places)
          both.1 ∙ sym y.warnings_are,
    )

pub a_source_has_one_program : ASourceHasOneProgram
a_source_has_one_program held name p q a b x y =
    let e : y.lines ≡ x.lines = one_lines held name y.lines x.lines y.comes x.comes in
    let P : Lines → Type 0 = λ lines. HasProgram lines q b in
    has_one x.lines p q a b x.has (subst P e y.has)

-- ---- no fault beside it

module _ (kind : ℕ) (place : Place) where
  tree_breaks : (ts : List Token) (tree : Tree) → IsParse ts tree → BreaksTree ts kind place → ⊥
  tree_breaks ts tree it (too_deep n deep e f) =
      let low = it.shallow n deep.inside in
      omega (arith, low, deep.deep)
  tree_breaks ts tree it (no_tree n none below e f) = none.none tree it.spells it.low

  tokens_break : (ts : List Token) (dynamic : ℤ) (p : Program) (v : List Place)
      → IsProgramOfTokens ts dynamic p v
      → BreaksTokens ts dynamic kind place → ⊥
  tokens_break ts dynamic p v it (by_tokens breaks) = tree_breaks ts it.tree it.is_tree breaks
  tokens_break ts dynamic p v it (by_tree tree parse fault) =
      let e : tree ≡ it.tree = one_tree ts tree it.tree parse.spells it.is_tree.spells in
      let P : Tree → Type 0 = λ t. IsFault t dynamic (record { kind = kind; place = place }) in
      no_fault it.tree dynamic p v (record { kind = kind; place = place }) it.is_typed
      (subst P e fault)

  lines_break : (lines : Lines) (p : Program) (v : List Place) → IsProgramOf lines p v
      → Breaks lines kind place → ⊥
  lines_break lines p v it (by_bytes first) =
      (are_determined lines.lines).never_both it.tokens kind place it.are_tokens first
  lines_break lines p v it (behind_bytes ts are breaks) =
      let e : ts ≡ it.tokens = (are_determined lines.lines).tokens ts it.tokens are it.are_tokens in
      let P : List Token → Type 0 = λ t. BreaksTokens t lines.dynamic kind place in
      tokens_break it.tokens lines.dynamic p v it.typed (subst P e breaks)

module _ (held : Held) (name : List ℕ) (p : Program) (a : List Warning)
    (it : Means (Some held) name p a) where
  refused : (kind : ℕ) (file : List ℕ) (line : ℕ) → IsRefused (Some held) name kind file line → ⊥
  refused kind file line (by_lines place comes e) =
      absurd (cc (one_outcome held name (Whole it.lines) (Fault kind place file) it.comes comes))
  refused kind file line (behind_lines lines place comes breaks e f) =
      let same : lines ≡ it.lines = one_lines held name lines it.lines comes it.comes in
      let P : Lines → Type 0 = λ l. Breaks l kind place in
      lines_break kind place it.lines p it.has.places it.has.is (subst P same breaks)

  free : (fault : CompileFault) → NotCompiled (Some held) name fault
      → (fault ≡ Files) ⊎ (fault ≡ Memory)
  free (Refused kind file line) cause = absurd (refused kind file line cause)
  free NoSource cause = absurd (cc (one_outcome held name (Whole it.lines) NotHeld it.comes cause))
  free (TooLarge file) cause =
      absurd (cc (one_outcome held name (Whole it.lines) (Long file) it.comes cause))
  free Files cause = inl refl
  free Memory cause = inr refl

pub what_means_is_not_refused : WhatMeansIsNotRefused
what_means_is_not_refused held name p a fault it cause = free held name p a it fault cause
