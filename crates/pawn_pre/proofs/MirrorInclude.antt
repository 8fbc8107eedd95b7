-- Steps and turns at an include in a chosen part.
use Rattle.std.proofs.Common.{◌≡◌, ℕ, List, [], ◌∷◌, Bool, true, false, nat_lt, ltb, suc, cond}
use Rattle.std.proofs.Common.{Option, Some, None, length, refl, ap, arith, ◌∙◌}
use Rattle.std.proofs.lemmas.Bool.{ltb-false, ltb-true}
use Rattle.std.specs.FinMap.{get}
use Rattle.pawn_outside.specs.Held.{Held}
use Rattle.pawn_pre.specs.declared.include.Named.{Named}
use Rattle.pawn_pre.specs.File.{file_of}
use Rattle.pawn_pre.specs.Include.{include_name}
use Rattle.pawn_pre.specs.Inclusion as page
use Rattle.pawn_pre.specs.Marks.{Mark, Began, begun, kept, rules, settings, conditionals}
use Rattle.pawn_pre.specs.Level.{Level, opened}
use Rattle.pawn_pre.specs.OpenLines.{place}
use Rattle.pawn_pre.specs.Outcome.{is_long_file}
use Rattle.pawn_pre.specs.Turn.{Turn}
use Rattle.pawn_pre.specs.Evaluation.{Value}
use Rattle.pawn_pre.specs.Walk as walks
use Rattle.pawn_pre.specs.Walk.{Turned}
use Rattle.pawn_pre.proofs.Mirror.{Reads, Covers, Mirrors, all_chosen, shown, lines_open}
use Rattle.pawn_pre.proofs.Mirror.{lines_below}
use Rattle.pawn_pre.proofs.MirrorKept.{holds, in_chosen_part, reads_on}
use Rattle.pawn_pre.proofs.PageLaws.{started}

-- one test on both sides
both : (value : Value) (map : Held) (t : Bool) (a b : Turned) (c d : Turn) → Mirrors value map a c
    → Mirrors value map b d →
    Mirrors value map (cond t a b) (cond t c d)
both value map true a b c d h k = h
both value map false a b c d h k = k

covers_length : (lower : List (List Bool)) (below : List Level) → Covers lower below
    → length lower ≡ length below
unfolding Covers
covers_length [] [] h = refl
covers_length (outer ∷ lower) (file ∷ below) h =
    let ih : length lower ≡ length below = covers_length lower below h.1 in omega arith
covers_length [] (file ∷ below) h = absurd h
covers_length (outer ∷ lower) [] h = absurd h

same_test : (m n : ℕ) (t u : Bool) → ltb 16 m ≡ t → ltb 15 n ≡ u → m ≡ suc n → t ≡ u
same_test m n true true h k e = refl
same_test m n false false h k e = refl
same_test m n true false h k e =
    absurd (let a = ltb-true 16 m h in let b = ltb-false 15 n k in omega (arith, a, b, e))
same_test m n false true h k e =
    absurd (let a = ltb-false 16 m h in let b = ltb-true 15 n k in omega (arith, a, b, e))

module _ (value : Value) (map : Held) (marks : List Mark) (lower : List (List Bool)) (top : Level)
    (below : List Level) (covers : Covers lower below) (number : ℕ)
    (outer : List Bool) (opens : conditionals marks ≡ outer ∷ lower) where
  misses : (optional : Bool) →
      Mirrors value map (walks.walk_missing (shown marks Reads outer top below) number optional)
      (page.missing marks (place top.file number) optional (lines_open top below))
  misses true = reads_on value map marks lower top below covers number marks outer opens
  misses false = refl

  finds : (optional : Bool) (name : List ℕ) (held : Option (List ℕ)) →
      Mirrors value map
      (walks.walk_found (shown marks Reads outer top below) number optional name held)
      (page.found marks (place top.file number) optional name held (lines_open top below))
  unfolding begun kept rules settings conditionals all_chosen lines_below Covers
  finds optional name None = misses optional
  finds optional name (Some bytes) = both value map (is_long_file bytes) _ _ _ _ refl (record {
    marks = Began name ∷ marks;
    mode = Reads;
    outer = [];
    lower = outer ∷ lower;
    top = opened (length (begun marks)) (file_of bytes);
    below = (shown marks Reads outer top below).work.top ∷ below;
    shows = refl;
    opens = ap (λ files. [] ∷ files) opens;
    covers = (refl, covers);
    leads = λ o ends. started value map _ _ o ends;
  })

  asks : (optional : Bool) (n : Named) →
      Mirrors value map
      (walks.walk_include_asked map (shown marks Reads outer top below) number optional n)
      (page.include_asked map marks (place top.file number) optional n (lines_open top below))
  asks optional n =
      both value map n.valid _ _ _ _ (finds optional n.name (get map n.name)) (misses optional)

  deep : nat_lt 16 (length (conditionals marks)) ≡ nat_lt 15 (length below)
  deep =
      same_test (length (conditionals marks)) (length below) _ _ refl refl
      (ap length opens ∙ (let e = covers_length lower below covers in omega (arith, e)))

  includes_named : (optional : Bool) (n : Named) →
      Mirrors value map (walks.walk_include_named map
      (shown marks Reads outer top below) number optional n)
      (page.include_named map marks (place top.file number) optional n (lines_open top below))
  includes_named optional n = both value map (page.is_begun marks n.name) _ _ _ _
      (reads_on value map marks lower top below covers number marks outer opens)
      (rw deep (both value map (nat_lt 15 (length below)) _ _ _ _ refl (asks optional n)))

  pub includes : (optional : Bool) (bytes : List ℕ) →
      Mirrors value map (walks.walk_include map
      (shown marks Reads outer top below) number optional bytes)
      (page.include map marks (place top.file number) optional bytes (lines_open top below))
  unfolding walks.walk_include
  includes optional bytes =
      holds (λ t. Mirrors value map t
      (page.include map marks (place top.file number) optional bytes (lines_open top below))) _
      _ _
      (in_chosen_part outer) (includes_named optional (include_name bytes))
