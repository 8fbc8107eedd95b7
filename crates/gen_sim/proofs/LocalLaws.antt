-- A local that is in force stands once among the locals below FRM, so many cells down.
use Rattle.std.proofs.Common.{◌≡◌, ◌+◌, ◌==◌, ◌⊎◌, inl, inr, ℕ, List, [], ◌∷◌, ◌++◌, Bool, true}
use Rattle.std.proofs.Common.{false, slice_get, refl, sym, ap, subst, ◌∙◌, arith, append_assoc}
use Rattle.std.proofs.Common.{if◌then◌else◌}
use Rattle.std.proofs.lemmas.Bool.{eqb-true, eqb-false}
use Rattle.std.specs.Prelude.{Any}
use Rattle.pawn_meaning.specs.Program.{Slot}
use Rattle.pawn_meaning.specs.Memory.{Name, Local}
use Rattle.gen_sim.specs.Pieces.{Piece, Fixed, Thing, Automaton, Each, total}
use Rattle.gen_sim.specs.Places.{Apart, StandsIn}
use Rattle.gen_sim.proofs.PieceLaws.{each_both, each_gives, total-append}
use Rattle.gen_sim.specs.Fits.{own_sizes, locals_of, AreOnce}
use Rattle.gen_sim.proofs.LocalScopes.{any_here, any_there, any_cases}
use Rattle.gen_sim.specs.PlaceItems.{cells_by, cells_to}

-- ---- locals

apart_any : (name : Name) (a b : List ℕ) (q : Piece) → Apart (Thing name a) q
    → Apart (Thing name b) q
apart_any name a b (Fixed cells) h = tt
apart_any name a b (Thing other inner) h = h
apart_any name a b (Automaton n) h = tt

others_apart : (k s : ℕ) (slots : List Slot) (made : List ℕ) → ¬ (Any (λ m. m ≡ s) made)
    → Each (Apart (Thing (Local k s) [])) (locals_of k slots made)
others_apart k s slots [] h = tt
others_apart k s slots (m ∷ made) h =
    each_both (Apart (Thing (Local k s) [])) (locals_of k slots made)
    (Thing (Local k m) (own_sizes (slice_get slots m)) ∷ [])
    (others_apart k s slots made (λ a. h (any_there (λ n. n ≡ s) m made a)))
    (inr (λ e. h (any_here (λ n. n ≡ s) m made (sym e))), tt)

pub record LocalAt (k : ℕ) (slots : List Slot) (made : List ℕ) (rest : List Piece)
    (s : ℕ) : Type 0 where
  pub behind : ℕ
  pub stands : StandsIn (Thing (Local k s) (own_sizes (slice_get slots s)))
      (locals_of k slots made ++ rest) behind
  pub down : behind + cells_to slots made s ≡ total (locals_of k slots made)

module _ (k : ℕ) (slots : List Slot) (s : ℕ) where
  abbrev mine : Piece
  mine = Thing (Local k s) (own_sizes (slice_get slots s))

  abbrev other : ℕ → Piece
  other m = Thing (Local k m) (own_sizes (slice_get slots m))

  all_mine : (ps : List Piece) → Each (Apart (Thing (Local k s) [])) ps → Each (Apart mine) ps
  all_mine ps h =
      each_gives (Apart (Thing (Local k s) [])) (Apart mine) ps
      (λ q a. apart_any (Local k s) [] (own_sizes (slice_get slots s)) q a) h

  newest_at : (made : List ℕ) (rest : List Piece) → ¬ (Any (λ n. n ≡ s) made)
      → Each (Apart (Thing (Local k s) [])) rest → (m : ℕ) → m ≡ s
      → (m == s) ≡ true → LocalAt k slots (m ∷ made) rest s
  newest_at made rest once apart m same e =
      let split : (locals_of k slots made ++ other m ∷ []) ++ rest
      ≡ locals_of k slots made ++ mine ∷ rest =
      append_assoc (locals_of k slots made) (other m ∷ []) rest
      ∙ ap (λ n. locals_of k slots made ++ other n ∷ rest) same in
      let size : cells_by (own_sizes (slice_get slots m))
      ≡ cells_by (own_sizes (slice_get slots m))
      + (if m == s then 0 else cells_to slots made s) =
      rw e (omega arith) in
      record {
        behind = total (locals_of k slots made);
        stands = record {
          before = locals_of k slots made;
          after = rest;
          split = split;
          first_is = refl;
          not_before = all_mine (locals_of k slots made) (others_apart k s slots made once);
          not_after = all_mine rest apart;
        };
        down = omega (arith, total-append (locals_of k slots made) (other m ∷ []), size);
      }

  older_at : (made : List ℕ) (rest : List Piece) (m : ℕ) → (m == s) ≡ false
      → LocalAt k slots made (other m ∷ rest) s → LocalAt k slots (m ∷ made) rest s
  older_at made rest m e r =
      let same : locals_of k slots made ++ other m ∷ rest
      ≡ (locals_of k slots made ++ other m ∷ []) ++ rest =
      sym (append_assoc (locals_of k slots made) (other m ∷ []) rest) in
      let size : cells_by (own_sizes (slice_get slots m)) + cells_to slots made s
      ≡ cells_by (own_sizes (slice_get slots m)) + (if m == s then 0 else cells_to slots made s) =
      rw e refl in
      record {
        behind = r.behind;
        stands = subst (λ ps. StandsIn mine ps r.behind) same r.stands;
        down = omega (arith, r.down, total-append (locals_of k slots made) (other m ∷ []), size);
      }

  later_at : (made : List ℕ) (rest : List Piece) (m : ℕ) → Any (λ n. n ≡ s) (m ∷ made)
      → AreOnce (m ∷ made) → Each (Apart (Thing (Local k s) [])) rest
      → (Any (λ n. n ≡ s) made → Each (Apart (Thing (Local k s) [])) (other m ∷ rest)
      → LocalAt k slots made (other m ∷ rest) s)
      → (b : Bool) → (m == s) ≡ b → LocalAt k slots (m ∷ made) rest s
  later_at made rest m is once apart further true e =
      let same = eqb-true m s e in
      newest_at made rest (subst (λ n. ¬ (Any (λ i. i ≡ n) made)) same once.0) apart m same e
  later_at made rest m is once apart further false e =
      older_at made rest m e (further (behind (any_cases (λ n. n ≡ s) m made is))
      (inr (λ n. eqb-false m s e (sym n)), apart))
    where
      behind : (m ≡ s) ⊎ Any (λ n. n ≡ s) made → Any (λ n. n ≡ s) made
      behind (inl same) = absurd (eqb-false m s e same)
      behind (inr h) = h

  pub local_stands : (made : List ℕ) (rest : List Piece) → Any (λ m. m ≡ s) made → AreOnce made
      → Each (Apart (Thing (Local k s) [])) rest
      → LocalAt k slots made rest s
  local_stands [] rest is once apart = absurd (omega (arith, is.2))
  local_stands (m ∷ made) rest is once apart =
      later_at made rest m is once apart (λ a b. local_stands made (other m ∷ rest) a once.1 b)
      (m == s) refl
