-- A file's data: each object and each automaton of a program has one place in it.
use Rattle.std.proofs.Common.{◌≡◌, ◌+◌, ◌<◌, ◌≤◌, ℕ, zero, suc, List, [], ◌∷◌, ◌++◌, Some, length}
use Rattle.std.proofs.Common.{slice_get, refl, sym, ap, ◌∙◌, arith, append_assoc}
use Rattle.pawn_meaning.specs.Program.{StaticObject, Program}
use Rattle.pawn_meaning.specs.Memory.{Static, Temporary}
use Rattle.gen_sim.specs.Pieces.{Piece, Thing, Automaton, Each, total, extent, objects_from}
use Rattle.gen_sim.specs.Pieces.{automata_from, data_pieces, temporaries}
use Rattle.gen_sim.specs.Places.{Apart, StandsIn}
use Rattle.gen_sim.specs.View.{IsOf}
use Rattle.gen_sim.proofs.PieceLaws.{each_both, total-append}

-- ---- a piece in the first, or the second, of two rows

pub in_first : (p : Piece) (ps qs : List Piece) (first : ℕ) → StandsIn p ps first
    → Each (Apart p) qs → StandsIn p (ps ++ qs) first
in_first p ps qs first at h = record {
  before = at.before;
  after = at.after ++ qs;
  split = ap (λ l. l ++ qs) at.split ∙ append_assoc at.before (p ∷ at.after) qs;
  first_is = at.first_is;
  not_before = at.not_before;
  not_after = each_both (Apart p) at.after qs at.not_after h;
}

pub in_second : (p : Piece) (ps qs : List Piece) (first : ℕ) → StandsIn p qs first
    → Each (Apart p) ps → StandsIn p (ps ++ qs) (total ps + first)
in_second p ps qs first at h = record {
  before = ps ++ at.before;
  after = at.after;
  split = ap (λ l. ps ++ l) at.split ∙ sym (append_assoc ps at.before (p ∷ at.after));
  first_is = omega (arith, at.first_is, total-append ps at.before);
  not_before = each_both (Apart p) ps at.before h at.not_before;
  not_after = at.not_after;
}

-- ---- objects

other_objects : (o k : ℕ) (sizes : List ℕ) (xs : List StaticObject) → o < k
    → Each (Apart (Thing (Static o) sizes)) (objects_from k xs)
other_objects o k sizes [] h = tt
other_objects o k sizes (x ∷ xs) h =
    ((λ e. absurd (omega (arith, e, h))), other_objects o (k + 1) sizes xs (omega (arith, h)))

-- where an object begins among those from a number on
abbrev pub object_place : ℕ → List StaticObject → ℕ → ℕ
object_place k [] i = 0
object_place k (x ∷ xs) zero = 0
object_place k (x ∷ xs) (suc i) = extent (Thing (Static k) x.sizes) + object_place (k + 1) xs i

object_at_zero : (k o : ℕ) (y x : StaticObject) (xs : List StaticObject) → y ≡ x → o ≡ k
    → StandsIn (Thing (Static o) x.sizes) (objects_from k (y ∷ xs)) 0
object_at_zero k o y x xs same here = record {
  before = [];
  after = objects_from (k + 1) xs;
  split = rw (here, same) refl;
  first_is = refl;
  not_before = tt;
  not_after = other_objects o (k + 1) x.sizes xs (omega (arith, here));
}

pub object_stands : (k i o : ℕ) (xs : List StaticObject) (x : StaticObject)
    → slice_get xs i ≡ Some x → o ≡ k + i
    → StandsIn (Thing (Static o) x.sizes) (objects_from k xs) (object_place k xs i)
object_stands k i o [] x e n = cc
object_stands k zero o (y ∷ xs) x e n = object_at_zero k o y x xs (inside e) (omega (arith, n))
  where
    inside : Some y ≡ Some x → y ≡ x
    inside z = cc
object_stands k (suc i) o (y ∷ xs) x e n =
    let r = object_stands (k + 1) i o xs x e (omega (arith, n)) in
    record {
      before = Thing (Static k) y.sizes ∷ r.before;
      after = r.after;
      split = ap (λ l. Thing (Static k) y.sizes ∷ l) r.split;
      first_is = ap (λ m. extent (Thing (Static k) y.sizes) + m) r.first_is;
      not_before = ((λ z. absurd (omega (arith, z, n))), r.not_before);
      not_after = r.not_after;
    }

no_automaton_objects : (a k : ℕ) (xs : List StaticObject)
    → Each (Apart (Automaton a)) (objects_from k xs)
no_automaton_objects a k [] = tt
no_automaton_objects a k (x ∷ xs) = (tt, no_automaton_objects a (k + 1) xs)

-- ---- automata

other_automata : (a k n : ℕ) → a < k → Each (Apart (Automaton a)) (automata_from k n)
other_automata a k zero h = tt
other_automata a k (suc n) h =
    ((λ e. absurd (omega (arith, e, h))), other_automata a (k + 1) n (omega (arith, h)))

no_object_automata : (o k n : ℕ) (sizes : List ℕ)
    → Each (Apart (Thing (Static o) sizes)) (automata_from k n)
no_object_automata o k zero sizes = tt
no_object_automata o k (suc n) sizes = (tt, no_object_automata o (k + 1) n sizes)

pub automaton_stands : (k i a n : ℕ) → i < n → a ≡ k + i
    → StandsIn (Automaton a) (automata_from k n) i
automaton_stands k i a zero h e = absurd (omega (arith, h))
automaton_stands k zero a (suc n) h e =
    let here : a ≡ k = omega (arith, e) in
    record {
      before = [];
      after = automata_from (k + 1) n;
      split = rw here refl;
      first_is = refl;
      not_before = tt;
      not_after = other_automata a (k + 1) n (omega (arith, here));
    }
automaton_stands k (suc i) a (suc n) h e =
    let r = automaton_stands (k + 1) i a n (omega (arith, h)) (omega (arith, e)) in
    record {
      before = Automaton k ∷ r.before;
      after = r.after;
      split = ap (λ l. Automaton k ∷ l) r.split;
      first_is = omega (arith, r.first_is);
      not_before = ((λ z. absurd (omega (arith, z, e))), r.not_before);
      not_after = r.not_after;
    }

-- ---- temporary arguments

pub temporaries_count : (n : ℕ) → total (temporaries n) ≡ n
temporaries_count zero = refl
temporaries_count (suc n) =
    total-append (temporaries n) (Thing (Temporary n) (1 ∷ []) ∷ [])
    ∙ omega (arith, temporaries_count n)

no_object_temporaries : (o n : ℕ) (sizes : List ℕ)
    → Each (Apart (Thing (Static o) sizes)) (temporaries n)
no_object_temporaries o zero sizes = tt
no_object_temporaries o (suc n) sizes =
    each_both (Apart (Thing (Static o) sizes)) (temporaries n) (Thing (Temporary n) (1 ∷ []) ∷ [])
    (no_object_temporaries o n sizes) (tt, tt)

no_automaton_temporaries : (a n : ℕ) → Each (Apart (Automaton a)) (temporaries n)
no_automaton_temporaries a zero = tt
no_automaton_temporaries a (suc n) =
    each_both (Apart (Automaton a)) (temporaries n) (Thing (Temporary n) (1 ∷ []) ∷ [])
    (no_automaton_temporaries a n) (tt, tt)

-- ---- below HEA

module _ (program : Program) where
  -- where an object of a program begins
  abbrev pub object_first : ℕ → ℕ
  object_first o = object_place 0 program.objects o

  -- and an automaton's cell
  abbrev pub automaton_first : ℕ → ℕ
  automaton_first a = total (objects_from 0 program.objects) + a

  pub object_in_low : (o : ℕ) (x : StaticObject) (temps : ℕ) → slice_get program.objects o ≡ Some x
      → StandsIn (Thing (Static o) x.sizes) (data_pieces program ++ temporaries temps)
      (object_first o)
  object_in_low o x temps e =
      in_first (Thing (Static o) x.sizes) (data_pieces program) (temporaries temps) (object_first o)
      (in_first (Thing (Static o) x.sizes) (objects_from 0 program.objects)
      (automata_from 0 (length program.automata)) (object_first o)
      (object_stands 0 o o program.objects x e (omega arith))
      (no_object_automata o 0 (length program.automata) x.sizes))
      (no_object_temporaries o temps x.sizes)

  pub automaton_in_low : (a : ℕ) (temps : ℕ) → a < length program.automata
      → StandsIn (Automaton a) (data_pieces program ++ temporaries temps) (automaton_first a)
  automaton_in_low a temps h =
      in_first (Automaton a) (data_pieces program) (temporaries temps) (automaton_first a)
      (in_second (Automaton a) (objects_from 0 program.objects)
      (automata_from 0 (length program.automata)) a
      (automaton_stands 0 a a (length program.automata) h (omega arith))
      (no_automaton_objects a 0 program.objects))
      (no_automaton_temporaries a temps)

  -- whatever stands there is an object of the program, an automaton, or a temporary argument that
  -- is alive
  of_objects : (k calls temps : ℕ) (xs : List StaticObject)
      → Each (IsOf calls temps) (objects_from k xs)
  of_objects k calls temps [] = tt
  of_objects k calls temps (x ∷ xs) = (tt, of_objects (k + 1) calls temps xs)

  of_automata : (k n calls temps : ℕ) → Each (IsOf calls temps) (automata_from k n)
  of_automata k zero calls temps = tt
  of_automata k (suc n) calls temps = (tt, of_automata (k + 1) n calls temps)

  pub of_temporaries : (n calls temps : ℕ) → n ≤ temps → Each (IsOf calls temps) (temporaries n)
  of_temporaries zero calls temps h = tt
  of_temporaries (suc n) calls temps h =
      each_both (IsOf calls temps) (temporaries n) (Thing (Temporary n) (1 ∷ []) ∷ [])
      (of_temporaries n calls temps (omega (arith, h))) (omega (arith, h), tt)

  pub of_low : (calls temps : ℕ)
      → Each (IsOf calls temps) (data_pieces program ++ temporaries temps)
  of_low calls temps =
      each_both (IsOf calls temps) (data_pieces program) (temporaries temps)
      (each_both (IsOf calls temps) (objects_from 0 program.objects)
      (automata_from 0 (length program.automata))
      (of_objects 0 calls temps program.objects)
      (of_automata 0 (length program.automata) calls temps))
      (of_temporaries temps calls temps (omega arith))
