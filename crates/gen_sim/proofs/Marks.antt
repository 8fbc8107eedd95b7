-- The marks of a meaning: its entries, and its outcome behind them.
use Rattle.std.proofs.Common.{◌≡◌, ◌≤◌, ℕ, zero, suc, List, [], ◌∷◌, ◌++◌, Some, false, map, length}
use Rattle.std.proofs.Common.{slice_get, refl, ap, arith}
use Rattle.pawn_meaning.specs.World.{Entry}
use Rattle.pawn_meaning.specs.Extends.{Rises}
use Rattle.gen_agrees.specs.AgreesOn.{Mark}

abbrev pub mark_of : Entry → Mark
mark_of entry = record { turns = entry.turns; peak = entry.peak; is_cut = false }

abbrev pub marked : List Entry → Mark → List Mark
marked entries last = map mark_of entries ++ last ∷ []

-- behind the entries stands the outcome alone
pub mark_last : (es : List Entry) (last : Mark) (n : ℕ) (mark : Mark)
    → slice_get (marked es last) n ≡ Some mark → length es ≤ n → mark ≡ last
mark_last [] last zero mark e h = cc
mark_last [] last (suc n) mark e h = cc
mark_last (x ∷ es) last zero mark e h = absurd (omega (arith, h))
mark_last (x ∷ es) last (suc n) mark e h = mark_last es last n mark e (omega (arith, h))

-- a mark behind some entries has at least their turns
new_above : (new : List Entry) (t p : ℕ) (last : Mark) (n : ℕ) (mark : Mark)
    → Rises t p new last.turns last.peak
    → slice_get (marked new last) n ≡ Some mark → t ≤ mark.turns
new_above [] t p last zero mark r e =
    let same : last ≡ mark = cc in omega (arith, r.0, ap (λ (m : Mark). m.turns) same)
new_above [] t p last (suc n) mark r e = absurd (let no : ⊥ = cc in no)
new_above (x ∷ new) t p last zero mark r e =
    let same : mark_of x ≡ mark = cc in omega (arith, r.0, ap (λ (m : Mark). m.turns) same)
new_above (x ∷ new) t p last (suc n) mark r e =
    omega (arith, r.0, new_above new x.turns x.peak last n mark r.2 e)

pub mark_above : (old new : List Entry) (t p : ℕ) (last : Mark) (n : ℕ) (mark : Mark)
    → Rises t p new last.turns last.peak
    → slice_get (marked (old ++ new) last) n ≡ Some mark → length old ≤ n → t ≤ mark.turns
mark_above [] new t p last n mark r e h = new_above new t p last n mark r e
mark_above (x ∷ old) new t p last zero mark r e h = absurd (omega (arith, h))
mark_above (x ∷ old) new t p last (suc n) mark r e h =
    mark_above old new t p last n mark r e (omega (arith, h))

-- the mark right behind some entries, whose peak is at least theirs
pub record NextMark (old new : List Entry) (p : ℕ) (last : Mark) : Type 0 where
  pub mark : Mark
  pub next : slice_get (marked (old ++ new) last) (length old) ≡ Some mark
  pub peak : p ≤ mark.peak

pub next_mark : (old new : List Entry) (t p : ℕ) (last : Mark)
    → Rises t p new last.turns last.peak → NextMark old new p last
next_mark [] [] t p last r = record { mark = last; next = refl; peak = r.1 }
next_mark [] (x ∷ new) t p last r = record { mark = mark_of x; next = refl; peak = r.1 }
next_mark (x ∷ old) new t p last r =
    let m = next_mark old new t p last r in record { mark = m.mark; next = m.next; peak = m.peak }
