-- A trace over bounds in front of others, and how many steps a segment does.
use Rattle.std.proofs.Common.{◌≡◌, ◌≤◌, ◌+◌, ◌∙◌, ◌++◌, ℕ, zero, suc, List, [], ◌∷◌, replicate}
use Rattle.std.proofs.Common.{refl, sym, ap, subst, append_assoc, add_assoc, zero-add, arith}
use Rattle.host_script.specs.declared.event.End.{End}
use Rattle.amx_ops.specs.Moves.{Config}
use Rattle.amx_ops.specs.Runs.{Moved, Goes, Sleeps, Ends, Segmented, Traced, Asleep, segment}
use Rattle.amx_ops.specs.Runs.{behind, joined}
use Rattle.amx_ops.proofs.RunLaws.{segment-zero, segment-goes, segment-sleeps, segment-ends}
use Rattle.host_run.specs.Going.{joined_behind}
use Rattle.host_run.proofs.JoinedLaws.{joined_asleep}

-- ---- moves before

abbrev with_steps : Traced Config End → ℕ → Traced Config End
with_steps t n = record { stop = t.stop; config = t.config; bound = t.bound; steps = n }

pub behind_none : (t : Traced Config End) → t ≡ behind 0 t
behind_none t = ap (with_steps t) (sym (zero-add t.steps))

behind_behind : (a b : ℕ) (t : Traced Config End) → behind a (behind b t) ≡ behind (a + b) t
behind_behind a b t = ap (with_steps t) (sym (add_assoc a b t.steps))

-- ---- bounds

pub replicate_more : (n x : ℕ) → replicate n x ++ x ∷ [] ≡ replicate (suc n) x
replicate_more zero x = refl
replicate_more (suc n) x = ap (λ xs. x ∷ xs) (replicate_more n x)

replicate_join : (a b x : ℕ) → replicate a x ++ x ∷ replicate b x ≡ replicate (suc (a + b)) x
replicate_join zero b x = ap (λ n. x ∷ replicate n x) (sym (zero-add b))
replicate_join (suc a) b x =
    let e : suc (a + b) ≡ suc a + b = omega arith in
    ap (λ xs. x ∷ xs) (replicate_join a b x ∙ ap (λ n. replicate n x) e)

module _ (go : Config → Moved Config End) where
  -- all bounds of a trace, of which some are in front
  pub whole_behind : (slept left sleeps x : ℕ) (c : Config) → slept + left ≡ sleeps
      → joined go x (replicate sleeps x) c
      ≡ joined_behind go (replicate slept x) x (replicate left x) c
  whole_behind zero left sleeps x c e =
      ap (λ n. joined go x (replicate n x) c) (sym e ∙ zero-add left)
  whole_behind (suc n) left sleeps x c e =
      let same : suc (n + left) ≡ sleeps = omega (arith, e) in
      ap (λ xs. joined go x xs c)
      (sym (replicate_join n left x ∙ ap (λ n. replicate n x) same))

  front_more : (front : List ℕ) (b next : ℕ) (bs : List ℕ) (c : Config)
      → joined_behind go (front ++ b ∷ []) next bs c ≡ joined_behind go front b (next ∷ bs) c
  front_more [] b next bs c = refl
  front_more (x ∷ xs) b next bs c =
      ap (λ ys. joined go x ys c) (append_assoc xs (b ∷ []) (next ∷ bs))

  -- one segment more in front, which fell asleep
  pub behind_more : (front : List ℕ) (b next : ℕ) (bs : List ℕ) (c d : Config) (done : ℕ)
      → ((bound : ℕ) (bounds : List ℕ)
      → joined_behind go front bound bounds c ≡ behind done (joined go bound bounds d))
      → (segment go b 0 d).stop ≡ Asleep
      → joined_behind go (front ++ b ∷ []) next bs c
      ≡ behind (done + (segment go b 0 d).steps) (joined go next bs (segment go b 0 d).config)
  behind_more front b next bs c d done leads is =
      front_more front b next bs c ∙ leads b (next ∷ bs)
      ∙ ap (behind done) (joined_asleep go b d next bs is)
      ∙ behind_behind done (segment go b 0 d).steps
      (joined go next bs (segment go b 0 d).config)

  -- ---- how many steps a segment does

  grows_by : (n k : ℕ) (c : Config) (m : Moved Config End) → go c ≡ m
      → ((d : Config) → k + 1 ≤ (segment go n (k + 1) d).steps)
      → k + 1 ≤ (segment go (suc n) k c).steps
  grows_by n k c (Goes d) e rest =
      subst (λ (s : Segmented Config End). k + 1 ≤ s.steps) (sym (segment-goes go n k c d e))
      (rest d)
  grows_by n k c (Sleeps d) e rest =
      subst (λ (s : Segmented Config End). k + 1 ≤ s.steps) (sym (segment-sleeps go n k c d e))
      (omega arith)
  grows_by n k c (Ends x d) e rest =
      subst (λ (s : Segmented Config End). k + 1 ≤ s.steps) (sym (segment-ends go n k c d x e))
      (omega arith)

  grows : (n k : ℕ) (c : Config) → k ≤ (segment go n k c).steps
  grows zero k c =
      subst (λ (s : Segmented Config End). k ≤ s.steps) (sym (segment-zero go k c)) (omega arith)
  grows (suc n) k c =
      let more = grows_by n k c (go c) refl (λ d. grows n (k + 1) d) in omega (arith, more)

  -- with a bound at least one
  pub some_steps : (n : ℕ) (c : Config) → 1 ≤ n → 1 ≤ (segment go n 0 c).steps
  some_steps zero c h = absurd (omega (arith, h))
  some_steps (suc n) c h =
      let more = grows_by n 0 c (go c) refl (λ d. grows n (0 + 1) d) in omega (arith, more)

  -- and without a bound none
  pub some_within : (n : ℕ) (c : Config) → 1 ≤ (segment go n 0 c).steps → 1 ≤ n
  some_within zero c h =
      absurd (omega (
        arith,
        subst (λ (s : Segmented Config End). 1 ≤ s.steps)
            (segment-zero go 0 c) h,
      ))
  some_within (suc n) c h = omega arith

pub some_bound : (done count : ℕ) {steps : ℕ} → (1 ≤ done → 1 ≤ steps) → (1 ≤ count → 1 ≤ steps)
    → 1 ≤ done + count → 1 ≤ steps
some_bound zero count before now h = now (omega (arith, h))
some_bound (suc done) count before now h = before (omega arith)
