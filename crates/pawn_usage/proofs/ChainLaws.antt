-- Chains, read from either end.
use Rattle.std.proofs.Common.{◌≡◌, ◌+◌, ℕ, List, [], ◌∷◌, ◌++◌, refl, sym, ap, subst, ◌∙◌, arith}
use Rattle.std.specs.Prelude.{reverse}
use Rattle.std.proofs.lemmas.List.{reverse-append}
use Rattle.pawn_meaning.specs.Program.{Program}
use Rattle.pawn_usage.specs.Chains.{Calls, IsStart, Follows, IsChain, chain_need}

module _ (program : Program) where
  -- a chain with its last function first
  abbrev pub IsLive : List ℕ → Type 0
  IsLive [] = ⊥
  IsLive (f ∷ []) = IsStart program f
  IsLive (g ∷ f ∷ fs) = Calls program f g × IsLive (f ∷ fs)

  -- ---- one function more at the end, or one less

  follows_on : (f : ℕ) (gs : List ℕ) (last g : ℕ) → Follows program f (gs ++ last ∷ [])
      → Calls program last g → Follows program f ((gs ++ last ∷ []) ++ g ∷ [])
  follows_on f [] last g h call = (h.0, (call, tt))
  follows_on f (x ∷ xs) last g h call = (h.0, follows_on x xs last g h.1 call)

  pub chain_on : (fs : List ℕ) (last g : ℕ) → IsChain program (fs ++ last ∷ [])
      → Calls program last g → IsChain program ((fs ++ last ∷ []) ++ g ∷ [])
  chain_on [] last g h call = (h.0, (call, tt))
  chain_on (f ∷ fs) last g h call = (h.0, follows_on f fs last g h.1 call)

  follows_front : (f : ℕ) (gs : List ℕ) (last : ℕ) → Follows program f (gs ++ last ∷ [])
      → Follows program f gs
  follows_front f [] last h = tt
  follows_front f (x ∷ xs) last h = (h.0, follows_front x xs last h.1)

  pub chain_front : (f : ℕ) (fs : List ℕ) (last : ℕ) → IsChain program ((f ∷ fs) ++ last ∷ [])
      → IsChain program (f ∷ fs)
  chain_front f fs last h = (h.0, follows_front f fs last h.1)

  -- ---- the other way round

  turned : (x : ℕ) (xs : List ℕ) → reverse (x ∷ xs) ≡ reverse xs ++ x ∷ []
  turned x xs = reverse-append (x ∷ []) xs

  pub live_is_chain : (live : List ℕ) → IsLive live → IsChain program (reverse live)
  live_is_chain [] h = absurd h
  live_is_chain (f ∷ []) h = (h, tt)
  live_is_chain (g ∷ f ∷ fs) h =
      let before : IsChain program (reverse fs ++ f ∷ []) =
      subst (IsChain program) (turned f fs) (live_is_chain (f ∷ fs) h.1) in
      subst (IsChain program)
      (ap (λ xs. xs ++ g ∷ []) (sym (turned f fs)) ∙ sym (turned g (f ∷ fs)))
      (chain_on (reverse fs) f g before h.0)

  -- ---- needs

  pub need_append : (xs ys : List ℕ)
      → chain_need program (xs ++ ys) ≡ chain_need program xs + chain_need program ys
  need_append [] ys = omega arith
  need_append (x ∷ xs) ys = omega (arith, need_append xs ys)

  pub need_reverse : (xs : List ℕ) → chain_need program (reverse xs) ≡ chain_need program xs
  need_reverse [] = refl
  need_reverse (x ∷ xs) =
      ap (chain_need program) (turned x xs) ∙ need_append (reverse xs) (x ∷ [])
      ∙ omega (arith, need_reverse xs)
