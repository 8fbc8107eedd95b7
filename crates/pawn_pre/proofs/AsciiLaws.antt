-- A name of bytes below 128, with its ending.
use Rattle.std.proofs.Common.{◌≡◌, ℕ, ◌++◌, ◌&&◌, ◌==◌, not, zero, suc, List, [], ◌∷◌, Bool, true}
use Rattle.std.proofs.Common.{false, cond, ltb, codes, refl, arith}
use Rattle.std.specs.Bool.{IsTrue}
use Rattle.std.specs.List.{list_any}
use Rattle.std.specs.Str.{IsAscii}
use Rattle.std.proofs.lemmas.Bool.{ltb-true}
use Rattle.pawn_pre.specs.Include.{is_ascii, named, is_empty}

both_true : (a b : Bool) → (a && b) ≡ true → (a ≡ true) × (b ≡ true)
both_true true b h = (refl, h)
both_true false b h = absurd (never h)
  where
    never : false ≡ true → ⊥
    never k = cc

each : (bs : List ℕ) → is_ascii bs ≡ true → IsAscii bs
each [] h i = omega arith
each (b ∷ bs) h zero = ltb-true b 128 (both_true _ _ h).0
each (b ∷ bs) h (suc i) = each bs (both_true _ _ h).1 i

joined : (bs cs : List ℕ) → is_ascii bs ≡ true → is_ascii cs ≡ true → is_ascii (bs ++ cs) ≡ true
joined [] cs h k = k
joined (b ∷ bs) cs h k =
    let p = both_true (ltb b 128) (is_ascii bs) h in rw p.0 (joined bs cs p.1 k)

ended : (t : Bool) (bs : List ℕ) → is_ascii bs ≡ true → IsAscii (cond t bs (bs ++ codes ".inc"))
ended true bs h = each bs h
ended false bs h = each (bs ++ codes ".inc") (joined bs (codes ".inc") h refl)

pub named_ascii : (closed : Bool) (bs : List ℕ) → IsTrue (named closed bs).valid
    → IsAscii (named closed bs).name
named_ascii closed bs h =
    ended (list_any (λ b. b == 46) bs) bs
    (both_true (not (is_empty bs)) (is_ascii bs) (both_true closed _ h).1).1
