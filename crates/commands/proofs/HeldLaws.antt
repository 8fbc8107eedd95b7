-- What a name holds once another one, or itself, was put.
use Rattle.std.proofs.Common.{◌≡◌, ◌≢◌, ◌∙◌, ℕ, List, cond, Some, refl, sym}
use Rattle.std.proofs.Common.{ap}
use Rattle.std.specs.Prelude.{bytes_eq}
use Rattle.std.specs.Cmp.Lexicographic.{texts_ties, bytes_decides}
use Rattle.std.specs.FinMap.{get, insert, get-insert}
use Rattle.std.proofs.lemmas.Bool.{false_from_ne_true}
use Rattle.std.proofs.lemmas.Cmp.{nat_list_cmp_total}
use Rattle.pawn_outside.specs.Held.{Held}

module _ (map : Held) (name bytes : List ℕ) where
  after_put : (other : List ℕ) → get (insert map name bytes) other
      ≡ cond (bytes_eq other name) (Some bytes) (get map other)
  after_put other =
      get-insert nat_list_cmp_total map name bytes other
      ∙ ap (λ b. cond b (Some bytes) (get map other)) (sym (texts_ties other name))

  pub put_there : get (insert map name bytes) name ≡ Some bytes
  put_there =
      after_put name
      ∙ ap (λ b. cond b (Some bytes) (get map name)) ((bytes_decides name name).1 refl)

  pub put_elsewhere : (other : List ℕ) → name ≢ other
      → get (insert map name bytes) other ≡ get map other
  put_elsewhere other ne =
      after_put other
      ∙ ap (λ b. cond b (Some bytes) (get map other))
      (false_from_ne_true (bytes_eq other name)
      (λ same. ne (sym ((bytes_decides other name).0 same))))
