-- Numbers added in parts, one behind another.
use Rattle.std.proofs.Common.{◌≡◌, ◌+◌, ◌<◌, ◌≤◌, ℕ, List, [], ◌∷◌, ◌++◌, length, drop, get_or}
use Rattle.std.proofs.Common.{refl, sym, ap, ◌∙◌}
use Rattle.std.specs.Prelude.{flat_map, Result, Ok, Err, OnOk}
use Rattle.std.proofs.lemmas.List.{append-nil, append_assoc, drop_all, drop_more}
use Rattle.pawn_base.specs.declared.memory.Memory.{Memory}
use Rattle.pawn_usage.specs.Adds.{Adds, AddsSoFar}

pub adds_none : (old : List ℕ) → Adds old old []
adds_none old = record { is = sym (append-nil old) }

pub adds_one : (old : List ℕ) (x : ℕ) → Adds old (old ++ x ∷ []) (x ∷ [])
adds_one old x = record { is = refl }

pub adds_two : (old mid new xs ys : List ℕ) → Adds old mid xs → Adds mid new ys
    → Adds old new (xs ++ ys)
adds_two old mid new xs ys h k =
    record { is = k.is ∙ ap (λ zs. zs ++ ys) h.is ∙ append_assoc old xs ys }

-- the same where the second part is the last call
pub adds_tail : (old mid new xs ys : List ℕ) (r : Result (Unit {0}) Memory) → Adds old mid xs
    → OnOk r (Adds mid new ys) → OnOk r (Adds old new (xs ++ ys))
adds_tail old mid new xs ys (Ok x) h k = adds_two old mid new xs ys h k
adds_tail old mid new xs ys (Err e) h k = k

pub ruleset adds = (adds_none, adds_two, adds_tail)

-- ---- part by part

module _ {H : Type 0} {numbers_in : H → List ℕ} {parts : List H} {old : List ℕ} where
  pub so_far_begins : AddsSoFar numbers_in parts old 0 old
  so_far_begins = record { same = refl }

  pub so_far_goes_on : {i : ℕ} {now next : List ℕ} (x : H) → AddsSoFar numbers_in parts old i now
      → i < length parts → x ≡ get_or parts i x
      → Adds now next (numbers_in x) → AddsSoFar numbers_in parts old (i + 1) next
  so_far_goes_on {i} {now} {next} x passed lt e h =
      let rest : List H = drop (i + 1) parts in
      record {
        same =
            ap (λ ys. ys ++ flat_map numbers_in rest) h.is
            ∙ append_assoc now (numbers_in x) (flat_map numbers_in rest)
            ∙ ap (λ y. now ++ flat_map numbers_in (y ∷ rest)) e
            ∙ ap (λ ys. now ++ flat_map numbers_in ys) (sym (drop_more parts i x lt))
            ∙ passed.same;
      }

  pub so_far_ends : {i : ℕ} {now : List ℕ} → AddsSoFar numbers_in parts old i now → length parts ≤ i
      → Adds old now (flat_map numbers_in parts)
  so_far_ends {i} {now} passed le =
      record {
        is = sym (append-nil now)
            ∙ ap (λ ys. now ++ flat_map numbers_in ys) (sym (drop_all i parts le))
            ∙ passed.same;
      }
