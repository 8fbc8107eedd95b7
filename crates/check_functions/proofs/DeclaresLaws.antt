-- Names that are declared behind others.
use Rattle.std.proofs.Common.{◌≡◌, ℕ, List, [], ◌∷◌, ◌++◌, map, refl, sym, ap, ap₂, ◌∙◌}
use Rattle.std.proofs.Common.{append_assoc, Option, None, Some}
use Rattle.std.proofs.lemmas.List.{map-append}
use Rattle.types_rules.specs.Scope.{Entry}
use Rattle.types_rules.specs.Keys.{Key, Named, Operates, Enters, Misshapen}
use Rattle.types_rules.specs.Headings.{Heading, Role, IsNative, IsForward, IsBody}
use Rattle.types_rules.specs.Sources.{Source, forward_entry, function_entry, entry_by}
use Rattle.check_nodes.specs.MeaningView.{meaning_view}
use Rattle.check_nodes.specs.declared.meaning.Meaning.{Meaning}
use Rattle.check_nodes.specs.declared.scopes.Sight.TheVariants as sight
use Rattle.check_nodes.specs.Scopes.{Blocks, block_view, entry_view, with_name, scope_view}
use Rattle.check_nodes.specs.Scopes.{nothing_declared}
use Rattle.check_functions.specs.Declares.{Declares, forward_by, function_by, entering_by}

append_none : (xs : List Entry) → xs ≡ xs ++ []
append_none [] = refl
append_none (x ∷ xs) = ap (λ (r : List Entry). x ∷ r) (append_none xs)

pub declared : (old now : Blocks) (name : List ℕ) (means : Meaning)
    → now ≡ with_name name (sight.Means means) old
    → Declares old now (record { name = name; means = meaning_view means } ∷ [])
declared old now name means e = record {
  here =
      ap (λ (b : Blocks). block_view b.here) e
      ∙ map-append entry_view old.here ((name, sight.Means means) ∷ []);
  outer = ap (λ (b : Blocks). b.outer) e;
}

pub nothing_more : (old : Blocks) → Declares old old []
nothing_more old = record { here = append_none (block_view old.here); outer = refl }

pub forward_is : (source : Source) (it : Heading) (role : Role)
    → forward_by it role ≡ forward_entry source it role
forward_is source it IsNative = refl
forward_is source it IsForward = refl
forward_is source it IsBody = refl

pub function_is : (source : Source) (number tag : ℕ) (key : Key)
    → function_by number tag key ≡ function_entry source number tag key
function_is source number tag (Named name) = refl
function_is source number tag (Operates it) = refl
function_is source number tag (Enters name) = refl
function_is source number tag Misshapen = refl

-- names so far, and those that are to come
pub record DeclaresSoFar (old now : Blocks) (rest whole : List Entry) : Type 0 where
  pub here : block_view now.here ++ rest ≡ block_view old.here ++ whole
  pub outer : now.outer ≡ old.outer

pub so_far_begins : (old : Blocks) (whole : List Entry) → DeclaresSoFar old old whole whole
so_far_begins old whole = record { here = refl; outer = refl }

-- the next ones, by what a list with them comes to
pub so_far_more : (old now next : Blocks) (entries rest more whole : List Entry)
    → DeclaresSoFar old now rest whole → Declares now next entries
    → ((begin end : List Entry) → begin ++ rest ≡ block_view old.here ++ whole
    → end ≡ begin ++ entries → end ++ more ≡ block_view old.here ++ whole)
    → DeclaresSoFar old next more whole
so_far_more old now next entries rest more whole h d step = record {
  here = step (block_view now.here) (block_view next.here) h.here d.here;
  outer = d.outer ∙ h.outer;
}

pub so_far_ends : (old now : Blocks) (rest whole : List Entry) → DeclaresSoFar old now rest whole
    → rest ≡ [] → Declares old now whole
so_far_ends old now rest whole h e = record {
  here =
      append_none (block_view now.here) ∙ ap (λ (r : List Entry). block_view now.here ++ r) (sym e)
      ∙ h.here;
  outer = h.outer;
}

pub entry_is : (source : Source) (tag : Option ℕ) → entering_by tag ≡ entry_by source tag
entry_is source None = refl
entry_is source (Some tag) = refl

-- four lists of names, from the beginning
pub four : (a b c d e : Blocks) (x y z w : List Entry) → a ≡ nothing_declared → Declares a b x
    → Declares b c y → Declares c d z
    → Declares d e w → scope_view e ≡ (x ++ (y ++ (z ++ w))) ∷ []
four a b c d e x y z w n p q r s =
    let here : block_view e.here ≡ x ++ (y ++ (z ++ w)) =
    s.here ∙ ap (λ (l : List Entry). l ++ w)
    (r.here ∙ ap (λ (l : List Entry). l ++ z)
    (q.here ∙ ap (λ (l : List Entry). l ++ y)
    (p.here ∙ ap (λ (m : Blocks). block_view m.here ++ x) n)))
    ∙ append_assoc (x ++ y) z w ∙ append_assoc x y (z ++ w) in
    let outer : e.outer ≡ [] =
    s.outer ∙ r.outer ∙ q.outer ∙ p.outer ∙ ap (λ (m : Blocks). m.outer) n in
    ap₂ (λ (h : List Entry) o. h ∷ map block_view o) here outer
