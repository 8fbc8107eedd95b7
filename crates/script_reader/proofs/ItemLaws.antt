-- A loop over the items of an array.
use Rattle.std.proofs.Common.{◌≡◌, ◌≤◌, ◌<◌, ◌+◌, ℕ, suc, List, length, drop, get_or, refl, ap, ◌∙◌}
use Rattle.std.proofs.Common.{arith}
use Rattle.std.proofs.Math.Seq.{drop-cons}
use Rattle.std.proofs.Math.ListN.{drop_of_length-le}
use Rattle.serde_json.specs.Data.{Data}
use Rattle.serde_json.specs.Events.{items_len}
use Rattle.serde_json.specs.View.{view, items_view}
use Rattle.serde_json.proofs.Views.{items_len-items_view}
use Rattle.serde_json.specs.declared.value.Value.{Value}
use Rattle.script_reader.specs.declared.fault.ScriptFault.{ScriptFault}
use Rattle.script_reader.specs.Verdict.{Verdict, Stands, after, each, Fails}
use Rattle.script_reader.proofs.VerdictLaws.{fails_after, after_is}

pub items_len_is : (vs : List Value) → items_len (items_view vs) ≡ length vs
items_len_is vs = items_len-items_view vs

pub record Followed {A : Type 0} (step : A → Data → Verdict A) (begin : A) (vs : List Value) (i : ℕ)
    (done : A) : Type 0 where
  pub same : each step begin (items_view vs) ≡ each step done (items_view (drop i vs))

module _ {A : Type 0} (step : A → Data → Verdict A) (begin : A) (vs : List Value) (i : ℕ)
    (done : A) where
  at_item : (v : Value) → i < length vs → Followed step begin vs i done
      → each step begin (items_view vs)
      ≡ after (step done (view (get_or vs i v)))
      (λ next. each step next (items_view (drop (suc i) vs)))
  at_item v h p = p.same ∙ ap (λ rest. each step done (items_view rest)) (drop-cons vs i v h)

  pub items_more : (v : Value) (next : A) → Followed step begin vs i done → i < length vs
      → step done (view (get_or vs i v)) ≡ Stands next
      → Followed step begin vs (i + 1) next
  items_more v next p h e =
      let moved : suc i ≡ i + 1 = omega arith in
      record {
        same = at_item v h p ∙ after_is (step done (view (get_or vs i v)))
            (λ next. each step next (items_view (drop (suc i) vs))) next e
            ∙ ap (λ k. each step next (items_view (drop k vs))) moved;
      }

  pub items_fail : (v : Value) (fault : ScriptFault) → Followed step begin vs i done → i < length vs
      → Fails (step done (view (get_or vs i v))) fault
      → Fails (each step begin (items_view vs)) fault
  items_fail v fault p h f =
      rw (at_item v h p) (fails_after (step done (view (get_or vs i v)))
      (λ next. each step next (items_view (drop (suc i) vs))) fault f)

  pub items_all : Followed step begin vs i done → length vs ≤ i
      → each step begin (items_view vs) ≡ Stands done
  items_all p h = p.same ∙ ap (λ rest. each step done (items_view rest)) (drop_of_length-le vs h)

pub items_begin : {A : Type 0} (step : A → Data → Verdict A) (begin : A) (vs : List Value)
    → Followed step begin vs 0 begin
items_begin step begin vs = record { same = refl }

pub ruleset items = (items_begin, items_more, items_fail, items_all)
