-- How a `List` stores its elements, so that a type may lead back to itself through one: the struct
-- has a single field, a `Vec`, and its view is that `Vec`'s list.
use mathlib.Core.Path.{◌≡◌, refl, sym}
use mathlib.Core.List.{List, []}
use mathlib.Core.Former.{Former, this, list, via, children}
use base.Stored.{code_map}
use denote.RattleType.{RattleType}
use denote.HoleLaws.{Alike}
use denote.HolePlaces.{Recodes, struct_places, laid}
use denote.Hole.Carrier.{listed, list-listed}
use denote.Hole.Fix.{over}
use denote.Param.Weighed.{Weighed, w_list}
use denote.Model.Placed.{view_places}
use Rattle.std.specs.formers.vec.Vec as vec
use Rattle.std.specs.declared.alloc.Global.{Global}
use Rattle.std.specs.contracts.alloc.Global as global
use Rattle.std.specs.contracts.impls.GlobalAllocator.TheImpl.{ghosts}
use Rattle.pawn_base.specs.declared.list.List.TheInside.{Inside}
use Rattle.pawn_base.specs.declared.list.List.TheView.{view, invariant}
use Rattle.pawn_base.specs.contracts.list.List as contract
use Rattle.pawn_base.specs.contracts.list.List.TheInside as inside

-- a `List` holds a list of its elements, and weighs as much
abbrev pub the_former : Former {0} → Former {0}
the_former elements = list elements

-- how a list's weight is found by its elements' weights
abbrev pub the_weighed : {elements : Former {0}} → Weighed elements → Weighed (the_former elements)
the_weighed weighed = w_list weighed

-- it can be empty, and so end a type that contains itself
pub the_empty : List ⊥
the_empty = []

-- its elements in order are the list itself
abbrev pub the_items : (X : Type 0) → List X → List X
the_items X elements = elements

-- and so are the children that it stores, listed
pub the_items_listed : (X : Type 0) (d : List X)
    → listed _ (children (the_former this) X d) ≡ the_items X d
the_items_listed X elements = list-listed X elements

-- the struct around the `Vec`, and back
abbrev field : Former {0}
field =
    via (vec.the_former this Global) Inside (λ X whole. whole.items)
    (λ X items. record { items = items }) (λ X whole. refl) (λ X items. refl)

module _ (R S : RattleType) (h : R.Denot → S.Denot) where
  -- at two types of element that are laid out alike, a `List` is laid out alike
  pub the_places : Alike R S h → Alike (contract.the_row R) (contract.the_row S)
      ((the_former this).map R.Denot S.Denot h)
  the_places alike =
      view_places field (list this) view (λ X Y k u. refl) (λ X u. refl) R.Denot S.Denot h
      (contract.the_row R).coded (contract.the_row S).coded (invariant R.Denot) (invariant S.Denot)
      (λ u p q. refl) (λ u p q. refl) (λ u e. tt) (λ u e. tt)
      (over (inside.the_row R)) (over (inside.the_row S))
      (struct_places (inside.the_type R) (inside.the_type S) (vec.mapped h, tt) _ (λ d. refl) refl
      (laid _ _ _ (vec.the_places global.the_row ghosts R S h alike), tt))

  -- and coded alike
  pub the_codes_placed : Recodes R S h
      → Recodes (contract.the_row R) (contract.the_row S) ((the_former this).map R.Denot S.Denot h)
  the_codes_placed recodes elements =
      sym (code_map R.coded.code S.coded.code h (λ x. sym (recodes x)) elements)
