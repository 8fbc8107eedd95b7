-- Expressions find what they ask for: one line a node.
use Rattle.std.proofs.Common.{◌≡◌, ◌∙◌, ◌*◌, ℕ, ℤ, pos}
use Rattle.std.proofs.Common.{List, []}
use Rattle.std.proofs.Common.{◌∷◌, Bool, Option, None, Some, IfSome, IsSome}
use Rattle.std.proofs.Common.{length, slice_get}
use Rattle.std.proofs.Common.{refl, sym, ap, subst, arith}
use Rattle.std.specs.Prelude.{option_map}
use Rattle.std.proofs.Common.{if◌then◌else◌}
use Rattle.std.proofs.lemmas.Option.{slice_get-map}
use Rattle.host_script.specs.declared.event.End.TheVariants as end
use Rattle.pawn_cells.specs.declared.operator.Comparison.{Comparison}
use Rattle.pawn_cells.specs.declared.operator.Logical.TheVariants as logic
use Rattle.pawn_cells.specs.Cells.{is_zero, add, truth}
use Rattle.pawn_cells.specs.Operators.{prefix, binary, compare, logical}
use Rattle.pawn_arrays.specs.Sizes.{elements_in}
use Rattle.pawn_meaning.specs.Program.{Scalar, Global, Own, Element, Char, Array, Object, SlotArray}
use Rattle.pawn_meaning.specs.Program.{ParamArray, Row, From, Expr, Const, Read, Unary, Binary}
use Rattle.pawn_meaning.specs.Program.{Chain, And, Or, Cond, Assign, Update, UpdateBy, Step, StepBy}
use Rattle.pawn_meaning.specs.Program.{Copy, Operate, OperateOne, Call, Native, Seq, Links}
use Rattle.pawn_meaning.specs.Program.{no_links, then_link, Arg, Ref, Whole, Temp, Args, no_args}
use Rattle.pawn_meaning.specs.Program.{then_arg, Perhaps, Absent, Present}
use Rattle.pawn_meaning.specs.Program.{Slot}
use Rattle.pawn_meaning.specs.Program.{Program}
use Rattle.pawn_meaning.specs.Program.{ScalarSlot, ReferenceSlot, ArraySlot, OpenSlot, StaticObject}
use Rattle.pawn_meaning.specs.Program as node
use Rattle.pawn_meaning.specs.Memory as memory
use Rattle.pawn_meaning.specs.Memory.{Static, Reference, Place}
use Rattle.pawn_meaning.specs.Memory.{whole_of, own_whole, through, copied}
use Rattle.pawn_meaning.specs.Memory.{made}
use Rattle.pawn_meaning.specs.Memory.{with_temporary, running}
use Rattle.pawn_meaning.specs.Run.{Done, done}
use Rattle.pawn_meaning.specs.Natives.{Held, Value, Refers}
use Rattle.pawn_meaning.specs.References.{is_known, first_size, row_at}
use Rattle.pawn_meaning.specs.References.{rest_from}
use Rattle.pawn_meaning.specs.References.{cell_at, character_at, to_cell}
use Rattle.pawn_meaning.specs.Meaning.{name_of, ended}
use Rattle.pawn_meaning.specs.Meaning.{converted, linked, place, array, value, chain}
use Rattle.pawn_meaning.specs.Meaning.{chained, argument, arguments, condition, perhaps}
use Rattle.pawn_meaning.specs.Scope.{Scope, Extent, extent, object_extent, slot_extent}
use Rattle.pawn_meaning.specs.Scope.{known_extent}
use Rattle.pawn_meaning.specs.ValidExprs.{IsOperator, IsCellObject}
use Rattle.pawn_meaning.specs.ValidExprs.{IsValidScalar, IsValidArray, IsValidExpr, AreValidLinks}
use Rattle.pawn_meaning.specs.ValidExprs.{IsValidArg, AreValidArgs, IsValidPerhaps}
use Rattle.meaning_laws.specs.MeaningWith as gone
use Rattle.meaning_laws.proofs.Outlines.{Drawn}
use Rattle.meaning_laws.proofs.Outlines.{Outline}
use Rattle.meaning_laws.proofs.Accesses as found
use Rattle.meaning_laws.proofs.Accesses.{lay, grown, IsFine, IsPlaceOf, there_last}
use Rattle.meaning_laws.proofs.Typings.{is_in, ArrayFits, known_fits}
use Rattle.meaning_laws.proofs.Typings.{line_sizes, cells_fit, row_fits, rest_fits, line_cell}
use Rattle.meaning_laws.proofs.Typings.{line_character}
use Rattle.meaning_laws.proofs.Typings.{row_fine, rest_fine, single_cell}
use Rattle.meaning_laws.proofs.Typings.{Here}
use Rattle.meaning_laws.proofs.Typings.{here_stays, name_sizes, own_cell, own_array}
use Rattle.meaning_laws.proofs.Typings.{led}
use Rattle.meaning_laws.proofs.Arguments as kept
use Rattle.meaning_laws.proofs.Outlines.{objects, sizes_of}
use Rattle.meaning_laws.proofs.ValidParts.{scope}
use Rattle.meaning_laws.proofs.CallNodes.{Setting, call_to, one_to, two_to, native_to}
use Rattle.meaning_laws.proofs.Steps.{Free, To, AlikeIn, SingleIn, after, give_to, free}
use Rattle.meaning_laws.proofs.Steps.{or_stop_to, choose_on, index_to, heaped_at, look_to}
use Rattle.meaning_laws.proofs.Steps.{change_to, read_to, stored, refers_to, free_some}

module _ (set : Setting) where
  abbrev program : Program
  program = set.scene.program

  module _ (slots : List Slot) (params : ℕ) where
    abbrev here_scope : List ℕ → Scope
    here_scope made = scope program slots params made

    converted_to : (l : Outline) (made : List ℕ) (convert : Option ℕ) (v : ℤ)
        → IfSome convert (IsOperator (here_scope made) 1)
        → AlikeIn program {A = ℤ} l (To l Free) (converted set.scene set.fewer convert v)
        (gone.converted set.missing set.scene set.fewer' convert v)
    converted_to l made None v h = free v
    converted_to l made (Some f) v h = one_to set l f v h

    linked_to : (l : Outline) (made : List ℕ) (op : Comparison) (f : Option ℕ) (swapped : Bool) (x y : ℤ)
        → IfSome f (IsOperator (here_scope made) 2)
        → AlikeIn program {A = ℤ} l (To l Free) (linked set.scene set.fewer op f swapped x y)
        (gone.linked set.missing set.scene set.fewer' op f swapped x y)
    linked_to l made op None swapped x y h = free (truth (compare op x y))
    linked_to l made op (Some f) swapped x y h = two_to set l f swapped x y h

    global_cell : (l : Outline) (o : ℕ) (it : Option StaticObject) → slice_get program.objects o ≡ it
        → IsCellObject it → IsPlaceOf program l (memory.Cell (Static o) 0)
    global_cell l o None e h = absurd h
    global_cell l o (Some object) e h =
        let one : elements_in object.sizes ≡ 1 = ap elements_in h in
        record {
          sizes = object.sizes;
          there = slice_get-map (sizes_of) program.objects o ∙ ap (option_map (sizes_of)) e;
          inside = omega (arith, one);
        }

    -- what there is of an object
    object_is : (o : ℕ) (it : Option StaticObject) → slice_get program.objects o ≡ it
        → IsSome (object_extent it)
        → (z : List ℕ) × (slice_get (objects program) o ≡ Some z) × (object_extent it ≡ known_extent z)
        × IsSome (known_extent z)
    object_is o None e h = absurd (cc h)
    object_is o (Some object) e h = (
      object.sizes,
      slice_get-map (sizes_of) program.objects o ∙ ap (option_map (sizes_of)) e,
      refl,
      h,
    )

    -- and of the array of a slot
    slot_is : (s : ℕ) (it : Option Slot) → slice_get slots s ≡ it → IsSome (slot_extent it)
        → (z : List ℕ) × (slice_get slots s ≡ Some (ArraySlot z)) × (slot_extent it ≡ known_extent z)
        × IsSome (known_extent z)
    slot_is s None e h = absurd (cc h)
    slot_is s (Some ScalarSlot) e h = absurd (cc h)
    slot_is s (Some ReferenceSlot) e h = absurd (cc h)
    slot_is s (Some (ArraySlot z)) e h = (z, e, refl, h)
    slot_is s (Some (OpenSlot inner)) e h = absurd (cc h)

    fits_sizes : (o : Option Extent) (r : Reference) → ArrayFits o r
        → (size : ℕ) × (inner : List ℕ) × (r.sizes ≡ size ∷ inner)
    fits_sizes None r h = absurd h
    fits_sizes (Some it) r h = (h.0, it.inner, h.1)

    module _ (made : List ℕ) (current : List Drawn) (outer : List (List Drawn)) where
      abbrev at_heap : List (List ℕ) → Outline
      at_heap heap = lay current outer heap

      abbrev IsHere : List (List ℕ) → Type 0
      IsHere heap = Here program slots params made current outer heap

      abbrev PlaceIs : Outline → Scalar → Place → Type 0
      PlaceIs l p at = kept.PlaceIs program slots params made current outer l p at

      abbrev PartIs : Outline → Array → Reference → Type 0
      PartIs l a r = kept.PartIs program slots params made current outer l a r

      abbrev HeldBy : Outline → Arg → Held → Type 0
      HeldBy l a held = kept.HeldBy program slots params made current outer l a held

      abbrev HeldsBy : Outline → Args → List Held → Type 0
      HeldsBy l args held = kept.HeldsBy program slots params made current outer l args held

      -- the temporary arguments behind one, and behind all
      abbrev after_arg : Arg → List (List ℕ) → List (List ℕ)
      after_arg a heap = kept.after_arg program slots params made current outer a heap

      abbrev after_args : Args → List (List ℕ) → List (List ℕ)
      after_args args heap = kept.after_args program slots params made current outer args heap

      abbrev IsSingle : Outline → Held → Type 0
      IsSingle l held = SingleIn program l held

      mutual
        place_to : (heap : List (List ℕ)) → IsHere heap → (p : Scalar)
            → IsValidScalar (here_scope made) p
            → AlikeIn program (at_heap heap) (To (at_heap heap) (PlaceIs (at_heap heap) p))
            (place set.scene set.fewer p) (gone.place set.missing set.scene set.fewer' p)
        place_to heap here (Global o) h =
            give_to (memory.Cell (Static o) 0) (
              global_cell (at_heap heap) o (slice_get program.objects o) refl h,
              λ c. tt,
            )
        place_to heap here (Own s) h =
            look_to set.missing {In = PlaceIs (at_heap heap) (Own s)}
            (λ m. Some (memory.Cell (memory.Local (running m) s) 0)) (λ m g. (
              memory.Cell (memory.Local (length outer) s) 0,
              ap (λ n. Some (memory.Cell (memory.Local n s) 0))
                  (found.runs_at program current outer heap m g),
              (
                record {
                  sizes = 1 ∷ [];
                  there = name_sizes program slots params made current outer heap here s (1 ∷ [])
                      (own_cell program slots params made current outer heap here s h.0
                      (kept.in_sight program slots params made current outer s h.1));
                  inside = omega arith;
                },
                λ c. tt,
              ),
            ))
        place_to heap here (node.Through s) h =
            let it =
            led program slots params made current outer heap here s ReferenceSlot h.0 h.1
            (λ i. absurd (cc i)) in
            after (look_to set.missing {In = λ r. (r.sizes ≡ []) × IsFine program (at_heap heap) r}
            (through s)
            (λ m g. (it.0, found.is_led program current outer heap m s it.0 g it.1, it.2)))
            (λ r i. give_to (cell_at r 0)
            (single_cell program (at_heap heap) r i.0 i.1, λ c. tt))
        place_to heap here (Element a e) h =
            after (array_to heap here a h.1) (λ r i. after (value_to heap here e h.2)
            (λ v j. after (index_to (is_known a) (first_size r.sizes) v)
            (λ n k. let line = line_sizes (extent (here_scope made) a) r h.0 i.0 in
            give_to (cell_at r n)
            (line_cell program (at_heap heap) r line.0 n line.1 i.1 k, λ c. tt))))
        place_to heap here (Char a e) h =
            after (array_to heap here a h.1) (λ r i. after (value_to heap here e h.2)
            (λ v j. after (index_to (is_known a) (4 * first_size r.sizes) v)
            (λ n k. let line = line_sizes (extent (here_scope made) a) r h.0 i.0 in
            give_to (character_at r n)
            (line_character program (at_heap heap) r line.0 n line.1 i.1 k, λ c. absurd c))))

        array_to : (heap : List (List ℕ)) → IsHere heap → (a : Array)
            → IsValidArray (here_scope made) a
            → AlikeIn program (at_heap heap) (To (at_heap heap) (PartIs (at_heap heap) a))
            (array set.scene set.fewer a) (gone.array set.missing set.scene set.fewer' a)
        array_to heap here (Object o) h =
            let it = object_is o (slice_get program.objects o) refl h in
            let r = found.whole_part program (Static o) it.0 in
            look_to set.missing {In = PartIs (at_heap heap) (Object o)} (whole_of (Static o))
            (λ m g. (
              r,
              found.is_whole program (at_heap heap) m (Static o) it.0 g it.1,
              (
                subst (λ z. ArrayFits z r) (sym it.2) (known_fits it.0 r refl it.3),
                found.whole_fine program (at_heap heap) (Static o) it.0 it.1,
              ),
            ))
        array_to heap here (SlotArray s) h =
            let it = slot_is s (slice_get slots s) refl h.0 in
            let there =
            name_sizes program slots params made current outer heap here s it.0
            (own_array program slots params made current outer heap here s it.0 it.1
            (is_in s made h.1)) in
            let name = memory.Local (length outer) s in
            let r = found.whole_part program name it.0 in
            look_to set.missing {In = PartIs (at_heap heap) (SlotArray s)} (own_whole s) (λ m g. (
              r,
              ap (λ n. whole_of (memory.Local n s) m)
                  (found.runs_at program current outer heap m g)
                  ∙ found.is_whole program (at_heap heap) m name it.0 g there,
              (
                subst (λ z. ArrayFits z r) (sym it.2) (known_fits it.0 r refl it.3),
                found.whole_fine program (at_heap heap) name it.0 there,
              ),
            ))
        array_to heap here (ParamArray s known) h =
            let it =
            kept.param_is program slots params made current outer heap here s (slice_get slots s)
            refl known h.0 h.1 in
            look_to set.missing {In = PartIs (at_heap heap) (ParamArray s known)} (through s)
            (λ m g. (
              it.0,
              found.is_led program current outer heap m s it.0 g it.1,
              (it.2, it.3),
            ))
        array_to heap here (Row a e) h =
            after (array_to heap here a h.1) (λ r i. after (value_to heap here e h.2)
            (λ v j. after (index_to (is_known a) (first_size r.sizes) v)
            (λ n k. let all = fits_sizes (extent (here_scope made) a) r i.0 in
            give_to (row_at r n) (
              row_fits (extent (here_scope made) a) r n h.0 i.0,
              row_fine program (at_heap heap) r all.0 n all.1 all.2 i.1 k,
            ))))
        array_to heap here (From a e) h =
            after (array_to heap here a h.1) (λ r i. after (value_to heap here e h.2)
            (λ v j. after (index_to (is_known a) (first_size r.sizes) v)
            (λ n k. let line = line_sizes (extent (here_scope made) a) r h.0 i.0 in
            give_to (rest_from r n) (
              rest_fits (extent (here_scope made) a) r n i.0,
              rest_fine program (at_heap heap) r line.0 n line.1 i.1 k,
            ))))

        pub value_to : (heap : List (List ℕ)) → IsHere heap → (e : Expr)
            → IsValidExpr (here_scope made) e
            → AlikeIn program {A = ℤ} (at_heap heap) (To (at_heap heap) Free)
            (value set.scene set.fewer e) (gone.value set.missing set.scene set.fewer' e)
        value_to heap here (Const v) h = free v
        value_to heap here (Read p) h =
            after (place_to heap here p h) (λ at i. read_to set.missing at i.0)
        value_to heap here (Unary o e) h =
            after (value_to heap here e h) (λ v i. free (prefix o v))
        value_to heap here (Binary o l r) h =
            after (value_to heap here l h.0) (λ x i. after (value_to heap here r h.1)
            (λ y j. or_stop_to (binary o x y) (end.Error (pos 11)) (free_some (binary o x y))))
        value_to heap here (Chain e links) h =
            after (value_to heap here e h.1) (λ x i. chain_to heap here links x h.2)
        value_to heap here (And l r) h =
            after (value_to heap here l h.0) (λ x i. choose_on (is_zero x) (free (pos 0))
            (after (value_to heap here r h.1) (λ y j. free (logical logic.And x y))))
        value_to heap here (Or l r) h =
            after (value_to heap here l h.0) (λ x i. choose_on (is_zero x)
            (after (value_to heap here r h.1) (λ y j. free (logical logic.Or x y)))
            (free (pos 1)))
        value_to heap here (Cond c a b) h =
            after (value_to heap here c h.0)
            (λ x i. choose_on (is_zero x) (value_to heap here b h.2) (value_to heap here a h.1))
        value_to heap here (Assign p e) h =
            after (place_to heap here p h.0) (λ at i. after (value_to heap here e h.1)
            (λ v j. stored set.missing at v v i.0))
        value_to heap here (Update p o e) h =
            after (place_to heap here p h.0) (λ at i. after (value_to heap here e h.1)
            (λ y j. after (read_to set.missing at i.0)
            (λ x k. after (or_stop_to {In = Free} (binary o x y) (end.Error (pos 11))
            (free_some (binary o x y)))
            (λ v n. stored set.missing at v v i.0))))
        value_to heap here (UpdateBy p f swapped e convert) h =
            after (place_to heap here p h.2) (λ at i. after (value_to heap here e h.3)
            (λ y j. after (read_to set.missing at i.0)
            (λ x k. after (two_to set (at_heap heap) f swapped x y h.0)
            (λ u n. after (converted_to (at_heap heap) made convert u h.1)
            (λ v o. stored set.missing at v v i.0)))))
        value_to heap here (Step p delta prefix) h =
            after (place_to heap here p h.1) (λ at i. after (read_to set.missing at i.0)
            (λ x j. stored set.missing at (add x delta) (if prefix then add x delta else x) i.0))
        value_to heap here (StepBy p f prefix) h =
            after (place_to heap here p h.1) (λ at i. after (read_to set.missing at i.0)
            (λ x j. after (one_to set (at_heap heap) f x h.0)
            (λ v k. stored set.missing at v (if prefix then v else x) i.0)))
        value_to heap here (Copy to from cells) h =
            after (array_to heap here to h.2) (λ r i. after (array_to heap here from h.3)
            (λ q j. after (change_to set.missing (at_heap heap) (copied r q cells)
            (λ m g. found.is_copied program (at_heap heap) m r q cells g i.1 j.1
            (cells_fit cells (extent (here_scope made) to) r h.0 i.0)
            (cells_fit cells (extent (here_scope made) from) q h.1 j.0)))
            (λ x k. free (pos 0))))
        value_to heap here (Operate f l r swapped) h =
            after (value_to heap here l h.1) (λ x i. after (value_to heap here r h.2)
            (λ y j. two_to set (at_heap heap) f swapped x y h.0))
        value_to heap here (OperateOne f e) h =
            after (value_to heap here e h.1) (λ v i. one_to set (at_heap heap) f v h.0)
        value_to heap here (Call f args) h =
            let more = kept.args_more program slots params made current outer args heap in
            heaped_at (at_heap heap) (at_heap (after_args args heap)) more.0
            (ap (λ z. at_heap z) more.1)
            (after (arguments_to heap here args h.3)
            (λ held i. call_to set (at_heap (after_args args heap)) h.0 f held
            (kept.helds_fit program slots params made current outer (at_heap (after_args args heap))
            h.0 args held h.2 i) h.1))
        value_to heap here (Native n args) h =
            let more = kept.args_more program slots params made current outer args heap in
            heaped_at (at_heap heap) (at_heap (after_args args heap)) more.0
            (ap (λ z. at_heap z) more.1)
            (after (arguments_to heap here args h.1)
            (λ held i. native_to set (at_heap (after_args args heap)) (name_of program n) held
            (kept.helds_fine program slots params made current outer
            (at_heap (after_args args heap)) args held i)))
        value_to heap here (Seq a b) h =
            after (value_to heap here a h.0) (λ x i. value_to heap here b h.1)

        chain_to : (heap : List (List ℕ)) → IsHere heap → (links : Links) (x : ℤ)
            → AreValidLinks (here_scope made) links
            → AlikeIn program {A = ℤ} (at_heap heap) (To (at_heap heap) Free)
            (chain set.scene set.fewer links x)
            (gone.chain set.missing set.scene set.fewer' links x)
        chain_to heap here no_links x h = free x
        chain_to heap here (then_link o e f swapped links) x h =
            after (value_to heap here e h.1)
            (λ y i. after (linked_to (at_heap heap) made o f swapped x y h.0)
            (λ v j. after (chained_to heap here links y v h.2)
            (λ u k. free (ended links u))))

        chained_to : (heap : List (List ℕ)) → IsHere heap → (links : Links) (x v : ℤ)
            → AreValidLinks (here_scope made) links
            → AlikeIn program {A = ℤ} (at_heap heap) (To (at_heap heap) Free)
            (chained set.scene set.fewer links x v)
            (gone.chained set.missing set.scene set.fewer' links x v)
        chained_to heap here no_links x v h = free v
        chained_to heap here (then_link o e f swapped links) x v h =
            choose_on (is_zero v) (free (pos 0))
            (after (value_to heap here e h.1)
            (λ y i. after (linked_to (at_heap heap) made o f swapped x y h.0)
            (λ u j. chained_to heap here links y u h.2)))

        argument_to : (heap : List (List ℕ)) → IsHere heap → (a : Arg)
            → IsValidArg (here_scope made) a
            → AlikeIn program (at_heap heap)
            (To (at_heap (after_arg a heap)) (HeldBy (at_heap (after_arg a heap)) a))
            (argument set.scene set.fewer a) (gone.argument set.missing set.scene set.fewer' a)
        argument_to heap here (node.Value e) h =
            after (value_to heap here e h)
            (λ v i. give_to {In = HeldBy (at_heap heap) (node.Value e)} (Value v) tt)
        argument_to heap here (Ref p) h =
            after (place_to heap here p h.1) (λ at i. refers_to set.missing at i.0 (i.1 h.0))
        argument_to heap here (Whole a) h =
            after (array_to heap here a h)
            (λ r i. give_to {In = HeldBy (at_heap heap) (Whole a)} (Refers r) i)
        argument_to heap here (Temp e) h =
            let l = at_heap heap in
            let k = at_heap (grown heap) in
            after (value_to heap here e h) (λ v i. after
            (look_to set.missing {In = λ n. n ≡ length heap} (λ m. Some (length m.heap))
            (λ m g. (length m.heap, refl, found.heap_count program l m g)))
            (λ n j. after (change_to set.missing k (λ m. Some (with_temporary v m))
            (λ m g. (with_temporary v m, refl, found.grows program l m v g)))
            (λ x o. give_to {In = IsSingle k} (Refers (to_cell (memory.Temporary n) 0)) (
              refl,
              record {
                sizes = 1 ∷ [];
                there = ap (slice_get (grown heap)) j ∙ there_last heap (1 ∷ []);
                inside = omega arith;
              },
            ))))

        arguments_to : (heap : List (List ℕ)) → IsHere heap → (args : Args)
            → AreValidArgs (here_scope made) args
            → AlikeIn program (at_heap heap)
            (To (at_heap (after_args args heap)) (HeldsBy (at_heap (after_args args heap)) args))
            (arguments set.scene set.fewer args)
            (gone.arguments set.missing set.scene set.fewer' args)
        arguments_to heap here no_args h = give_to {In = HeldsBy (at_heap heap) no_args} [] tt
        arguments_to heap here (then_arg a args) h =
            let behind_others = after_args args heap in
            let some = kept.args_more program slots params made current outer args heap in
            let one = kept.arg_more program slots params made current outer a behind_others in
            let now =
            here_stays program slots params made current outer heap behind_others
            (kept.stays_by program slots params made current outer heap behind_others some.0 some.1)
            here in
            after (arguments_to heap here args h.1)
            (λ others i. after (argument_to behind_others now a h.0)
            (λ first j. give_to
            {In = HeldsBy (at_heap (after_arg a behind_others)) (then_arg a args)}
            (first ∷ others) (
              j,
              kept.helds_stay program slots params made current outer (at_heap behind_others)
                  (at_heap (after_arg a behind_others)) args others
                  (kept.stays_by program slots params made current outer behind_others
                  (after_arg a behind_others) one.0 one.1) i,
            )))

      pub condition_to : (heap : List (List ℕ)) → IsHere heap → (c : Perhaps)
          → IsValidPerhaps (here_scope made) c
          → AlikeIn program {A = ℤ} (at_heap heap) (To (at_heap heap) Free)
          (condition set.scene set.fewer c) (gone.condition set.missing set.scene set.fewer' c)
      condition_to heap here Absent h = free (pos 1)
      condition_to heap here (Present e) h = value_to heap here e h

      pub perhaps_to : (heap : List (List ℕ)) → IsHere heap → (c : Perhaps)
          → IsValidPerhaps (here_scope made) c
          → AlikeIn program {A = Done} (at_heap heap) (To (at_heap heap) Free)
          (perhaps set.scene set.fewer c) (gone.perhaps set.missing set.scene set.fewer' c)
      perhaps_to heap here Absent h = free done
      perhaps_to heap here (Present e) h =
          after (value_to heap here e h) (λ x i. free done)
