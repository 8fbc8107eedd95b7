use Rattle.std.proofs.Common.{rules, ◌≡◌, ◌+◌, [], ◌∷◌, ◌++◌, FitsSigned, w32, sym, subst, arith}
use Rattle.std.proofs.lemmas.Int.{to_z-of_z}
use Rattle.pawn_arrays.specs.Sizes.{sizes}
use Rattle.gen_sim.specs.PlaceItems.{cells_by}
use Rattle.gen_module.proofs.AddressLaws.{Addressed, more_addressed}
use Rattle.gen_module.proofs.addresses.object_addresses.Goals as goal

pub loop-object-preserved : goal.loop-object-preserved
loop-object-preserved c =
    let objects = c.as_slice-objects.result.now in
    let i = c.loop-object.object-index in
    let fits : FitsSigned w32 c.in_ok-address.address = search rules in
    let pushed : c.push.new.self ≡ c.loop-object.table ++ c.in_ok-address.address ∷ [] =
    rw (to_z-of_z w32 c.in_ok-address.address fits) at c.in_ok-push.ensures.ok in
    let counted : c.in_ok-before.before
    ≡ c.loop-object.before + cells_by (sizes c.object-item.result.shape) =
    omega (arith, c.in_ok-before.ensures, c.in_ok-array_cells.ensures) in
    subst (λ table. Addressed objects (i + 1) table c.in_ok-before.before) (sym pushed)
    (more_addressed objects i c.loop-object.table c.loop-object.before c.object-item.result
    c.in_ok-address.address c.in_ok-before.before
    c.loop-object.invariant c.loop-object-test.true c.object-item.is c.in_ok-address.ensures
    counted)
