use Rattle.std.proofs.Common.{◌∷◌, refl, ap, arith}
use Rattle.std.proofs.lemmas.Result.{err_from_is_err_and}
use Rattle.pawn_tree.specs.declared.declaration.Item.{Item}
use Rattle.names_rules.specs.FileNames.{value}
use Rattle.names_rules.proofs.NameLaws.{items_follow}
use Rattle.names_sight.proofs.AddLaws.{adds_go_on, adds_fail}
use Rattle.names_sight.proofs.outside.FileNames.add_items.Goals as goal

pub returns-in_err-add : goal.returns-in_err-add
returns-in_err-add c = λ tags before whole.
    let p = err_from_is_err_and c.from_residual.result c.from_residual.ensures.1 in
    rw (p.1, p.2) (adds_fail (λ x now. value c.args.place x.name ∷ now)
    (λ x xs now. refl) c.index-items-i.result _ (items_follow c.args.place)
    (c.loop-i.invariant tags before whole) (omega arith) c.index-items-i.is
    (λ now w. c.in_err-add.ensures tags now (value c.args.place c.index-items-i.result.name) w
    (record {
      name_is = ap (λ (x : Item). x.name) c.index-items-i.is;
      place_is = refl;
      role_is = refl;
    }) refl))

pub loop-i-preserved : goal.loop-i-preserved
loop-i-preserved c = λ tags before whole.
    adds_go_on (λ x now. value c.args.place x.name ∷ now) (λ x xs now. refl) c.index-items-i.result
    (c.loop-i.invariant tags before whole) (omega arith) c.index-items-i.is
    (λ now w. c.in_ok-add.ensures tags now (value c.args.place c.index-items-i.result.name) w
    (record {
      name_is = ap (λ (x : Item). x.name) c.index-items-i.is;
      place_is = refl;
      role_is = refl;
    }) refl)
