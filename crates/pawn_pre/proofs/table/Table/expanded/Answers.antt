use Rattle.std.proofs.Common.{◌≡◌, ℕ, ◌+◌, ◌<◌, ◌++◌, Err, length, true, false, sym, subst, ◌∙◌}
use Rattle.std.proofs.Common.{arith, add-zero}
use Rattle.pawn_pre.specs.Substitution.{steps, is_long}
use Rattle.pawn_pre.proofs.LineStepLaws.{stands, one_too_many, too_long, one_more, expanded_short}
use Rattle.pawn_pre.proofs.table.Table.expanded.Goals as goal

pub returns-then-left-eq0 : goal.returns-then-left-eq0
returns-then-left-eq0 c =
    let short : is_long (length c.args.bytes.now) ≡ false =
    simp add-zero at (sym c.if-is_long.ensures) in
    let found = rw (c.in-Some.is, c.as_slice.ensures) at c.in_ok-spot.ensures in
    let left : c.loop-after.left ≡ 0 = grind arith in
    let P : ℕ → Type 0 =
    λ n. steps c.args.self.now c.args.control n c.loop-after.done c.loop-after.after
    ≡ Err 7 in
    expanded_short c.args.self.now c.args.control c.args.bytes.now short
    ∙ sym c.loop-after.invariant.0
    ∙ subst P (sym left) (one_too_many _ _ _ _ _ _ found)

pub returns-then-is_long-2 : goal.returns-then-is_long-2
returns-then-is_long-2 c =
    let short : is_long (length c.args.bytes.now) ≡ false =
    simp add-zero at (sym c.if-is_long.ensures) in
    let found = rw (c.in-Some.is, c.as_slice.ensures) at c.in_ok-spot.ensures in
    let left : 0 < c.loop-after.left = grind arith in
    let long : is_long (length (c.loop-after.done ++ c.in-Some.spot.before.now)
    + length c.in-Some.spot.after) ≡ true =
    cc (
      c.is_long-in-Some.ensures,
      c.if-is_long-2.true,
      c.in_ok-append.ensures.ok,
      c.len.ensures,
      c.len-in-Some.ensures,
    ) in
    expanded_short c.args.self.now c.args.control c.args.bytes.now short
    ∙ sym c.loop-after.invariant.0
    ∙ too_long _ _ _ _ _ _ found _ left long

pub loop-after-preserved : goal.loop-after-preserved
loop-after-preserved c =
    let found = rw (c.in-Some.is, c.as_slice.ensures) at c.in_ok-spot.ensures in
    let left : 0 < c.loop-after.left = grind arith in
    let long : is_long (length (c.loop-after.done ++ c.in-Some.spot.before.now)
    + length c.in-Some.spot.after) ≡ false =
    cc (
      c.is_long-in-Some.ensures,
      c.if-is_long-2.false,
      c.in_ok-append.ensures.ok,
      c.len.ensures,
      c.len-in-Some.ensures,
    ) in
    let e =
    one_more c.args.self.now c.args.control c.loop-after.done c.loop-after.after _ _ found
    c.loop-after.left left long in
    (cc (c.in_ok-append.ensures.ok, c.loop-after.invariant.0), omega arith)

pub returns : goal.returns
returns c =
    let short : is_long (length c.args.bytes.now) ≡ false =
    simp add-zero at (sym c.if-is_long.ensures) in
    let found = rw (c.in_default.is, c.as_slice.ensures) at c.in_ok-spot.ensures in
    let e =
    stands c.args.self.now c.args.control c.loop-after.done c.loop-after.after
    c.loop-after.left found in
    let f = expanded_short c.args.self.now c.args.control c.args.bytes.now short in
    cc (c.in_ok-append-2.ensures.ok, c.as_slice-2.ensures, c.loop-after.invariant.0)
