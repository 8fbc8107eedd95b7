use Rattle.std.proofs.Common.{◌≡◌, false, arith, length, inl, inr}
use Rattle.std.specs.Prelude.{nat_le}
use Rattle.std.proofs.lemmas.Bool.{le-leb}
use Rattle.std.proofs.lemmas.Bool.Decides.{leb_tells}
use Rattle.script_reader.proofs.NameLaws.{is_name_by}
use Rattle.script_reader.proofs.natives.is_name.Goals as goal

pub returns-then-text-ge1 : goal.returns-then-text-ge1
returns-then-text-ge1 c =
    rw (le-leb 1 (length c.args.text.now) c.if-text-ge1.true) at
    (is_name_by c.args.text.now (λ k. (c.type_inv.text k).fits))

pub returns-else-text-ge1 : goal.returns-else-text-ge1
returns-else-text-ge1 c =
    let few : nat_le 1 (length c.args.text.now) ≡ false =
    elim (leb_tells 1 (length c.args.text.now))
    [ inl t ↦ absurd (omega (arith, t.1, c.if-text-ge1.false)) | inr t ↦ t.0 ] in
    rw few (rw few at (is_name_by c.args.text.now (λ k. (c.type_inv.text k).fits)))
