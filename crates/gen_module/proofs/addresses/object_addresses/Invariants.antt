use Rattle.gen_module.proofs.AddressLaws.{Addressed}
use Rattle.gen_module.proofs.addresses.object_addresses.Given as goal

abbrev pub invariant-loop-object : goal.invariant-loop-object
invariant-loop-object l = Addressed l.objects l.object-index l.table l.before
