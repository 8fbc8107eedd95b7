-- What the definitions see of what code holds.
use Rattle.std.specs.Prelude.{ℤ, [], ◌∷◌, map, Some, Result, Ok, Err}
use Rattle.names_rules.specs.Verdict as verdict
use Rattle.names_rules.specs.Verdict.{Verdict, Stands, Breaks}
use Rattle.names_rules.specs.Known as known
use Rattle.names_sight.specs.declared.fault.Fault.{Fault}
use Rattle.names_sight.specs.declared.known.Kind.{Kind}
use Rattle.names_sight.specs.declared.known.Kind.TheVariants as kind
use Rattle.names_sight.specs.declared.known.Known.{Known}
use Rattle.names_sight.specs.declared.known.MeantKind.{MeantKind}
use Rattle.names_sight.specs.declared.known.MeantKind.TheVariants as meant
use Rattle.names_sight.specs.declared.known.Meant.{Meant}
use Rattle.names_sight.specs.declared.outside.FirstHead.{FirstHead}

-- the number of a rule, and the place where it is broken
abbrev pub fault_view : Fault → verdict.Fault
fault_view x = record { kind = x.kind; place = x.place }

-- code keeps one of the faults for which a size doesn't stand
abbrev pub size_view : Result ℤ Fault → Verdict ℤ
size_view (Ok size) = Stands size
size_view (Err fault) = Breaks (fault_view fault ∷ [])

-- what a declared name stands for
abbrev pub kind_view : Kind → known.Kind
kind_view (kind.Cells sizes) = known.Cells (map size_view sizes.items)
kind_view (kind.Worth value) = known.Worth (Stands value)

-- what is known of a declared name
abbrev pub known_view : Known → known.Known
known_view x = record { token = Some x.token; tag = x.tag; kind = kind_view x.kind }

-- what a name that occurs stands for
abbrev pub meant_kind_view : MeantKind → known.Kind
meant_kind_view (meant.Cells sizes) = known.Cells (map size_view sizes.now)
meant_kind_view (meant.Worth value) = known.Worth (Stands value)
meant_kind_view meant.Function = known.Function

-- what is known of a name that occurs
abbrev pub meant_view : Meant → known.Known
meant_view x = record { token = x.token; tag = x.tag; kind = meant_kind_view x.kind }

-- what is known of a function by its first head
abbrev pub head_view : FirstHead → known.Known
head_view x = record { token = Some x.token; tag = x.tag; kind = known.Function }
