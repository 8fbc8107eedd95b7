-- A declaration more: what code keeps of it is narrower than what it declares.
use Rattle.std.proofs.Common.{◌≡◌, ℕ, ℤ, Bool, true, List, [], ◌∷◌, refl, ap}
use Rattle.names_rules.specs.Verdict.{Verdict, Stands, faults_of}
use Rattle.names_rules.specs.Known.{Kind, Cells, Worth, Function}
use Rattle.names_rules.specs.Mark.{Declaration}
use Rattle.names_rules.specs.Faults.{again_faults, value_faults}
use Rattle.names_rules.specs.Values.{with_kind, with_worth}
use Rattle.pawn_verdict.specs.declared.fault.CheckFault.{CheckFault}
use Rattle.pawn_verdict.specs.declared.fault.CheckFault.TheVariants.{Source, Memory}
use Rattle.names_sight.specs.declared.known.Kind as held
use Rattle.names_sight.specs.declared.known.Kind.TheVariants as kept
use Rattle.pawn_verdict.specs.Answers.{Fails}
use Rattle.names_sight.specs.Narrower.{Narrower, AreNarrower, NarrowerKind}
use Rattle.names_sight.specs.Views.{kind_view}

-- ---- narrower twice

narrower_twice : {A : Type 0} (u v w : Verdict A) → Narrower u v → Narrower v w → Narrower u w
narrower_twice u v w h k = record {
  stands = λ x e. k.stands x (h.stands x e);
  faults = λ fault c. k.faults fault (h.faults fault c);
}

sizes_twice : (us vs ws : List (Verdict ℤ)) → AreNarrower us vs → AreNarrower vs ws
    → AreNarrower us ws
sizes_twice [] [] [] h k = tt
sizes_twice (u ∷ us) (v ∷ vs) (w ∷ ws) h k =
    (narrower_twice u v w h.0 k.0, sizes_twice us vs ws h.1 k.1)
sizes_twice [] (v ∷ vs) ws h k = absurd h
sizes_twice (u ∷ us) [] ws h k = absurd h
sizes_twice [] [] (w ∷ ws) h k = absurd k
sizes_twice (u ∷ us) (v ∷ vs) [] h k = absurd k

pub kind_twice : (u v w : Kind) → NarrowerKind u v → NarrowerKind v w → NarrowerKind u w
kind_twice (Cells us) (Cells vs) (Cells ws) h k = sizes_twice us vs ws h k
kind_twice (Worth u) (Worth v) (Worth w) h k = narrower_twice u v w h k
kind_twice Function Function Function h k = tt
kind_twice (Cells us) (Worth v) w h k = absurd h
kind_twice (Cells us) Function w h k = absurd h
kind_twice (Worth u) (Cells vs) w h k = absurd h
kind_twice (Worth u) Function w h k = absurd h
kind_twice Function (Cells vs) w h k = absurd h
kind_twice Function (Worth v) w h k = absurd h
kind_twice (Cells us) (Cells vs) (Worth w) h k = absurd k
kind_twice (Cells us) (Cells vs) Function h k = absurd k
kind_twice (Worth u) (Worth v) (Cells ws) h k = absurd k
kind_twice (Worth u) (Worth v) Function h k = absurd k
kind_twice Function Function (Cells ws) h k = absurd k
kind_twice Function Function (Worth w) h k = absurd k

-- ---- faults and values

worth_fails : (v w : Verdict ℤ) (fault : CheckFault) → Narrower v w → Fails (faults_of v) fault
    → Fails (faults_of w) fault
worth_fails v w (Source kind place) h k = record { cause = h.faults _ k.cause }
worth_fails v w Memory h k = record { cause = tt }

-- a fault of what is narrower is one of what is declared
pub value_fails : (u v : Kind) (fault : CheckFault) → NarrowerKind u v
    → Fails (value_faults u) fault → Fails (value_faults v) fault
value_fails (Cells us) (Cells vs) fault h k = k
value_fails (Worth u) (Worth v) fault h k = worth_fails u v fault h k
value_fails Function Function fault h k = k
value_fails (Cells us) (Worth v) fault h k = absurd h
value_fails (Cells us) Function fault h k = absurd h
value_fails (Worth u) (Cells vs) fault h k = absurd h
value_fails (Worth u) Function fault h k = absurd h
value_fails Function (Cells vs) fault h k = absurd h
value_fails Function (Worth v) fault h k = absurd h

-- what code keeps has a value or needs none
pub kept_whole : (kind : held.Kind) (v : Kind) → NarrowerKind (kind_view kind) v
    → value_faults v ≡ []
kept_whole (kept.Cells sizes) (Cells vs) h = refl
kept_whole (kept.Worth value) (Worth v) h =
    let e : v ≡ Stands value = h.stands value refl in rw e refl
kept_whole (kept.Cells sizes) (Worth v) h = absurd h
kept_whole (kept.Cells sizes) Function h = absurd h
kept_whole (kept.Worth value) (Cells vs) h = absurd h
kept_whole (kept.Worth value) Function h = absurd h

pub kept_values : (it : Declaration) (kind : held.Kind) (v : Kind) (values : List (ℕ × ℤ))
    → NarrowerKind (kind_view kind) v
    → with_kind it v values ≡ with_kind it (kind_view kind) values
kept_values it (kept.Cells sizes) (Cells vs) values h = refl
kept_values it (kept.Worth value) (Worth v) values h =
    ap (λ w. with_worth it w values) (h.stands value refl)
kept_values it (kept.Cells sizes) (Worth v) values h = absurd h
kept_values it (kept.Cells sizes) Function values h = absurd h
kept_values it (kept.Worth value) (Cells vs) values h = absurd h
kept_values it (kept.Worth value) Function values h = absurd h

-- a declaration that stands first in its block, or outside all functions
pub again_none : (it : Declaration) (is_there : Bool) → it.outside ≡ true
    → again_faults it is_there ≡ []
again_none it is_there h = rw h refl
