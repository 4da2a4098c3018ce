-- The test whether two machines equal each other in every field decides whether they are one.
use Rattle.std.specs.Prelude.{◌≡◌}
use Rattle.std.specs.Bool.{Decides}
use Rattle.std.proofs.lemmas.Bool.Decides.{Decides-eqb, Decides-and}
use Rattle.std.proofs.lemmas.Slice.Eq.{bytes_eq-Decides}
use Rattle.std.proofs.Math.Path.{ap}
use Rattle.machine.specs.declared.Machine.{Machine}
use Rattle.machine.specs.Machines.{same_machine}

pub machines_same : (x y : Machine) → Decides (same_machine x y) (x ≡ y)
unfolding same_machine
machines_same x y =
    let each = Decides-and _ _ (Decides-eqb x.states y.states)
    (Decides-and _ _ (Decides-eqb x.sets y.sets)
    (Decides-and _ _ (Decides-eqb x.start y.start)
    (Decides-and _ _ (bytes_eq-Decides x.observations y.observations)
    (Decides-and _ _ (bytes_eq-Decides x.successors y.successors) (bytes_eq-Decides x.fairness y.fairness))))) in (
      λ t. let e = each.0 t in
          λ i. record {
            states = e.0 i;
            sets = e.1.0 i;
            start = e.1.1.0 i;
            observations = e.1.1.1.0 i;
            successors = e.1.1.1.1.0 i;
            fairness = e.1.1.1.1.1 i;
          },
      λ e. each.1 (
        ap (λ (m : Machine). m.states) e,
        (
          ap (λ (m : Machine). m.sets) e,
          (
            ap (λ (m : Machine). m.start) e,
            (ap (λ (m : Machine). m.observations) e, (ap (λ (m : Machine). m.successors) e, ap (λ (m : Machine). m.fairness) e)),
          ),
        ),
      ),
    )
