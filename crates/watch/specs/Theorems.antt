-- A proof of each statement on the solver by turns on a file's bytes.
use Rattle.std.specs.Prelude.{List, refl, ℕ}
use Rattle.std.proofs.Math.Path.{sym}
use Rattle.std.proofs.Common.{◌∙◌}
use Rattle.machine.specs.RefusalsLaws.{then_answer}
use Rattle.machine.specs.WellFormed.{nonempty_validity}
use Rattle.machine.specs.WellFormedLaws.{valid_is_well}
use Rattle.machine.specs.EmptySetsLaws.{nonempty_at}
use Rattle.machine.specs.Table.{table_room}
use Rattle.codec.specs.Reader.{pair_of, read_validity}
use Rattle.progress.specs.TurnsLaws.{first_given_lem}
use Rattle.watch.specs.Watching.{first_file}
use Rattle.watch.specs.WatchingLaws.{first_rows_lem, first_kept, turn_said_lem, turn_rows_lem, turn_table_lem, turn_kept, look_read}
use Rattle.watch.specs.Statements.{CallsOfMachines, RefusalsLeave}

module _ (f : List ℕ) where
  pub calls_of_machines : CallsOfMachines f
  unfolding first_file
  calls_of_machines e =
      let q = then_answer (read_validity f table_room) (nonempty_validity (pair_of f)) e in
      let n = nonempty_at (pair_of f) q.1 in
      record {
        well = valid_is_well (pair_of f) n.0;
        nonempty = n.1;
        first = λ F. first_rows_lem f F e ∙ first_given_lem (pair_of f) q.1;
        said = λ F. turn_said_lem f F q.0;
        rows = λ F. turn_rows_lem f F q.0;
        entries = λ F. turn_table_lem f F q.0;
        looked = λ F j c a. sym (look_read f F j c a q.0 refl);
      }

  pub refusals_leave : RefusalsLeave f
  refusals_leave r F T = (λ e. sym (first_kept f F e), λ e. let k = turn_kept f F T e in (k.1, k.2))
