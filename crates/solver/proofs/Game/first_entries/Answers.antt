-- All entries are blank when the matched pairs get theirs.
use Rattle.std.proofs.Common.{ap, ◌∙◌, ℕ, replicate}
use Rattle.mask.specs.Tables.{table}
use Rattle.mask.specs.TablesLaws.{table_length}
use Rattle.machine.specs.Machines.{n_c, n_a, pairs}
use Rattle.machine.specs.Table.{blank}
use Rattle.machine.specs.WellFormedLaws.{well_pair}
use Rattle.rows.specs.Entries.{write_of}
use Rattle.rows.specs.WriteLaws.{write_entry_is}
use Rattle.solver.proofs.Game.first_entries.Goals as goal

pub returns : goal.returns
returns c =
    let s = c.args.self.now in
    let p = s.pair in
    let w = well_pair p s.prepared.well in
    let blanks = table (pairs p) (λ e. blank) in
    c.write_entry.ensures ∙ ap (write_of (n_c p) (n_a p) s.matched (replicate 64 0) 0) (c.clear.ensures ∙ ap (λ (n : ℕ). table n (λ e. blank)) c.requires)
    ∙ write_entry_is (n_c p) (n_a p) s.matched (replicate 64 0) 0 blanks w.concrete.states_high w.abstraction.states_high (table_length _ _)
