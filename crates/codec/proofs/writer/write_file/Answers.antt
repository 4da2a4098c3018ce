-- Each way out has the answer and the buffer that the definitions give for the tests on that way.
use mathlib.Core.Path.{◌≡◌, sym, ◌∙◌}
use native.Mathlib.Omega.{arith}
use lib.ListN.{length}
use Rattle.machine.specs.Refusals.{valid}
use Rattle.machine.proofs.Passing.{passed_on}
use Rattle.machine.specs.WellFormed.{nonempty_validity}
use Rattle.machine.specs.WellFormedLaws.{valid_is_well}
use Rattle.machine.specs.EmptySetsLaws.{nonempty_at}
use Rattle.codec.specs.WriterLaws.{short_table, short_file, with_room, write_refused, write_valid}
use Rattle.codec.proofs.writer.write_file.Goals as goal
use Rattle.codec.proofs.writer.write_file.Goals.{In_ok-pair_validity}

pub returns-then-table-lt-TABLE_ROOM : goal.returns-then-table-lt-TABLE_ROOM
returns-then-table-lt-TABLE_ROOM c =
    let x = c.args in
    let e = write_refused x.p x.with_table x.table.now x.buffer.now (short_table x.p (length x.table.now) (length x.buffer.now) (omega arith)) in
    record { answer = e.0; bytes = e.1 }

pub returns-then-buffer-lt-FILE_ROOM : goal.returns-then-buffer-lt-FILE_ROOM
returns-then-buffer-lt-FILE_ROOM c =
    let x = c.args in
    let e = write_refused x.p x.with_table x.table.now x.buffer.now
    (short_file x.p (length x.table.now) (length x.buffer.now) (omega arith) (omega arith)) in
    record { answer = e.0; bytes = e.1 }

right : (c : In_ok-pair_validity) → nonempty_validity c.args.p ≡ valid
right c = sym c.pair_validity.ensures ∙ c.in_ok-pair_validity.was

pub invariant_of-formed : goal.invariant_of-formed
invariant_of-formed c = record { well = valid_is_well _ (nonempty_at _ (right (goal.at.invariant_of-formed c).In_ok-pair_validity)).0 }

pub returns-in_err-pair_validity : goal.returns-in_err-pair_validity
returns-in_err-pair_validity c =
    let x = c.args in
    let e = write_refused x.p x.with_table x.table.now x.buffer.now
    (with_room x.p (length x.table.now) (length x.buffer.now) (omega arith) (omega arith)
    ∙ sym c.pair_validity.ensures ∙ c.in_err-pair_validity.was) in
    record { answer = passed_on c.from_residual.ensures ∙ e.0; bytes = e.1 }

pub returns : goal.returns
returns c =
    let x = c.args in
    let f = c.put_file in
    let e = write_valid x.p x.with_table x.table.now x.buffer.now
    (with_room x.p (length x.table.now) (length x.buffer.now) (omega (arith, c.if-table-lt-TABLE_ROOM)) (omega (arith, c.if-buffer-lt-FILE_ROOM))
    ∙ right (goal.at.returns c).In_ok-pair_validity) f.ensures.length in
    record { answer = e.0; bytes = f.ensures.bytes ∙ e.1 }
