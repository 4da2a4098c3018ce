-- The header, the two machines and the table are stored one behind the other.
use Rattle.std.proofs.Common.{refl, sym, ◌∙◌, arith, length-take-le}
use Rattle.machine.specs.Table.{entries}
use Rattle.codec.specs.WriterLaws.{formed_small, numbers_front, store_table, store_no_table}
use Rattle.codec.proofs.writer.put_payload.Goals as goal

pub machine_length-abstraction_at-requires : goal.machine_length-abstraction_at-requires
machine_length-abstraction_at-requires c = omega (arith, formed_small _ c.args.formed.well)

pub overflow_add-abstraction_at : goal.overflow_add-abstraction_at
overflow_add-abstraction_at c = omega (arith, formed_small _ c.args.formed.well, c.machine_length-abstraction_at.ensures)

pub machine_length-requires : goal.machine_length-requires
machine_length-requires c = omega (arith, formed_small _ c.args.formed.well)

pub overflow_add-table_at : goal.overflow_add-table_at
overflow_add-table_at c = omega (arith, formed_small _ c.args.formed.well, c.machine_length-abstraction_at.ensures, c.machine_length.ensures)

pub header-requires : goal.header-requires
header-requires c = omega (arith, formed_small _ c.args.formed.well)

pub slice_bounds-put_machine-end : goal.slice_bounds-put_machine-end
slice_bounds-put_machine-end c = omega (arith, formed_small _ c.args.formed.well, c.machine_length-abstraction_at.ensures, c.machine_length.ensures)

pub put_machine-requires-clause-states_bound : goal.put_machine-requires-clause-states_bound
put_machine-requires-clause-states_bound c = omega (arith, formed_small _ c.args.formed.well)

pub slice_bounds-put_machine-end-2 : goal.slice_bounds-put_machine-end-2
slice_bounds-put_machine-end-2 c = omega (arith, formed_small _ c.args.formed.well, c.machine_length-abstraction_at.ensures, c.machine_length.ensures)

pub put_machine-requires-2-clause-states_bound : goal.put_machine-requires-2-clause-states_bound
put_machine-requires-2-clause-states_bound c = omega (arith, formed_small _ c.args.formed.well)

pub slice_bounds-put_numbers-end-then-with_table : goal.slice_bounds-put_numbers-end-then-with_table
slice_bounds-put_numbers-end-then-with_table c = sym (length-take-le _ c.args.table.now (omega (arith, formed_small _ c.args.formed.well)))

pub put_numbers-requires : goal.put_numbers-requires
put_numbers-requires c =
    let x = c.args in
    omega (arith, length-take-le (entries x.formed.pair.now) x.table.now (omega (arith, formed_small _ x.formed.well)), formed_small _ x.formed.well)

pub returns-then-with_table : goal.returns-then-with_table
returns-then-with_table c =
    let x = c.args in
    let p = x.formed.pair.now in
    let i_is = c.machine_length-abstraction_at.ensures in
    let e = store_table p x.with_table x.table.now x.out.now _ _ _ _ _ _ _ (c.copy_from_slice.ensures.after ∙ c.header.ensures) c.put_machine.ensures c.put_machine-2.ensures
    (omega (arith, i_is)) (omega (arith, c.machine_length.ensures)) (omega arith) (omega arith) c.if-with_table.true _ _ _
    (c.put_numbers.ensures ∙ numbers_front 2 (entries p) x.table.now (omega arith) (omega (arith, formed_small p x.formed.well))) refl (omega arith) in
    record { length = e.0; bytes = e.1 }

pub returns : goal.returns
returns c =
    let x = c.args in
    let p = x.formed.pair.now in
    let i_is = c.machine_length-abstraction_at.ensures in
    let e = store_no_table p x.with_table x.table.now x.out.now _ _ _ _ _ _ _ (c.copy_from_slice.ensures.after ∙ c.header.ensures) c.put_machine.ensures c.put_machine-2.ensures
    (omega (arith, i_is)) (omega (arith, c.machine_length.ensures)) (omega arith) (omega arith) c.if-with_table.false in
    record { length = e.0; bytes = e.1 }
