-- The entries stand behind the machines, end where the payload does, and have room in a lent table.
use Prim.Native.Nat.{ℕ, ◌+◌, ◌-◌, ◌*◌, ◌≤◌}
use mathlib.Core.Path.{◌≡◌, sym, ap, ap₂, ◌∙◌}
use mathlib.Core.List.{List, ◌++◌}
use lib.ListN.{length, take, drop}
use Rattle.std.proofs.Common.{length-take-le}
use native.Mathlib.Omega.{arith}
use Rattle.std.specs.Prelude.{false}
use Rattle.codec.specs.declared.reader.Counts.{Counts}
use Rattle.codec.specs.Format.{number_at, payload_length}
use Rattle.codec.specs.NumberLaws.{part_numbers}
use Rattle.codec.specs.Loading.{entries_place, entries_count}
use Rattle.mask.specs.Tables.{table, front}
use Rattle.codec.proofs.ReaderLaws.{entries_fit, entries_end, table_is}
use Rattle.codec.proofs.reader.table_at.Goals as goal
use Rattle.codec.proofs.reader.table_at.Goals.{After-entries-entries}

-- what the calls gave, of the file
counted : (c : After-entries-entries) → c.entries-entries.result ≡ entries_count c.args.head.now.bytes.now
counted c = c.entries-entries.ensures.value ∙ ap (λ (k : Counts). k.n * (k.c * k.a)) c.counts-counts.ensures

placed : (c : After-entries-entries) → c.payload_length-at.result ≡ entries_place c.args.head.now.bytes.now
placed c = c.payload_length-at.ensures.value ∙ ap (λ (k : Counts). payload_length k.c k.a k.m k.n false) c.counts-counts.ensures

-- they have room in the table
room : (c : After-entries-entries) → c.entries-entries.result ≤ length c.args.table.now
room c = omega (arith, counted c, entries_fit c.args.head.now.bytes.now c.requires.loaded.counts, c.requires.table_room_in_bounds)

pub slice_bounds-read_numbers-end : goal.slice_bounds-read_numbers-end
slice_bounds-read_numbers-end c = omega (arith, counted c, placed c, entries_end c.args.head.now.bytes.now c.requires.note, c.requires.loaded)

pub slice_bounds-read_numbers-end-2 : goal.slice_bounds-read_numbers-end-2
slice_bounds-read_numbers-end-2 c = room (goal.at.slice_bounds-read_numbers-end-2 c).After-entries-entries

pub slice_bounds-read_numbers-end-3 : goal.slice_bounds-read_numbers-end-3
slice_bounds-read_numbers-end-3 c = sym (length-take-le _ c.args.table.now (room (goal.at.slice_bounds-read_numbers-end-3 c).After-entries-entries))

pub returns : goal.returns
returns c =
    let T = c.args.table.now in
    let p = (goal.at.returns c).After-entries-entries in
    let at = c.payload_length-at.result in
    let many = c.entries-entries.result in
    ap (λ (l : List ℕ). l ++ drop many T)
    (c.read_numbers.ensures ∙ ap (λ (n : ℕ). table n (λ e. number_at 2 (take (at + 2 * many - at) (drop at c.args.q.now)) (2 * e))) (length-take-le many T (room p)) ∙ part_numbers 2 many _ c.args.q.now at (omega arith))
    ∙ ap₂ (λ (n at : ℕ). front n (λ e. number_at 2 c.args.q.now (at + 2 * e)) T) (counted p) (placed p)
    ∙ table_is c.args.head.now.bytes.now c.args.q.now T c.requires.loaded
