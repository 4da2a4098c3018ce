-- The joined payloads are loaded, so the machines and the table are those of the definition; their tests tell which answer is given.
use Prim.Native.Nat.{ℕ, ◌/◌, ◌*◌, ◌≤◌}
use mathlib.Core.Bool.{true, false}
use mathlib.Core.List.{List}
use mathlib.Core.Path.{◌≡◌, sym, ap, ◌∙◌}
use native.Mathlib.Omega.{arith}
use lib.ListN.{length, length-replicate}
use Rattle.machine.specs.Refusals.{and_then, valid}
use Rattle.machine.specs.RefusalsLaws.{then_answer, then_refused, then_of, buffer_kept}
use Rattle.machine.specs.WellFormed.{pair_validity}
use Rattle.machine.specs.Table.{table_room}
use Rattle.codec.specs.Format.{payload_room}
use Rattle.codec.specs.Reader.{first_validity, blocks_validity, demanded, pair_of}
use Rattle.codec.specs.Answers.{read_of}
use Rattle.codec.specs.Loading.{Loaded}
use Rattle.codec.proofs.ReaderLaws.{FirstValid, first_valid, blocks_valid, few_blocks, loaded, table_after}
use Rattle.codec.specs.AnswersLaws.{shown_taken, shown_refused}
use Rattle.codec.proofs.reader.take_show.Goals as goal
use Rattle.codec.proofs.reader.take_show.Goals.{In-Ok, After-join, After-pair_validity}

first : (f : List ℕ) → and_then (first_validity f) (blocks_validity f) ≡ valid → FirstValid f
first f e = first_valid f (then_answer _ _ e).0

long : (f : List ℕ) → and_then (first_validity f) (blocks_validity f) ≡ valid → length f ≡ demanded f
long f e = (blocks_valid f (then_answer _ _ e).1).long

-- the payload fits its array
room : (f : List ℕ) → and_then (first_validity f) (blocks_validity f) ≡ valid → 508 * (length f / 512) ≤ payload_room
room f e = omega (arith, few_blocks f (first f e) (long f e))

-- and is there once it is joined
there : (c : After-join) → Loaded c.args.bytes.now c.join.new.payload
there c =
    let f = c.args.bytes.now in
    let e = c.requires.bytes_value in
    loaded f _ payload_room (first f e) (long f e) (room f e) c.join.ensures

-- the pair that was read, and what its tests say
read : (c : After-pair_validity) → c.pair_validity.result ≡ pair_validity (pair_of c.args.bytes.now)
read c = c.pair_validity.ensures ∙ ap pair_validity c.pair_at-pair.ensures

right : (c : In-Ok) → pair_validity (pair_of c.args.bytes.now) ≡ valid
right c = sym (c.pair_validity.ensures ∙ ap pair_validity c.pair_at-pair.ensures) ∙ c.in-Ok.is

pub join-requires : goal.join-requires
join-requires c = rw (length-replicate {A = ℕ} payload_room 0) (room _ c.requires.bytes_value)

pub pair_at-pair-requires : goal.pair_at-pair-requires
pair_at-pair-requires c = there (goal.at.pair_at-pair-requires c).After-join

pub invariant_of-head : goal.invariant_of-head
invariant_of-head c = record { there = (first _ c.requires.bytes_value).long }

pub table_at-requires : goal.table_at-requires
table_at-requires c =
    record {
      loaded = there (goal.at.table_at-requires c).After-join;
      note = sym c.note-note.ensures ∙ c.if-note.true;
      table_room_in_bounds = omega (arith, length-replicate {A = ℕ} table_room 0);
    }

pub returns-in-Err : goal.returns-in-Err
returns-in-Err c =
    let e = sym (read (goal.at.returns-in-Err c).After-pair_validity) ∙ c.in-Err.is in
    let shown = shown_refused c.refused_show.result (then_refused _ _ _ e) c.refused_show.ensures.answer c.refused_show.ensures.machines in
    record { answer = shown.0; machines = shown.1; content = sym (buffer_kept _ _ _ e) }

pub returns-then-note : goal.returns-then-note
unfolding read_of
returns-then-note c =
    let e = right (goal.at.returns-then-note c).In-Ok in
    let shown = shown_taken _ (then_of _ _ e) c.pair_at-pair.ensures c.note-note.ensures in
    record {
      answer = shown.0;
      machines = shown.1;
      content = c.table_at.ensures ∙ sym (table_after _ _ _ true e (sym c.note-note.ensures ∙ c.if-note.true));
    }

pub returns-else-note : goal.returns-else-note
unfolding read_of
returns-else-note c =
    let e = right (goal.at.returns-else-note c).In-Ok in
    let shown = shown_taken _ (then_of _ _ e) c.pair_at-pair.ensures c.note-note.ensures in
    record { answer = shown.0; machines = shown.1; content = sym (table_after _ _ _ false e (sym c.note-note.ensures ∙ c.if-note.false)) }
