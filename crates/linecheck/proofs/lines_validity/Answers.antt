-- At the loops' heads all earlier sections, rows and entries pass and nothing is refused; in the walk the entry passes exactly if every
-- successor that is left is served.
use mathlib.Core.Bool.{false}
use mathlib.Core.Path.{◌≡◌, refl, sym, ap, ◌∙◌}
use Prim.Native.Nat.{ℕ, ◌+◌, ◌-◌, ◌^◌, ◌≤◌, ◌<◌}
use native.Mathlib.Numerals.{add-one}
use native.Mathlib.Omega.{arith}
use lib.ListN.{length, get_or, take, drop}
use lib.Pow.{pow_mono}
use mir.Syntax.{w64}
use mir.Val.{Fits}
use borrow.Author.Count.{below_more}
use borrow.Author.Rules.{rules}
use Rattle.mask.specs.BitsLaws.{rest_lt}
use Rattle.mask.specs.Bounded.{every_in}
use Rattle.mask.specs.BoundedLaws.{every_at, every_of, every_in_zero}
use Rattle.mask.specs.WalkLaws.{every_in_hit, every_in_miss}
use Rattle.machine.specs.declared.Pair.{Pair}
use Rattle.machine.specs.declared.Formed.{Formed}
use Rattle.machine.specs.declared.Refusal.TheVariants.{FailingEntry}
use Rattle.machine.specs.Machines.{n_c, n_a, sets_a}
use Rattle.machine.specs.WellFormedLaws.{WellPair, well_pair, pairs_small, ranks_small}
use Rattle.machine.specs.Step.{single_step, in_row, found}
use Rattle.machine.specs.StepLaws.{next_lt}
use Rattle.machine.specs.Table.{entry_index}
use Rattle.machine.specs.RowLaws.{row_room, entry_room}
use Rattle.machine.specs.Lines.{passes, lines_validity}
use Rattle.machine.specs.LinesLaws.{lines_fail, lines_valid, each_of}
use Rattle.linecheck.specs.BoundsLaws.{place_at_lem, serves, line_section, moves_small, passes_if_blank, passes_if, fails_if, taken_lt, step_found}
use Rattle.linecheck.proofs.lines_validity.Goals as goal
use Rattle.linecheck.proofs.lines_validity.Goals.{After-entry_index-at, After-entry_index-from, After-line_of, else-e, then-e+in-Some+else-loop-rest-test}
use Rattle.std.specs.Prelude.{Err}

-- a section of the pair is one of seven
section_in : (f : Formed) (j : ℕ) → j < sets_a f.pair.now → j < 7
section_in f j h = omega (arith, h, (well_pair f.pair.now f.well).abstraction.sets_high)

-- the entry's place
place_of_lem : (c : After-entry_index-at)
    → let p = c.args.formed.pair.now in
    c.entry_index-at.result ≡ entry_index (n_c p) (n_a p) c.lines.j c.loop-c.c c.loop-a.a
place_of_lem c =
    let p = c.args.formed.pair.now in
    let w = well_pair p c.args.formed.well in
    place_at_lem p w _ c.lines.j c.loop-c.c c.loop-a.a c.entry_index-at.ensures (omega (arith, w.abstraction.sets_high)) c.loop-c-test.true (omega (arith, w.abstraction.states_high))

-- is within the table
place_in : (c : After-entry_index-at) → c.entry_index-at.result < length c.args.table.now
place_in c =
    let p = c.args.formed.pair.now in
    let w = well_pair p c.args.formed.well in
    omega (
      arith,
      place_of_lem c,
      c.requires.1,
      entry_room (n_c p) (n_a p) c.lines.j c.loop-c.c (omega (arith, w.abstraction.sets_high)) w.concrete.states_high w.abstraction.states_high c.loop-a.a c.loop-c-test.true c.loop-a-test.true,
    )

-- the section of an entry's line is one of the table's
section_small : (c : After-entry_index-from) → c.in-Some.line.section < 7
section_small c =
    let n = sets_a c.args.formed.pair.now in
    let k : c.next_section-next.result < n = omega (arith, c.next_section-next.ensures, next_lt n c.lines.j c.lines-test.true) in
    omega (arith, (well_pair c.args.formed.pair.now c.args.formed.well).abstraction.sets_high, line_section _ _ _ _ _ _ _ _ _ _ n c.in-Some.line (sym c.in-Some.is ∙ c.line_of.ensures) c.lines-test.true k)

-- the state that the walk has taken is one of the concrete machine's
taken_in : (c : After-entry_index-from) → c.lowest-d.result < n_c c.args.formed.pair.now
taken_in c =
    taken_lt (n_c c.args.formed.pair.now) c.loop-rest.rest c.lowest-d.result (well_pair c.args.formed.pair.now c.args.formed.well).concrete.states_high (omega arith) c.loop-rest.invariant.0 c.lowest-d.ensures

-- a mask of states has 64 bits
rest_fits : (p : Pair) (rest : ℕ) → WellPair p → rest < 2 ^ n_c p → rest < 2 ^ 64
rest_fits p rest w h = omega (arith, pow_mono {i = n_c p} {j = 64} w.concrete.states_high)

-- the row that is looked in
row_of : (c : After-entry_index-from)
    → let p = c.args.formed.pair.now in
    c.entry_index-from.result ≡ entry_index (n_c p) (n_a p) c.in-Some.line.section c.lowest-d.result 0
row_of c =
    let p = c.args.formed.pair.now in
    place_at_lem p (well_pair p c.args.formed.well) _ c.in-Some.line.section c.lowest-d.result 0 c.entry_index-from.ensures (section_small c) (taken_in c) (omega arith)

-- lies within the table
row_in : (c : After-entry_index-from) → c.entry_index-from.result + n_a c.args.formed.pair.now ≤ length c.args.table.now
row_in c =
    let p = c.args.formed.pair.now in
    let w = well_pair p c.args.formed.well in
    omega (
      arith,
      row_of c,
      c.requires.1,
      row_room (n_c p) (n_a p) c.in-Some.line.section c.lowest-d.result (section_small c) w.concrete.states_high w.abstraction.states_high (taken_in c),
    )

-- what the single step says of the taken state, whatever the present one
told : (c : After-entry_index-from)
    → let p = c.args.formed.pair.now in
    let T = c.args.table.now in
    let from = c.entry_index-from.result in
    let moves = get_or p.abstraction.successors c.loop-a.a 0 in
    let L = c.in-Some.line in
    (present : ℕ) (entries : ℕ → ℕ)
    → found (single_step present moves (in_row (get_or c.args.matched c.lowest-d.result 0) (take (from + n_a p - from) (drop from T)) L.bound) entries)
    ≡ serves p T moves L.section L.bound c.lowest-d.result
told c present entries =
    let p = c.args.formed.pair.now in
    let from = c.entry_index-from.result in
    let L = c.in-Some.line in
    step_found p c.args.table.now (well_pair p c.args.formed.well) c.args.matched c.requires.0 L.section c.lowest-d.result from (from + n_a p) (row_of c) refl (row_in c) (taken_in c) present
    (get_or p.abstraction.successors c.loop-a.a 0) L.bound entries

-- the first entry that fails is where the loops are left, with its spot
stopped : (c : After-line_of)
    → let x = c.args in
    passes x.formed.pair.now x.table.now c.lines.j c.loop-c.c c.loop-a.a ≡ false → Err (FailingEntry (c.lines.j + 1) c.loop-c.c c.loop-a.a) ≡ lines_validity x.formed.pair.now x.table.now
stopped c e =
    let x = c.args in
    rw add-one (sym (lines_fail x.formed.pair.now x.table.now c.lines.j c.loop-c.c c.loop-a.a c.lines-test.true c.loop-c-test.true c.loop-a-test.true e
    c.lines.invariant.0 c.loop-c.invariant.0 c.loop-a.invariant.0))

pub overflow_mul-most : goal.overflow_mul-most
overflow_mul-most c = omega (arith, pairs_small c.args.formed.pair.now (well_pair c.args.formed.pair.now c.args.formed.well))

pub overflow_mul-most-2 : goal.overflow_mul-most-2
overflow_mul-most-2 c = omega (arith, ranks_small c.args.formed.pair.now (well_pair c.args.formed.pair.now c.args.formed.well))

pub offset_bounds-table-at : goal.offset_bounds-table-at
offset_bounds-table-at c = omega (arith, place_in (goal.at.offset_bounds-table-at c).After-entry_index-at)

pub bounds-table-at : goal.bounds-table-at
bounds-table-at c = place_in (goal.at.bounds-table-at c).After-entry_index-at

pub offset_bounds-matched-c : goal.offset_bounds-matched-c
offset_bounds-matched-c c = omega (arith, (well_pair c.args.formed.pair.now c.args.formed.well).concrete.states_high)

pub bounds-matched-c : goal.bounds-matched-c
bounds-matched-c c = omega (arith, (well_pair c.args.formed.pair.now c.args.formed.well).concrete.states_high)

pub offset_bounds-abstraction-j : goal.offset_bounds-abstraction-j
offset_bounds-abstraction-j c = omega (arith, (well_pair c.args.formed.pair.now c.args.formed.well).abstraction.sets_high)

pub bounds-abstraction-j : goal.bounds-abstraction-j
bounds-abstraction-j c = omega (arith, (well_pair c.args.formed.pair.now c.args.formed.well).abstraction.sets_high)

pub line_of-requires : goal.line_of-requires
line_of-requires c = let w = well_pair c.args.formed.pair.now c.args.formed.well in (w.concrete.sets_low, w.concrete.sets_high)

pub offset_bounds-abstraction-a : goal.offset_bounds-abstraction-a
offset_bounds-abstraction-a c = omega (arith, (well_pair c.args.formed.pair.now c.args.formed.well).abstraction.states_high)

pub bounds-abstraction-a : goal.bounds-abstraction-a
bounds-abstraction-a c = omega (arith, (well_pair c.args.formed.pair.now c.args.formed.well).abstraction.states_high)

pub offset_bounds-concrete-c : goal.offset_bounds-concrete-c
offset_bounds-concrete-c c = omega (arith, (well_pair c.args.formed.pair.now c.args.formed.well).concrete.states_high)

pub bounds-concrete-c : goal.bounds-concrete-c
bounds-concrete-c c = omega (arith, (well_pair c.args.formed.pair.now c.args.formed.well).concrete.states_high)

pub loop-rest-init : goal.loop-rest-init
loop-rest-init c =
    let x = c.args in
    let w = well_pair x.formed.pair.now x.formed.well in
    let fit : Fits w64 (get_or x.formed.pair.now.concrete.successors c.loop-c.c 0) = search rules in (
      moves_small x.formed.pair.now w c.loop-c.c c.loop-c-test.true fit.fits,
      passes_if x.formed.pair.now x.table.now w (λ i. omega (arith, c.type_inv.table i)) c.lines.j c.loop-c.c c.loop-a.a c.entry_index-at.result (place_of_lem (goal.at.loop-rest-init c).After-entry_index-at) x.matched
          c.next_section-next.result c.line_of.result c.requires.0 c.next_section-next.ensures c.loop-c-test.true c.loop-a-test.true c.if-e.true c.line_of.ensures
          c.in-Some.line c.in-Some.is fit.fits,
      refl,
    )

pub overflow_add-to : goal.overflow_add-to
overflow_add-to c = omega (arith, row_in (goal.at.overflow_add-to c).After-entry_index-from)

pub offset_bounds-matched-d : goal.offset_bounds-matched-d
offset_bounds-matched-d c = omega (arith, taken_in (goal.at.offset_bounds-matched-d c).After-entry_index-from, (well_pair c.args.formed.pair.now c.args.formed.well).concrete.states_high)

pub bounds-matched-d : goal.bounds-matched-d
bounds-matched-d c = omega (arith, taken_in (goal.at.bounds-matched-d c).After-entry_index-from, (well_pair c.args.formed.pair.now c.args.formed.well).concrete.states_high)

pub offset_bounds-table-from : goal.offset_bounds-table-from
offset_bounds-table-from c = omega (arith, row_in (goal.at.offset_bounds-table-from c).After-entry_index-from)

pub slice_bounds-has_partner-end : goal.slice_bounds-has_partner-end
slice_bounds-has_partner-end c = row_in (goal.at.slice_bounds-has_partner-end c).After-entry_index-from

pub loop-rest-smaller : goal.loop-rest-smaller
loop-rest-smaller c = omega (arith, c.rest-rest.ensures, rest_lt c.loop-rest.rest (omega arith))

pub loop-rest-preserved : goal.loop-rest-preserved
loop-rest-preserved c =
    let p = c.args.formed.pair.now in
    let T = c.args.table.now in
    let L = c.in-Some.line in
    let t = c.loop-rest in
    let q = serves p T (get_or p.abstraction.successors c.loop-a.a 0) L.section L.bound in (
      omega (arith, c.rest-rest.ensures, t.invariant.0, rest_lt t.rest (omega arith)),
      t.invariant.1
          ∙ every_in_hit 64 t.rest q c.lowest-d.result (omega arith) (rest_fits p t.rest (well_pair p c.args.formed.well) t.invariant.0) c.lowest-d.ensures
          (sym (c.has_partner.ensures 0 ∙ told (goal.at.loop-rest-preserved c).After-entry_index-from 0 _) ∙ c.if-not-has_partner.false)
          ∙ ap (λ (m : ℕ). every_in 64 m q) (sym c.rest-rest.ensures),
      t.invariant.2,
    )

pub loop-a-preserved : goal.loop-a-preserved
loop-a-preserved c =
    let x = c.args in (
      below_more _ _ c.loop-a.invariant.0 (elim c.if-e.branch [
        | then-e+in-Some+else-loop-rest-test w ↦ w.loop-rest.invariant.1 ∙ rw w.loop-rest-test.false (every_in_zero 64 _)
        | else-e w ↦
            passes_if_blank x.formed.pair.now x.table.now (well_pair x.formed.pair.now x.formed.well) (λ i. omega (arith, c.type_inv.table i)) c.lines.j c.loop-c.c c.loop-a.a c.entry_index-at.result
            (place_of_lem (goal.at.loop-a-preserved c).After-entry_index-at) w.if-e.false
      ]),
      elim c.if-e.branch [
        | then-e+in-Some+else-loop-rest-test w ↦ w.answer-is ∙ w.loop-rest.invariant.2
        | else-e w ↦ w.answer-is
      ] ∙ c.loop-a.invariant.1,
    )

pub loop-c-preserved : goal.loop-c-preserved
loop-c-preserved c = (
  below_more _ _ c.loop-c.invariant.0 (every_of _ _ (λ i h. c.loop-a.invariant.0 i (omega arith))),
  c.loop-a.invariant.1 ∙ c.loop-c.invariant.1,
)

pub lines-preserved : goal.lines-preserved
lines-preserved c = (
  below_more _ _ c.lines.invariant.0 (every_of _ _ (λ i h. c.loop-c.invariant.0 i (omega arith))),
  c.loop-c.invariant.1 ∙ c.lines.invariant.1,
)

pub returns-after-lines : goal.returns-after-lines
returns-after-lines c =
    let x = c.args in
    let i = c.lines.invariant in
    i.1
    ∙ sym (lines_valid x.formed.pair.now x.table.now (each_of x.formed.pair.now x.table.now (λ j k a hj hk ha. every_at _ _ (every_at _ _ (i.0 j (omega arith)) k hk) a ha)))

pub failing_entry-requires : goal.failing_entry-requires
failing_entry-requires c = section_in c.args.formed c.lines.j c.lines-test.true

pub failing_entry-requires-then-not-has_partner : goal.failing_entry-requires-then-not-has_partner
failing_entry-requires-then-not-has_partner c = section_in c.args.formed c.lines.j c.lines-test.true

pub returns-in_default : goal.returns-in_default
returns-in_default c =
    let x = c.args in
    ap Err c.failing_entry.ensures
    ∙ stopped (goal.at.returns-in_default c).After-line_of
    (fails_if x.formed.pair.now x.table.now (well_pair x.formed.pair.now x.formed.well) (λ i. omega (arith, c.type_inv.table i)) c.lines.j c.loop-c.c c.loop-a.a c.entry_index-at.result
    (place_of_lem (goal.at.returns-in_default c).After-entry_index-at) x.matched c.next_section-next.result c.line_of.result c.requires.0 c.next_section-next.ensures c.loop-c-test.true
    c.loop-a-test.true c.if-e.true c.line_of.ensures c.in_default.is)

pub returns-then-not-has_partner : goal.returns-then-not-has_partner
returns-then-not-has_partner c =
    let p = c.args.formed.pair.now in
    let L = c.in-Some.line in
    let t = c.loop-rest in
    let q = serves p c.args.table.now (get_or p.abstraction.successors c.loop-a.a 0) L.section L.bound in
    ap Err c.failing_entry-then-not-has_partner.ensures
    ∙ stopped (goal.at.returns-then-not-has_partner c).After-line_of (t.invariant.1
    ∙ every_in_miss 64 t.rest q c.lowest-d.result (omega arith) (rest_fits p t.rest (well_pair p c.args.formed.well) t.invariant.0) c.lowest-d.ensures
    (sym (c.has_partner.ensures 0 ∙ told (goal.at.returns-then-not-has_partner c).After-entry_index-from 0 _) ∙ c.if-not-has_partner.true))
