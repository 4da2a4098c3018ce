-- The lowest state of least entry is found first; the present state takes its place if it is in the set and as good.
use mathlib.Core.Bool.{true}
use mathlib.Core.Path.{◌≡◌, sym, ◌∙◌}
use Prim.Native.Nat.{ℕ, ◌≤◌, ◌<◌}
use native.Mathlib.Omega.{arith}
use lib.Bits.{bit_and}
use lib.ListN.{length, get_or}
use Rattle.std.specs.Prelude.{Some}
use Rattle.mask.specs.Bits.{has_bit}
use Rattle.mask.specs.LogicLaws.{and_l, and_r, and_i, clash}
use Rattle.mask.specs.BitsLaws.{has_and, has_lt}
use Rattle.machine.specs.Step.{single_step, in_row, present_of}
use Rattle.machine.specs.SingleStep.{Best}
use Rattle.machine.specs.PartnerLaws.{partner_at}
use Rattle.machine.specs.RowLaws.{in_row_at, in_row_of}
use Rattle.machine.specs.SingleStepLaws.{single_stays, single_leaves, single_nobody}
use Rattle.machine.proofs.partner_within.Goals as goal
use Rattle.machine.proofs.partner_within.Goals.{In_ok-best}

-- the entry of a state, and the lowest state of least entry
abbrev key : In_ok-best → ℕ → ℕ
key c a = get_or c.args.row.now a 0

abbrev lowest : In_ok-best → ℕ
lowest c = c.in_ok-best.best

best : (c : In_ok-best) → let x = c.args in Best x.moves (in_row x.matched x.row.now x.bound) (key c) (lowest c)
best c =
    let x = c.args in
    partner_at x.moves (in_row x.matched x.row.now x.bound) (key c) (lowest c)
    (sym c.least_within.ensures ∙ c.in_ok-best.was)

lowest_row : (c : In_ok-best) → (lowest c < length c.args.row.now) × (key c (lowest c) ≤ c.args.bound)
lowest_row c = let x = c.args in let r = in_row_at x.matched x.row.now x.bound (lowest c) (best c).candidate.inside in (r.1, r.2)

-- the state a that is the present one is as good
stays : (c : In_ok-best) (a : ℕ) → let x = c.args in has_bit (bit_and x.moves x.matched) a ≡ true → a < length x.row.now
    → key c a ≤ key c (lowest c) → Some a ≡ single_step a x.moves (in_row x.matched x.row.now x.bound) (key c)
stays c a t h l =
    let x = c.args in
    let bits = sym (has_and a _ _) ∙ t in
    sym (single_stays a (key c) x.moves _ (record {
      below = has_lt 64 x.moves a (omega arith) (and_l _ _ bits);
      moved = and_l _ _ bits;
      inside = in_row_of x.matched x.row.now x.bound a (and_r _ _ bits) h (omega (arith, (lowest_row c).1));
    }) (λ i k. omega (arith, l, (best c).least i k)))

-- it is not
leaves : (c : In_ok-best) (a : ℕ) → let x = c.args in
    (a < 64 → has_bit (bit_and x.moves x.matched) a ≡ true → a < length x.row.now → key c (lowest c) < key c a)
    → Some (lowest c) ≡ single_step a x.moves (in_row x.matched x.row.now x.bound) (key c)
leaves c a worse =
    let x = c.args in
    sym (single_leaves a (key c) x.moves _ (lowest c) (best c) (λ k.
    let r = in_row_at x.matched x.row.now x.bound a k.inside in
    worse k.below (has_and a x.moves x.matched ∙ and_i k.moved r.0) r.1))

pub returns-in_err-best : goal.returns-in_err-best
returns-in_err-best c =
    let x = c.args in
    c.from_residual.ensures ∙ sym (single_nobody (present_of x.present) (λ a. get_or x.row.now a 0) x.moves _ (sym c.least_within.ensures ∙ c.in_err-best.was))

pub offset_bounds-row-best : goal.offset_bounds-row-best
offset_bounds-row-best c = omega (arith, (best (goal.at.offset_bounds-row-best c).In_ok-best).candidate.below)

pub bounds-row-best : goal.bounds-row-best
bounds-row-best c = (lowest_row (goal.at.bounds-row-best c).In_ok-best).0

pub returns-then-row-a : goal.returns-then-row-a
unfolding present_of
returns-then-row-a c =
    rw c.in-Some.is (stays (goal.at.returns-then-row-a c).In_ok-best c.in-Some.a (sym c.has.ensures ∙ c.if-has.true) c.if-a-row.true (omega (arith, c.if-row-a.true)))

pub returns-else-row-a : goal.returns-else-row-a
unfolding present_of
returns-else-row-a c = rw c.in-Some.is (leaves (goal.at.returns-else-row-a c).In_ok-best c.in-Some.a (λ b t h. omega (arith, c.if-row-a.false)))

pub returns-else-a-row : goal.returns-else-a-row
unfolding present_of
returns-else-a-row c = rw c.in-Some.is (leaves (goal.at.returns-else-a-row c).In_ok-best c.in-Some.a (λ b t h. absurd (omega arith)))

pub returns-else-has : goal.returns-else-has
unfolding present_of
returns-else-has c =
    rw c.in-Some.is (leaves (goal.at.returns-else-has c).In_ok-best c.in-Some.a (λ b t h. absurd (clash (sym c.has.ensures ∙ c.if-has.false) t)))

pub returns-in_default : goal.returns-in_default
unfolding present_of
returns-in_default c = rw c.in_default.is (leaves (goal.at.returns-in_default c).In_ok-best 64 (λ b t h. absurd (omega arith)))
