-- The invariant: the best of the states passed, and what a later key has to be below: that of a blank entry before there is one.
use Rattle.std.proofs.Common.{arith, rules, sym, ◌∙◌}
use Rattle.std.specs.Prelude.{true, ◌*◌, ◌-◌, ◌<◌, ◌≡◌}
use Rattle.mask.specs.LogicLaws.{and_false_l, and_i, and_r, clash, refute}
use Rattle.machine.specs.Table.{blank, covers, entry}
use Rattle.machine.specs.Step.{present_of, single_step, staying}
use Rattle.machine.specs.LinesLaws.{covers_of, non_blank_at, non_blank_of}
use Rattle.machine.specs.Step.{partner}
use Rattle.machine.specs.SingleStepLaws.{staying_low, staying_high}
use Rattle.brute.specs.ScanLaws.{entry_below, scan_keep, scan_miss, scan_start, scan_take, keyed}
use Rattle.brute.proofs.lines.Tabled.least_partner.Invariants.{wanted}
use Rattle.brute.proofs.lines.Tabled.least_partner.Goals.{else-has-via-else-has, else-has-via-then-has+else-is_matched}
use Rattle.brute.proofs.lines.Tabled.least_partner.Goals as goal
use Rattle.brute.proofs.lines.Tabled.least_partner.Goals.{else-has, then-has+then-is_matched+else-key-limit, then-has+then-is_matched+then-key-limit}

pub loop-a-init : goal.loop-a-init
loop-a-init c = (search rules, scan_start _ _ _)

pub loop-a-preserved : goal.loop-a-preserved
loop-a-preserved c =
    let x = c.args in
    let T = x.self.now.table.now in
    let l = c.loop-a in
    let q = wanted x.self.now.pair.now T x.moves x.j x.d in
    let e = entry x.self.now.pair.now T x.j x.d in
    let key = staying (present_of x.present) e in
    let bound = 2 * blank - 1 in
    let bit = sym c.has.ensures in (
      search rules,
      elim c.if-has.branch [
        | then-has+then-is_matched+then-key-limit w ↦
            let m = sym w.is_matched.ensures ∙ w.if-is_matched.true in
            let k : w.staying_key-key.result ≡ key l.a = keyed (present_of x.present) e l.a _ _ w.entry_at.ensures w.staying_key-key.ensures in
            let h : key l.a < l.limit = rw (← k) w.if-key-limit.true in
            let n : covers x.self.now.pair.now T x.j x.d l.a ≡ true =
            covers_of x.self.now.pair.now T x.j x.d l.a (λ z. omega (arith, l.invariant.1.limit_le, staying_low (present_of x.present) e l.a)) in
            rw (w.best-is, w.limit-is, k) (scan_take q key bound l.a l.best l.limit l.invariant.1 (and_i (bit ∙ w.if-has.true) (non_blank_of x.self.now.pair.now T x.j x.d l.a m n)) h)
        | then-has+then-is_matched+else-key-limit w ↦ rw (w.best-is, w.limit-is) (scan_keep q key bound l.a l.best l.limit l.invariant.1
            (λ t. omega (
              arith,
              staying_high (present_of x.present) e l.a,
              entry_below x.self.now.pair.now T x.j x.d l.a (omega (arith, w.entry_at.ensures, w.entry_at.type_inv)) (non_blank_at x.self.now.pair.now T x.j x.d l.a (and_r _ _ t)).1,
            ))
            (rw (← keyed (present_of x.present) e l.a _ _ w.entry_at.ensures w.staying_key-key.ensures) w.if-key-limit.false))
        | else-has w ↦ elim w.else-has.branch [
          | else-has-via-then-has+else-is_matched v ↦ rw (w.best-is, w.limit-is) (scan_miss q key bound l.a l.best l.limit l.invariant.1 (refute _ (λ t. clash (sym v.is_matched.ensures ∙ v.if-is_matched.false) (non_blank_at x.self.now.pair.now T x.j x.d l.a (and_r _ _ t)).0)))
          | else-has-via-else-has v ↦ rw (w.best-is, w.limit-is) (scan_miss q key bound l.a l.best l.limit l.invariant.1 (and_false_l _ (bit ∙ v.if-has.false)))
        ]
      ],
    )

pub returns : goal.returns
unfolding single_step partner
returns c =
    let l = c.loop-a in
    let e : l.a ≡ 64 = omega arith in
    sym (rw e at l.invariant.1.best_is)
