-- After i turns the sum is that of the first i bytes; each adds at most 130,050, so that 32 bits hold it.
use Prim.Native.Nat.{ℕ, ◌%◌}
use mathlib.Core.Path.{◌≡◌, sym, ap, ◌∙◌}
use native.Mathlib.Omega.{arith}
use lib.ListN.{get_or}
use Rattle.codec.specs.BlockLaws.{weighed, weighed_none, weighed_turn, weighed_all, weight_le}
use Rattle.codec.proofs.check_of.Goals as goal

pub loop-i-init : goal.loop-i-init
loop-i-init c = (sym (weighed_none c.args.front.now), omega arith)

pub loop-i-preserved : goal.loop-i-preserved
loop-i-preserved c =
    let l = c.loop-i in
    let s = c.args.front.now in
    (omega (arith, weighed_turn s l.i), omega (arith, weight_le l.i (get_or s l.i 0) (omega arith) (omega (arith, c.type_inv.front l.i))))

pub returns : goal.returns
returns c =
    let l = c.loop-i in
    let s = c.args.front.now in
    let e : l.i ≡ 510 = omega arith in
    ap (λ (x : ℕ). x % 65521) (l.invariant.0 ∙ ap (weighed s) e) ∙ weighed_all s
