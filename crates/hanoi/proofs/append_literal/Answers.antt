-- The word by the bit, and the digits behind it.
use mathlib.Core.Path.{◌≡◌, sym, ap, ◌∙◌}
use Rattle.std.proofs.Common.{Bool, Bor, List, ℕ, cond, ◌++◌, take}
use Rattle.mask.specs.Bits.{has_bit}
use Rattle.text.specs.Decimal.{decimal}
use Rattle.text.specs.AppendLaws.{cut_two}
use Rattle.hanoi.proofs.append_literal.Goals as goal
use Rattle.hanoi.proofs.append_literal.Goals.{then-has, else-has}

pub returns : goal.returns
returns c =
    let x = c.args in
    let bit : (b : Bool) → c.has.result ≡ b → cond b x.one.now x.zero.now ≡ cond (has_bit x.o x.i) x.one.now x.zero.now =
    λ b e. ap (λ (b : Bool). cond b x.one.now x.zero.now) (sym e ∙ c.has.ensures) in
    let word : c.if-has.append.now ≡ cond (has_bit x.o x.i) x.one.now x.zero.now = elim c.if-has.branch [
      | then-has w ↦ ap (λ (b : Bor (List ℕ)). b.now) w.append-is ∙ bit _ w.if-has.true
      | else-has w ↦ ap (λ (b : Bor (List ℕ)). b.now) w.append-is ∙ bit _ w.if-has.false
    ] in
    c.append_number.ensures ∙ ap (λ (l : List ℕ). take 20000 (l ++ decimal x.i)) c.append.ensures
    ∙ cut_two 20000 x.text.now.items c.if-has.append.now (decimal x.i) ∙ ap (λ (w : List ℕ). take 20000 (x.text.now.items ++ (w ++ decimal x.i))) word
