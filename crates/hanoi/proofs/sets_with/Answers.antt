use Rattle.std.proofs.Common.{◌≡◌, ◌∙◌, ℕ, ap, arith, rules, tests, get_or, min}
use Rattle.mask.specs.Bits.{has_bit}
use Rattle.mask.specs.Tables.{mask_of}
use Rattle.hanoi.specs.Parts.{sets_mask}
use Rattle.hanoi.proofs.sets_with.Goals as goal

pub returns : goal.returns
unfolding sets_mask
returns c =
    let x = c.args in
    let few : min x.k 64 ≡ x.k = omega (arith, c.requires) in
    let made = c.those.ensures _ (search (rules, tests)) ∙ ap (λ (n : ℕ). mask_of n (λ j. has_bit (get_or x.fairness.now j 0) x.s)) few in
    omega (arith, made)
