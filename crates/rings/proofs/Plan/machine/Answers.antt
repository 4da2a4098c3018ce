-- Each array is a table of what the states have.
use Rattle.std.proofs.Common.{◌≡◌, cond, ltb, rules, tests}
use Rattle.mask.specs.Tables.{table}
use Rattle.rings.specs.Rings.{ring_machine, ring_state}
use Rattle.mask.proofs.MadeLaws.{made_table}
use Rattle.rings.proofs.Plan.machine.Goals as goal

pub returns : goal.returns
unfolding ring_machine
returns c =
    let x = c.args in
    let observations : c.from_fn.result ≡ table 64 (λ s. (ring_state x.self.kind x.self.family x.self.rings s).observation) = made_table c.from_fn.ensures.items (search (rules, tests)) in
    let successors : c.from_fn-2.result ≡ table 64 (λ s. (ring_state x.self.kind x.self.family x.self.rings s).successors) = made_table c.from_fn-2.ensures.items (search (rules, tests)) in
    let fairness : c.from_fn-3.result ≡ table 8 (λ k. cond (ltb k x.self.rings.sets) c.fair_states-fair.result 0) = made_table c.from_fn-3.ensures.items (search (rules, tests)) in
    rw (observations, successors, fairness, c.states.ensures, c.start_states.ensures, c.fair_states-fair.ensures)
