-- The first file follows; a later one does if its concrete machine and its mask are the last.
use Rattle.std.specs.Prelude.{Bool, ℕ, eqb, ◌≡◌}
use Rattle.std.proofs.Common.{sym, ap, ◌∙◌, ne_eqb}
use Rattle.mask.specs.Logic.{and}
use Rattle.machine.specs.Machines.{same_machine}
use Rattle.chain.specs.Walking.{follows}
use Rattle.chain.specs.WalkingLaws.{follows_first, follows_later}
use Rattle.chain.proofs.Walk.follows.Goals as goal
use Rattle.chain.proofs.Walk.follows.Goals.{After-eq}

pub returns-then-self-eq0 : goal.returns-then-self-eq0
returns-then-self-eq0 c = ap (λ (n : ℕ). eqb n 0) c.if-self-eq0.true ∙ sym (follows_first _ _ c.if-self-eq0.true)

-- of a later file
later : (c : After-eq) {b : Bool} → c.eq.result ≡ b → follows c.args.self.now c.args.p.now ≡ and b (eqb c.args.p.now.hidden c.args.self.now.hidden)
unfolding same_machine
later c e = follows_later _ _ (ne_eqb _ _ c.if-self-eq0.false) ∙ ap (λ (b : Bool). and b (eqb c.args.p.now.hidden c.args.self.now.hidden)) (sym c.eq.ensures ∙ e)

pub returns-then-eq : goal.returns-then-eq
unfolding and
returns-then-eq c = sym (later (goal.at.returns-then-eq c).After-eq c.if-eq.true)

pub returns-else-eq : goal.returns-else-eq
unfolding and
returns-else-eq c = c.if-eq.false ∙ sym (later (goal.at.returns-else-eq c).After-eq c.if-eq.false)
