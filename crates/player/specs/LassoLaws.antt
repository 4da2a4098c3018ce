-- Laws of a lasso's states and moves, as the code asks for them.
use Rattle.std.specs.Prelude.{false, ◌≡◌, ℕ, suc, ◌-◌, ◌≤◌, ◌<◌, length, get_or}
use Rattle.std.proofs.Common.{sym, ap, ◌∙◌, arith}
use Rattle.std.proofs.Math.ListN.{get_or-eq_default}
use Rattle.mask.specs.BitsLaws.{has_none}
use Rattle.machine.specs.declared.Machine.{Machine}
use Rattle.machine.specs.Machines.{successors, moves}
use Rattle.machine.specs.Lassos.{Lasso, lasso_length, moment}
use Rattle.machine.specs.LassosLaws.{moment_loop}
use Rattle.soundness.specs.PlayLaws.{moment_again}

-- ---- states and moves
-- the state at a position of the loop
pub moment_cycle : (l : Lasso) (i : ℕ) → length l.stem ≤ i → i < lasso_length l → get_or l.loop (i - length l.stem) 0 ≡ moment l i
moment_cycle l i h k = sym (moment_loop l (i - length l.stem) (omega arith)) ∙ ap (moment l) (omega arith)

-- after the loop's last state comes its first
pub moment_closing : (l : Lasso) (i : ℕ) → suc i ≡ lasso_length l → moment l (suc i) ≡ moment l (length l.stem)
moment_closing l i e = ap (moment l) e ∙ moment_again l (length l.stem) (omega arith)

-- a state past the machine's entries has no successor
pub moves_past : (m : Machine) (s t : ℕ) → length m.successors ≤ s → moves m s t ≡ false
unfolding moves successors
moves_past m s t h = rw (get_or-eq_default m.successors 0 h) (has_none t)
