-- The player beside the rule, on numbered lassos.
use Rattle.std.specs.Prelude.{ℕ, ◌+◌, ◌*◌, ◌/◌, ◌%◌, min, Bool, cond, List, length, take, drop, true, ◌==◌, nat_eq, nat_le, slice_index, Ok, Err}
use Rattle.std.specs.Result.{is_ok}
use Rattle.mask.specs.Bounded.{every}
use Rattle.mask.specs.Logic.{and}
use Rattle.machine.specs.declared.Pair.{Pair}
use Rattle.machine.specs.declared.Run.{Run}
use Rattle.machine.specs.Refusals.{Answer}
use Rattle.machine.specs.Machines.{observation, same_observation}
use Rattle.machine.specs.WellFormed.{well_formed}
use Rattle.machine.specs.Lassos.{Lasso, moment, is_play, given}
use Rattle.machine.specs.Player.{place_at, player_answer, player_buffer, play_answer}
use Rattle.brute.specs.Numbers.{states_of}
use Rattle.comparison.specs.declared.tally.Tally.{Tally}
use Rattle.comparison.specs.Answers.{same_answer, same_run}
use Rattle.comparison.specs.Tallies.{total, of_lasso}
use Rattle.comparison.specs.Tables.{zeros}

-- two lassos have the same observations, in the bits that are not hidden, at the first n moments
unfoldable pub same_moments : Pair → Lasso → Lasso → ℕ → Bool
same_moments p l k n = every n (λ t. same_observation p.hidden (observation p.concrete (moment l t)) (observation p.abstraction (moment k t)))

-- the first s + q states of B are the rule's run, and with a stem of s a play of the abstract machine with the lasso's observations, in the
-- bits that are not hidden
unfoldable pub run_fits : Pair → List ℕ → Lasso → List ℕ → ℕ → ℕ → Bool
run_fits p T l B s q =
    let k = given (take s B) (take q (drop s B)) in
    and (nat_le (s + q) (length B))
    (and (and (well_formed p) (every (s + q) (λ t. nat_eq (slice_index B t) (place_at p T l t).state)))
    (and (is_play p.abstraction k) (same_moments p l k (s + q))))

-- if there is a run, that in B fits
unfoldable pub answer_fits : Pair → List ℕ → Lasso → List ℕ → Answer Run → Bool
answer_fits p T l B (Ok r) = run_fits p T l B r.stem r.cycle
answer_fits p T l B (Err r) = true

-- two answers are the same, and the run in B fits if there is one
unfoldable pub lasso_agrees : Pair → List ℕ → Lasso → List ℕ → Answer Run → Answer Run → Bool
lasso_agrees p T l B x y = and (same_answer same_run x y) (answer_fits p T l B x)

-- one lasso, with a buffer of zeros
unfoldable pub lasso_tally : Pair → List ℕ → Lasso → Tally
lasso_tally p T l =
    let v = player_answer p T l zeros in
    of_lasso (is_ok v) (lasso_agrees p T l (player_buffer p T l zeros) v (play_answer p T l))

-- lasso number x of a stem of s states and a loop of q: its states are the digits of x, from 0 to `top`
unfoldable pub numbered_lasso : ℕ → ℕ → ℕ → ℕ → Lasso
numbered_lasso top s q x = given (take s (states_of top x 4)) (take q (drop s (states_of top x 4)))

-- how many numbers n digits have, n up to 2
unfoldable pub power : ℕ → ℕ → ℕ
power base n = cond (n == 0) 1 (cond (n == 1) base (base * base))

-- every lasso with a stem of s states and a loop of q
unfoldable pub shape_tally : Pair → List ℕ → ℕ → ℕ → ℕ → Tally
shape_tally p T top s q = total (power (top + 1) s * power (top + 1) q) (λ x. lasso_tally p T (numbered_lasso top s q x))

-- every lasso with a stem of at most `longest` states, at most 2, and a loop of 0 to 2
unfoldable pub lassos_tally : Pair → List ℕ → ℕ → ℕ → Tally
lassos_tally p T top longest = total (3 * (min longest 2 + 1)) (λ i. shape_tally p T top (i / 3) (i % 3))
