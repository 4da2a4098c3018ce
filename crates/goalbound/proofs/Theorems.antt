-- The statements' proofs.
use Rattle.std.specs.Prelude.{List, ℕ, ◌≤◌}
use Rattle.std.proofs.Common.{arith}
use Rattle.machine.specs.declared.Pair.{Pair}
use Rattle.machine.specs.WellFormedLaws.{well_pair}
use Rattle.soundness.specs.AnswerLaws.{passing_at}
use Rattle.goalbound.specs.Following.{MeetsGoal}
use Rattle.goalbound.specs.Statements.{GoalIsMet, GoalByEntry, EntriesFall, ZeroIsGoal, PartnerIsThere, CanBeFollowed}
use Rattle.goalbound.specs.Statements.{FairLassoHasStretches, FairLassoMeetsGoal}
use Rattle.goalbound.proofs.StretchLaws.{round_cut, cut_low, along_cut, lasso_stretches}
use Rattle.goalbound.proofs.FollowingLaws.{pair_here, partner_answers, zero_goal, follows_covered, follows_partner, goal_met, followed}

pub goal_by_entry : GoalByEntry
goal_by_entry p T well passing j hj rig score f cut h = goal_met p T (well_pair p well) passing j hj rig score f _ cut h (omega arith)

-- the first pair's entry passes, so it is at most m × P
pub goal_is_met : GoalIsMet
goal_is_met p T well passing j hj rig score f cut h =
    let w = well_pair p well in
    let first = follows_covered p T w passing j hj rig score f 0 f.rig_moves.some_state (λ i l. absurd (omega arith)) in
    goal_met p T w passing j hj rig score f _ cut h (passing_at p T w passing _ _ (f.rig_moves.bound 0 f.rig_moves.some_state) first).bounded

pub entries_fall : EntriesFall
entries_fall p T well passing j hj c a d b hc ha hd t z m x =
    let w = well_pair p well in
    let q = partner_answers p T w passing j hj c a d hc (pair_here p T w passing j hj c a ha t) hd m z b x in
    record { covered = q.again.covered; stays = q.stays z; falls = q.falls z }

pub zero_is_goal : ZeroIsGoal
zero_is_goal p T well passing j hj = zero_goal p T (well_pair p well) passing j hj

pub partner_is_there : PartnerIsThere
partner_is_there p T well passing j hj = follows_partner p T (well_pair p well) passing j hj

pub can_be_followed : CanBeFollowed
can_be_followed p T well passing j hj = followed p T (well_pair p well) passing j hj

pub fair_lasso_has_stretches : FairLassoHasStretches
fair_lasso_has_stretches = lasso_stretches

-- a later moment will do
sooner : {p : Pair} {T : List ℕ} {j : ℕ} {rig score : List ℕ} {n m : ℕ} → MeetsGoal p T j rig score n → n ≤ m → MeetsGoal p T j rig score m
sooner q h = record { when = q.when; listed = q.listed; soon = omega (arith, q.soon, h); before = q.before; goal = q.goal }

pub fair_lasso_meets_goal : FairLassoMeetsGoal
fair_lasso_meets_goal p T well passing j hj l h fair rig score f along long =
    sooner (goal_by_entry p T well passing j hj rig score f (round_cut l) (along_cut l p.concrete h fair _ rig along long)) (cut_low l _)
