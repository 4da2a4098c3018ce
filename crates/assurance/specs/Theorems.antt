-- A proof of each statement of demands 2 and 3, by name.
use Rattle.std.specs.Prelude.{true, List, ◌++◌, ◌≡◌, ℕ, ◌+◌, ◌-◌, ◌≤◌, ◌<◌, take, drop, Err, Ok}
use Rattle.std.proofs.Math.Path.{refl}
use Rattle.std.proofs.Common.{sym, ap, subst, ◌∙◌, arith, get_or-append-add, take_at}
use Rattle.std.proofs.Math.ListN.{length, get_or}
use Rattle.std.proofs.Math.Seq.{get_or-drop}
use Rattle.mask.specs.Tables.{table}
use Rattle.mask.specs.TablesLaws.{fill_done}
use Rattle.machine.specs.declared.Pair.{Pair}
use Rattle.machine.specs.Refusals.{buffer_after, Answer}
use Rattle.machine.specs.RefusalsLaws.{then_refused, buffer_kept}
use Rattle.machine.specs.Machines.{n_c, n_a, sets_a}
use Rattle.machine.specs.WellFormed.{well_formed, nonempty_sets}
use Rattle.machine.specs.WellFormedLaws.{well_pair}
use Rattle.machine.specs.EmptySetsLaws.{empty_set_told_lem, empty_set_is_unfair, nonempty_has_state}
use Rattle.machine.specs.Ranks.{rank, solver_table}
use Rattle.machine.specs.Table.{table_room, entry, entries}
use Rattle.machine.specs.LinesLaws.{covers_at, covers_of}
use Rattle.machine.specs.Verdict.{lines_verdict, check_verdict}
use Rattle.machine.specs.VerdictLaws.{check_lines, check_said}
use Rattle.machine.specs.EntriesLaws.{entry_same, covers_same, each_same, verdict_same}
use Rattle.theory.specs.RankLaws.{table_entries, table_is}
use Rattle.theory.proofs.RankTheorems.{rank_is_goal, rank_is_figure2, rank_is_least, table_holds_ranks, solver_table_passes, solver_table_covers, carried_exactly}
use Rattle.machine.specs.Lassos.{SameObservations}
use Rattle.soundness.specs.PlayLaws.{observations_zero}
use Rattle.soundness.specs.Theorems.{carried_is_sound, check_unread, player_unread}
use Rattle.goalbound.proofs.Theorems.{goal_is_met, goal_by_entry, entries_fall, zero_is_goal, partner_is_there, can_be_followed, fair_lasso_has_stretches, fair_lasso_meets_goal}
use Rattle.codec.specs.Format.{file_of}
use Rattle.codec.specs.Writer.{write_answer, write_buffer}
use Rattle.codec.specs.WriterLaws.{with_room}
use Rattle.codec.proofs.FileLaws.{write_read, read_write, written_reads, read_writes, first_block, first_block_tells_size, entries_unread, taken_fits, taken_hidden, stored_test, stored_matched, taken_representable, Was, was_taken, was_well}
use Rattle.codec.proofs.PlacesLaws.{blocks_told, first_told, lowest_told, damaged_told, misplaced_told, joined_told, exchanged_told, overwritten_told}
use Rattle.solver.specs.Solver.{solve_validity, solved_table}
use Rattle.solver.specs.SolverLaws.{solve_long, solved_refused}
use Rattle.solver.specs.SolvedLaws.{solve_takes, solved_same, solved_room}
use Rattle.progress.specs.TurnsLaws.{first_given_zeros, first_refused, turn_refused, looked_stopped}
use Rattle.hanoi.proofs.Theorems.{text_tells_machine, text_fits, longest_text}
use Rattle.progress.specs.Theorems.{turns_finish, only_finished_writes, finished_settles, struck_out_is_final, finished_tells, first_is_matched, solver_is_turns}
use Rattle.restore.specs.Restoring.{restored, restore_buffer}
use Rattle.restore.specs.RestoringLaws.{restore_valid, restore_made, restore_empty}
use Rattle.chain.specs.Theorems.{chain_is_matched, carried_is_chain, chain_is_carried, walk_is_matched, ended_stays, end_is_told}
use Rattle.assurance.specs.Statements.{ChainsAreMatched, GoalsAreMet, FilesReadBack, FilesAreWritten, FirstBlockIsEnough, TakenIsNotCut, EntriesAreUnread, FilesAreSound, StoredFilesAreSound, StoredFilesKeepMeaning, BlocksAreTold, BadCopiesAreTold, LostTableIsReplaced, SolverRefusesEmpty, WriterRefusesEmpty, FileSolverRefusesEmpty, TurnsRefuseEmpty, EmptySetsAreRefused, EmptySetMeans, TurnsAreSolver, TextsOfMachines}
use Rattle.assurance.specs.Statements.{SolverTakesMachines, SolvedPasses, SolvedCovers, SolvedIsCarried, SolvedIsFigure2, SolvedGoals, SolvedRanks, SolvedRest}
use Rattle.machine.specs.declared.Verdict.TheVariants.{Carried}

pub files_read_back : FilesReadBack
files_read_back = (write_read, written_reads)

pub files_are_written : FilesAreWritten
files_are_written = (read_write, read_writes)

pub first_block_is_enough : FirstBlockIsEnough
first_block_is_enough = first_block_tells_size

pub taken_is_not_cut : TakenIsNotCut
taken_is_not_cut = taken_fits

pub entries_are_unread : EntriesAreUnread
entries_are_unread = (check_unread, player_unread, entries_unread)

pub files_are_sound : FilesAreSound
files_are_sound f T p n taken said = carried_is_sound p _ n (check_said p _ (Carried n) said)

-- the mask is 0, and with mask 0 the bytes are equal
pub stored_files_are_sound : StoredFilesAreSound
stored_files_are_sound f T p n z e said l h =
    let m = files_are_sound f T p n e said l h in
    let none : p.hidden ≡ 0 = taken_hidden f T p true e ∙ z in
    let same : SameObservations 0 p.concrete l p.abstraction m.0 = subst (λ (x : ℕ). SameObservations x p.concrete l p.abstraction m.0) none m.2 in
    (m.0, m.1, observations_zero p.concrete l p.abstraction m.0 same)

pub stored_files_keep_meaning : StoredFilesKeepMeaning
stored_files_keep_meaning = (taken_hidden, stored_test, stored_matched, stored_files_are_sound)

pub blocks_are_told : BlocksAreTold
blocks_are_told = (blocks_told, first_told, lowest_told, first_block)

pub bad_copies_are_told : BadCopiesAreTold
bad_copies_are_told = (damaged_told, misplaced_told, joined_told, exchanged_told, overwritten_told)

-- the new file is that of the same machines with the solver's table, and what is written reads back
pub lost_table_is_replaced : LostTableIsReplaced
unfolding restored
lost_table_is_replaced f first p note bytes e nonempty buffer lent room long =
    let w = was_taken f first p note e in
    let made = restore_made f buffer (restore_valid f buffer room w nonempty) in
    let size = length (restored f) in
    let back = write_read p true (solver_table p) lent (taken_representable f first p note bytes e) (was_well w) (table_is p (well_pair p (was_well w))).1 long in
    let cut : take size (restore_buffer f buffer) ≡ file_of p true (solver_table p) =
    ap (take size) made.1 ∙ take_at (restored f) (drop size buffer) size refl ∙ file w in
    let own : solver_table p ≡ table (entries p) (λ e. get_or (solver_table p) e 0) =
    fill_done 0 (entries p) (solver_table p) _ (table_entries p) (λ k h. refl) in
    record {
      size = size;
      answers = made.0;
      machines = rw cut back.0;
      table = rw cut back.1 ∙ ap (λ (l : List ℕ). l ++ drop (entries p) lent) (sym own);
    }
  where
    file : Was f first p note → restored f ≡ file_of p true (solver_table p)
    file w = ap (λ (q : Pair). file_of q true (solver_table q)) w.pair_is

pub solver_takes_machines : (p : Pair) (T : List ℕ) → SolverTakesMachines p T
solver_takes_machines p T well nonempty room = solve_takes p T well nonempty room

-- ---- empty sets
solver_refuses_empty : SolverRefusesEmpty
solver_refuses_empty p T well empty room =
    let told = empty_set_told_lem p well empty in
    let e = solve_long p (length T) room ∙ told.1 in
    (told.0, told.2, e, sym (solved_refused p T told.0 e))

writer_refuses_empty : WriterRefusesEmpty
unfolding write_answer write_buffer
writer_refuses_empty p note T buffer well empty room long =
    let told = empty_set_told_lem p well empty in
    let e = with_room p (length T) (length buffer) room long ∙ told.1 in
    (told.0, told.2, then_refused _ _ _ e, buffer_kept _ _ buffer e)

file_solver_refuses_empty : FileSolverRefusesEmpty
file_solver_refuses_empty f first p note e empty buffer room =
    let w = was_taken f first p note e in
    let told = empty_set_told_lem p (was_well w) empty in
    let both = restore_empty f buffer room w told.1 in
    (told.0, told.2, both.0, both.1)

turns_refuse_empty : TurnsRefuseEmpty
turns_refuse_empty p F T j c a well empty room =
    let told = empty_set_told_lem p well empty in
    let turn = turn_refused p F T (solve_long p (length T) room ∙ told.1) in
    (told.0, told.2, (first_refused p told.1, told.1, first_given_zeros p told.1), turn, looked_stopped p j c a F told.1)

pub empty_sets_are_refused : EmptySetsAreRefused
empty_sets_are_refused = (solver_refuses_empty, writer_refuses_empty, file_solver_refuses_empty, turns_refuse_empty)

-- ---- texts
pub texts_of_machines : TextsOfMachines
texts_of_machines = (text_tells_machine, text_fits, longest_text)

-- ---- the solver by turns
pub turns_are_solver : TurnsAreSolver
turns_are_solver p =
    (turns_finish p, only_finished_writes p, finished_settles p, struck_out_is_final p, finished_tells p, first_is_matched p, solver_is_turns p)

-- ---- chains of files
pub chains_are_matched : ChainsAreMatched
chains_are_matched = (chain_is_matched, carried_is_chain, chain_is_carried, walk_is_matched, ended_stays, end_is_told)

-- ---- how soon a goal is met
pub goals_are_met : GoalsAreMet
goals_are_met = (goal_is_met, goal_by_entry, entries_fall, zero_is_goal, partner_is_there, can_be_followed, fair_lasso_has_stretches, fair_lasso_meets_goal)

pub empty_set_means : EmptySetMeans
empty_set_means = (empty_set_is_unfair, nonempty_has_state)

-- ---- what the solver leaves in a table with room, of well-formed machines whose sets all have a state
module _ (p : Pair) (T : List ℕ) (well : well_formed p ≡ true) (nonempty : nonempty_sets p ≡ true) (room : table_room ≤ length T) where
  said_same : check_verdict p (solved_table p T) ≡ lines_verdict p (solver_table p)
  said_same = check_lines p _ (solved_room p T well nonempty room) ∙ verdict_same p _ _ (solved_same p T well nonempty room)

  entry_rank : (j c a : ℕ) → j < sets_a p → c < n_c p → a < n_a p → entry p (solved_table p T) j c a ≡ rank p j c a
  entry_rank j c a hj hc ha = entry_same p _ _ (solved_same p T well nonempty room) j c a hj hc ha ∙ table_holds_ranks p j c a hj hc ha

module _ (p : Pair) (T : List ℕ) where
  pub solved_passes : SolvedPasses p T
  solved_passes well nonempty room = each_same p _ _ (solved_same p T well nonempty room) ∙ solver_table_passes p well

  pub solved_covers : SolvedCovers p T
  solved_covers well nonempty room R t j c a hj hc ha u = covers_same p _ _ (solved_same p T well nonempty room) j c a hj hc ha ∙ solver_table_covers p well R t j c a hj hc ha u

  pub solved_is_carried : SolvedIsCarried p T
  solved_is_carried well nonempty room = rw (said_same p T well nonempty room) (carried_exactly p well)

  pub solved_is_figure2 : SolvedIsFigure2 p T
  solved_is_figure2 well nonempty room j c a hj hc ha =
      let f = (rank_is_figure2 p well j c a hj hc ha).0 in
      let e = entry_rank p T well nonempty room j c a hj hc ha in
      (λ t. f.0 (λ b. covers_at p (solved_table p T) j c a t (e ∙ b)), λ t. covers_of p (solved_table p T) j c a (λ b. f.1 t (sym e ∙ b)))

  pub solved_goals : SolvedGoals p T
  solved_goals well nonempty room j c a hj hc ha = rw (entry_rank p T well nonempty room j c a hj hc ha) (rank_is_goal p j c a hj hc ha)

  pub solved_ranks : SolvedRanks p T
  solved_ranks well nonempty room j c a hj hc ha t g = rw (entry_rank p T well nonempty room j c a hj hc ha) (rank_is_least p j c a hj hc ha t g)

  pub solved_rest : SolvedRest p T
  unfolding solved_table buffer_after
  solved_rest e h = rest (solve_validity p (length T))
    where
      rest : {A : Type 0} (v : Answer A) → get_or (buffer_after v (solver_table p) T) e 0 ≡ get_or T e 0
      rest (Err r) = refl
      rest (Ok a) =
          let k : length (solver_table p) + (e - entries p) ≡ e = omega (arith, table_entries p) in
          rw k at (get_or-append-add (solver_table p) (drop (length (solver_table p)) T) (e - entries p) 0 ∙ get_or-drop (length (solver_table p)) T (e - entries p) 0)
