-- Demands 2 and 3 of the tender, what change requests 4 and 5 add to files, what request 1 says of texts, request 6 of turns, request 7 of empty sets, and request 9 of chains of files, over the very definitions that the contracts of reader, writer, check, solver, solver by turns, Hanoi text and walk cite; and request 11 of following a table, over `passes_each` and the definitions of `goalbound`. Each statement is a type with
-- its hypotheses in it, and Theorems.antt gives a proof of each: what is shown of well-formed machines, of machines whose sets all have a state, or of
-- a lent table with room only has `well_formed p ≡ true`, `nonempty_sets p ≡ true`, or `table_room ≤ length T`. `read_answer` and `read_table` are what the reader says and leaves in the lent table, `file_of`
-- is the format's bytes of a show, `write_answer` and `write_buffer` what the writer says and leaves in the lent buffer, `check_verdict` what the check says, `solve_validity` and `solved_table` what the solver says and leaves in the lent table, `restore_answer` and
-- `restore_buffer` what the file solver says and leaves in the lent buffer.
use Rattle.std.specs.Prelude.{Bool, true, false, List, ◌++◌, ◌↔◌, ◌≡◌, ℕ, ◌≤◌, ◌<◌, length, get_or, take, drop, replicate, Err, Ok}
use Rattle.machine.specs.declared.Pair.{Pair}
use Rattle.machine.specs.declared.Refusal.{Refusal}
use Rattle.machine.specs.Refusals.{valid}
use Rattle.machine.specs.Machines.{observation, n_c, n_a, sets_a}
use Rattle.machine.specs.WellFormed.{well_formed, nonempty_sets, nonempty_validity}
use Rattle.machine.specs.EmptySets.{TellsEmptySet, EmptySetIsUnfair, NonemptyHasState}
use Rattle.machine.specs.Lassos.{Lasso, moment, is_play, SameObservations}
use Rattle.machine.specs.Table.{table_room, entry, covers, entries, IsTable}
use Rattle.machine.specs.Ranks.{solver_table}
use Rattle.machine.specs.Lines.{passes_each}
use Rattle.machine.specs.Verdict.{HasStarts, check_verdict}
use Rattle.theory.specs.Figure2.{figure2, FigureGoal}
use Rattle.theory.specs.Statements.{IsRank}
use Rattle.codec.specs.Reader.{taken, header_byte, read_answer, read_table}
use Rattle.codec.specs.Writer.{file_room, write_answer, write_buffer}
use Rattle.codec.specs.Statements.{AreBytes, WriteRead, ReadWrite, WrittenReads, ReadWrites, FirstBlockTellsSize, TakenFits, TakenHidden, StoredTest, StoredMatched, EntriesUnread, BlocksTold, FirstTold, LowestTold, FirstBlock, DamagedTold, MisplacedTold, JoinedTold, ExchangedTold, OverwrittenTold}
use Rattle.soundness.specs.Statements.{CheckUnread, PlayerUnread}
use Rattle.goalbound.specs.Statements.{GoalIsMet, GoalByEntry, EntriesFall, ZeroIsGoal, PartnerIsThere, CanBeFollowed, FairLassoHasStretches, FairLassoMeetsGoal}
use Rattle.restore.specs.Restoring.{restore_answer, restore_buffer}
use Rattle.solver.specs.Solver.{solve_validity, solved_table}
use Rattle.hanoi.specs.Statements.{TextTellsMachine, TextFits, LongestText}
use Rattle.progress.specs.Turns.{first_answer, first_given, turn_answer, turn_family, turn_table, look_up_answer}
use Rattle.progress.specs.Statements.{TurnsFinish, OnlyFinishedWrites, FinishedSettles, StruckOutIsFinal, FinishedTells, FirstIsMatched, SolverIsTurns}
use Rattle.chain.specs.Statements.{ChainIsMatched, CarriedIsChain, ChainIsCarried, WalkIsMatched, EndedStays, EndIsTold}
use Rattle.machine.specs.declared.Verdict.TheVariants.{Carried}

-- ---- demand 2, files
-- "The writer's files read back to what was written": the machines, the note and the table's entries
abbrev pub FilesReadBack : Type 0
FilesReadBack = WriteRead × WrittenReads

-- "and each file that the reader takes is the one that the writer makes from it": ReadWrites is about the writer's call and, by document 02, No. 7,
-- "for machines whose sets all have a state"; ReadWrite is about the format's bytes, for all
abbrev pub FilesAreWritten : Type 0
FilesAreWritten = ReadWrite × ReadWrites

-- "Ours shall know from a file's first block."
abbrev pub FirstBlockIsEnough : Type 0
FirstBlockIsEnough = FirstBlockTellsSize

-- "It takes the first 59,904 bytes of longer input as the file": no file that is taken is longer
abbrev pub TakenIsNotCut : Type 0
TakenIsNotCut = TakenFits

-- "those past n × P are neither read nor changed": check, player and writer do not read them. That the solver does not change them is SolvedRest
-- below, and that the reader does not is in WriteRead.
abbrev pub EntriesAreUnread : Type 0
EntriesAreUnread = CheckUnread × PlayerUnread × EntriesUnread

-- ---- demand 3, first part
-- "Take any file that is read without refusal and holds a table, whoever made it, and let the check say Carried of the machines and the table so
-- read. Then every fair lasso of the rig from a start state has a fair lasso of the score, from a start state, with the same observation at
-- every moment of endless play." Document 02, No. 4: "The matching of plays is then about the bits not hidden."
abbrev pub FilesAreSound : Type 0
FilesAreSound = (f T : List ℕ) (p : Pair) (n : ℕ) → read_answer f T ≡ Ok (taken p true) → check_verdict p (read_table f T) ≡ Ok (Carried n)
    → (l : Lasso) → is_play p.concrete l ≡ true
    → (k : Lasso) × (is_play p.abstraction k ≡ true) × SameObservations p.hidden p.concrete l p.abstraction k

-- Document 02, No. 4: "Stored files have 0 and keep their meaning." The mask that was read is the header's byte after n. Where that byte is 0, test 4
-- is document 01's, and so are the matched pairs; and Carried means what it meant, equal observations at every moment
abbrev pub StoredFilesAreSound : Type 0
StoredFilesAreSound = (f T : List ℕ) (p : Pair) (n : ℕ) → header_byte f 8 ≡ 0 → read_answer f T ≡ Ok (taken p true)
    → check_verdict p (read_table f T) ≡ Ok (Carried n)
    → (l : Lasso) → is_play p.concrete l ≡ true
    → (k : Lasso) × (is_play p.abstraction k ≡ true) × ((t : ℕ) → observation p.concrete (moment l t) ≡ observation p.abstraction (moment k t))

abbrev pub StoredFilesKeepMeaning : Type 0
StoredFilesKeepMeaning = TakenHidden × StoredTest × StoredMatched × StoredFilesAreSound

-- Document 02, No. 5: "From now on 3 and 7 mean a wrong check only. A misplaced block tells its place and the number found in it." What the reader's
-- 3, 7 and 19 mean, and when they are said; that refusals up to 6, and 19 of block 0, rest on the first block and the length alone; and which of the
-- three is told of damaged and of badly joined copies of a file that the reader takes
abbrev pub BlocksAreTold : Type 0
BlocksAreTold = BlocksTold × FirstTold × LowestTold × FirstBlock

abbrev pub BadCopiesAreTold : Type 0
BadCopiesAreTold = DamagedTold × MisplacedTold × JoinedTold × ExchangedTold × OverwrittenTold

-- "a lost table must be replaceable": of every file that is read without refusal, whatever its table, and whose machines' sets all have a state, the
-- file solver writes a file that is read without refusal, as the same machines under the same hidden mask with the solver's entries
pub record Replaced (f buffer lent : List ℕ) (p : Pair) : Type 0 where
  pub size : ℕ
  pub answers : restore_answer f buffer ≡ Ok size
  pub machines : read_answer (take size (restore_buffer f buffer)) lent ≡ Ok (taken p true)
  pub table : read_table (take size (restore_buffer f buffer)) lent ≡ solver_table p ++ drop (entries p) lent

abbrev pub LostTableIsReplaced : Type 0
LostTableIsReplaced = (f first : List ℕ) (p : Pair) (note : Bool) → AreBytes f → read_answer f first ≡ Ok (taken p note) → nonempty_sets p ≡ true
    → (buffer lent : List ℕ) → file_room ≤ length buffer → table_room ≤ length lent → Replaced f buffer lent p

-- ---- Document 02, No. 7: "Solver, .. and writer no longer take an empty set in either machine." Of machines that are well formed and have one, and
-- of buffers with room, solver and writer say 21 with its spot and leave the lent buffer as it was, and so does the file solver of a file that is
-- read without refusal
abbrev pub SolverRefusesEmpty : Type 0
SolverRefusesEmpty = (p : Pair) (T : List ℕ) → well_formed p ≡ true → nonempty_sets p ≡ false → table_room ≤ length T
    → (r : Refusal) × TellsEmptySet p r × (solve_validity p (length T) ≡ Err r) × (solved_table p T ≡ T)

abbrev pub WriterRefusesEmpty : Type 0
WriterRefusesEmpty = (p : Pair) (note : Bool) (T buffer : List ℕ) → well_formed p ≡ true → nonempty_sets p ≡ false → table_room ≤ length T → file_room ≤ length buffer
    → (r : Refusal) × TellsEmptySet p r × (write_answer p note T buffer ≡ Err r) × (write_buffer p note T buffer ≡ buffer)

abbrev pub FileSolverRefusesEmpty : Type 0
FileSolverRefusesEmpty = (f first : List ℕ) (p : Pair) (note : Bool) → read_answer f first ≡ Ok (taken p note) → nonempty_sets p ≡ false
    → (buffer : List ℕ) → file_room ≤ length buffer
    → (r : Refusal) × TellsEmptySet p r × (restore_answer f buffer ≡ Err r) × (restore_buffer f buffer ≡ buffer)

-- and so do the calls of the solver by turns, of any family, section and states: the family comes back as it was; the first call gives none, and
-- lists of turns begin with zeros
abbrev pub TurnsRefuseEmpty : Type 0
TurnsRefuseEmpty = (p : Pair) (F T : List ℕ) (j c a : ℕ) → well_formed p ≡ true → nonempty_sets p ≡ false → table_room ≤ length T
    → (r : Refusal) × TellsEmptySet p r × ((first_answer p ≡ Err r) × (nonempty_validity p ≡ Err r) × (first_given p ≡ replicate 448 0))
    × ((turn_answer p F (length T) ≡ Err r) × (turn_family p F (length T) ≡ F) × (turn_table p F T ≡ T)) × (look_up_answer p F j c a ≡ Err r)

abbrev pub EmptySetsAreRefused : Type 0
EmptySetsAreRefused = SolverRefusesEmpty × WriterRefusesEmpty × FileSolverRefusesEmpty × TurnsRefuseEmpty

-- what an empty set means, "no play of it counts", and what it means that there is none
abbrev pub EmptySetMeans : Type 0
EmptySetMeans = EmptySetIsUnfair × NonemptyHasState

-- ---- Document 02, No. 1: "Two well-formed machines have the same text only if they are the same machine"; the text of every well-formed machine fits, and
-- the greatest length there is
abbrev pub TextsOfMachines : Type 0
TextsOfMachines = TextTellsMachine × TextFits × LongestText

-- ---- Document 02, No. 6: what is said of every list of turns from the first over the same machines, and that the solver is turns until one is finished
abbrev pub TurnsAreSolver : Type 0
TurnsAreSolver = (p : Pair) → TurnsFinish p × OnlyFinishedWrites p × FinishedSettles p × StruckOutIsFinal p × FinishedTells p × FirstIsMatched p × SolverIsTurns p

-- ---- Document 02, No. 9: what is said of every list of files, that a walk tells chains of at most sixteen, and that an ended walk's answer stays
abbrev pub ChainsAreMatched : Type 0
ChainsAreMatched = ChainIsMatched × CarriedIsChain × ChainIsCarried × WalkIsMatched × EndedStays × EndIsTold

-- ---- Document 02, No. 11: how soon a goal is met by moves that follow a table that passes each line, whoever made it; that such moves exist, and that fair
-- lassos have the stretches
abbrev pub GoalsAreMet : Type 0
GoalsAreMet = GoalIsMet × GoalByEntry × EntriesFall × ZeroIsGoal × PartnerIsThere × CanBeFollowed × FairLassoHasStretches × FairLassoMeetsGoal

-- ---- demand 3, second part: "any two well-formed machines, from a file or not", by document 02, No. 7, "machines whose sets all have a state", and any
-- lent table that has room
module _ (p : Pair) (T : List ℕ) where
  -- the solver takes them: its answer is no refusal
  abbrev pub SolverTakesMachines : Type 0
  SolverTakesMachines = well_formed p ≡ true → nonempty_sets p ≡ true → table_room ≤ length T → solve_validity p (length T) ≡ valid

  -- "The table that the solver writes for them, which is document 01's ranks, passes each line of document 01."
  abbrev pub SolvedPasses : Type 0
  SolvedPasses = well_formed p ≡ true → nonempty_sets p ≡ true → table_room ≤ length T → passes_each p (solved_table p T) ≡ true

  -- "Whatever other table of these machines passes each line, the solver's covers, section by section, every pair that the other covers."
  -- R is here any list, of any length
  abbrev pub SolvedCovers : Type 0
  SolvedCovers = well_formed p ≡ true → nonempty_sets p ≡ true → table_room ≤ length T → (R : List ℕ) → passes_each p R ≡ true
      → (j c a : ℕ) → j < sets_a p → c < n_c p → a < n_a p → covers p R j c a ≡ true → covers p (solved_table p T) j c a ≡ true

  -- "the check says Carried of the solver's table exactly when some table of these machines passes each line and has, for each rig start state, a
  -- score start state with the pair non-blank in section 1"
  abbrev pub SolvedIsCarried : Type 0
  SolvedIsCarried = well_formed p ≡ true → nonempty_sets p ≡ true → table_room ≤ length T
      → ((n : ℕ) × (check_verdict p (solved_table p T) ≡ Ok (Carried n))) ↔ ((R : List ℕ) × IsTable p R × (passes_each p R ≡ true) × HasStarts p R)

  -- ---- demand 2: "Entry by entry, the solver's table is the triply nested fixpoint .., read as ranks by document 01", over that formula itself
  -- a pair is not blank in a section exactly if it is in document 000's figure 2 there
  abbrev pub SolvedIsFigure2 : Type 0
  SolvedIsFigure2 = well_formed p ≡ true → nonempty_sets p ≡ true → table_room ≤ length T → (j c a : ℕ) → j < sets_a p → c < n_c p → a < n_a p
      → (covers p (solved_table p T) j c a ≡ true) ↔ figure2 p j c a

  -- "0 for a goal"
  abbrev pub SolvedGoals : Type 0
  SolvedGoals = well_formed p ≡ true → nonempty_sets p ≡ true → table_room ≤ length T → (j c a : ℕ) → j < sets_a p → c < n_c p → a < n_a p
      → (entry p (solved_table p T) j c a ≡ 0) ↔ FigureGoal p j c a

  -- "else r = (l − 1) × m + k with the least l, then the least k, that has the pair in X(l, k)", k counted from 0 here
  abbrev pub SolvedRanks : Type 0
  SolvedRanks = well_formed p ≡ true → nonempty_sets p ≡ true → table_room ≤ length T → (j c a : ℕ) → j < sets_a p → c < n_c p → a < n_a p
      → figure2 p j c a → (FigureGoal p j c a → ⊥) → (l : ℕ) × (k : ℕ) × IsRank p j c a (entry p (solved_table p T) j c a) l k

  -- entries past n × P are as they were, of whatever machines
  abbrev pub SolvedRest : Type 0
  SolvedRest = (e : ℕ) → entries p ≤ e → get_or (solved_table p T) e 0 ≡ get_or T e 0
