-- Laws of a show with the solver's table: by what reader and solver say, what is answered and what is left in the buffer.
use Rattle.std.specs.Prelude.{Bool, ◌≡◌, ℕ, ◌≤◌, ◌<◌, replicate, Err, Ok}
use Rattle.std.proofs.Math.Bool.{true}
use mathlib.Core.List.{List, ◌++◌}
use Rattle.std.proofs.Math.Path.{sym, ap}
use Rattle.std.proofs.Common.{◌∙◌, arith}
use Rattle.std.proofs.Math.ListN.{length, get_or, drop}
use Rattle.std.proofs.lemmas.List.{length-replicate}
use Rattle.machine.specs.declared.Pair.{Pair}
use Rattle.machine.specs.declared.Refusal.{Refusal}
use Rattle.machine.specs.Refusals.{valid, and_then, buffer_validity}
use Rattle.machine.specs.RefusalsLaws.{then_of, then_refused, then_answer, given_at, given_refused, buffer_valid, buffer_short, buffer_room, buffer_made, buffer_kept}
use Rattle.machine.specs.WellFormed.{nonempty_validity, nonempty_sets}
use Rattle.machine.specs.EmptySetsLaws.{nonempty_valid, nonempty_at}
use Rattle.machine.specs.Ranks.{solver_table}
use Rattle.machine.specs.Table.{table_room}
use Rattle.codec.specs.declared.Show.{Show}
use Rattle.codec.specs.Format.{file_of}
use Rattle.codec.specs.FormatLaws.{file_length_lem, file_cong}
use Rattle.codec.specs.Reader.{note_of, pair_of, read_validity, read_answer, read_table}
use Rattle.codec.specs.Writer.{file_room, write_answer, write_buffer}
use Rattle.codec.specs.WriterLaws.{with_room, answer_small}
use Rattle.codec.specs.Answers.{read_of}
use Rattle.codec.specs.AnswersLaws.{read_taken, read_refused}
use Rattle.codec.proofs.FileLaws.{Was, was_taken, was_long, was_well, write_answers}
use Rattle.solver.specs.Solver.{solve_validity, solved_table}
use Rattle.solver.specs.SolverLaws.{solve_long}
use Rattle.solver.specs.SolvedLaws.{solved_same, solved_room}
use Rattle.restore.specs.Restoring.{restored, restore_validity, restore_answer, restore_buffer}
use Rattle.machine.specs.declared.Refusal.TheVariants.{ShortBuffer}

-- ---- the tests decide the answer and the buffer
module _ (f buffer : List ℕ) where
  stopped : (r : Refusal) → restore_validity f (length buffer) ≡ Err r → (restore_answer f buffer ≡ Err r) × (restore_buffer f buffer ≡ buffer)
  unfolding restore_answer restore_buffer
  stopped r e = (then_refused _ _ r e, buffer_kept _ _ buffer e)

  pub restore_short : length buffer < file_room → (restore_answer f buffer ≡ Err ShortBuffer) × (restore_buffer f buffer ≡ buffer)
  unfolding restore_validity
  restore_short h = stopped _ (then_refused _ _ _ (buffer_short file_room (length buffer) h))

  pub restore_made : restore_validity f (length buffer) ≡ valid
      → (restore_answer f buffer ≡ Ok (length (restored f))) × (restore_buffer f buffer ≡ restored f ++ drop (length (restored f)) buffer)
  unfolding restore_answer restore_buffer
  restore_made e = (then_of _ _ e, buffer_made _ _ buffer e)

  module _ (room : file_room ≤ length buffer) where
    -- the reader is lent a table of exactly the room that it asks for
    read_tests : restore_validity f (length buffer) ≡ and_then (read_validity f (length (replicate {A = ℕ} table_room 0))) (solve_validity (pair_of f) table_room)
    unfolding restore_validity
    read_tests =
        then_of _ _ (buffer_valid file_room (length buffer) room)
        ∙ ap (λ (n : ℕ). and_then (read_validity f n) (solve_validity (pair_of f) table_room)) (sym (length-replicate {A = ℕ} table_room 0))

    -- whatever was lent to a reader that took the file, the machines' sets are left to be tested
    solve_tests : {lent : List ℕ} {p : Pair} {note : Bool} → Was f lent p note → restore_validity f (length buffer) ≡ nonempty_validity p
    unfolding restore_validity read_validity
    solve_tests w =
        let read = then_of _ _ (buffer_valid table_room table_room (omega arith)) ∙ then_of _ _ w.start ∙ then_of _ _ w.blocks ∙ w.machines in
        then_of _ _ (buffer_valid file_room (length buffer) room) ∙ then_of _ _ read ∙ solve_long (pair_of f) table_room (omega arith)
        ∙ ap nonempty_validity w.pair_is

    -- where they all have a state nothing is refused
    pub restore_valid : {lent : List ℕ} {p : Pair} {note : Bool} → Was f lent p note → nonempty_sets p ≡ true → restore_validity f (length buffer) ≡ valid
    restore_valid {p = p} w nonempty = solve_tests w ∙ nonempty_valid p (was_well w) nonempty

    -- and what is refused of the machines is what the file solver says
    pub restore_empty : {lent : List ℕ} {p : Pair} {note : Bool} {r : Refusal} → Was f lent p note → nonempty_validity p ≡ Err r
        → (restore_answer f buffer ≡ Err r) × (restore_buffer f buffer ≡ buffer)
    restore_empty w e = stopped _ (solve_tests w ∙ e)

    -- ---- by what was read
    module _ (s : Show) (T : List ℕ) (read : read_of s ≡ read_answer f (replicate table_room 0)) (left : T ≡ read_table f (replicate table_room 0)) where
      pub restore_refused : (r : Refusal) → s.reading ≡ Err r → (restore_answer f buffer ≡ Err r) × (restore_buffer f buffer ≡ buffer)
      unfolding read_answer
      restore_refused r e = stopped r (read_tests ∙ then_refused _ _ r (given_refused _ _ (read_refused s read e)))

      -- of a file that was taken, by what the solver said
      module _ (note : Bool) (e : s.reading ≡ Ok note) where
        was : Was f (replicate table_room 0) s.pair note
        was = was_taken f (replicate table_room 0) s.pair note (read_taken s read e)

        long : table_room ≤ length T
        long = rw left (was_long was)

        pub restore_unsolved : (r : Refusal) → solve_validity s.pair (length T) ≡ Err r → (restore_answer f buffer ≡ Err r) × (restore_buffer f buffer ≡ buffer)
        restore_unsolved r told = restore_empty was (sym (solve_long s.pair (length T) long) ∙ told)

        -- the writer, given the solver's table, writes what was promised
        pub restore_taken : (U : List ℕ) → solve_validity s.pair (length T) ≡ valid → U ≡ solved_table s.pair T
            → (restore_answer f buffer ≡ write_answer s.pair true U buffer) × (restore_buffer f buffer ≡ write_buffer s.pair true U buffer)
        unfolding restored write_buffer
        restore_taken U told solved =
            let p = s.pair in
            let well = was_well was in
            let nonempty = (nonempty_at p (sym (solve_long p (length T) long) ∙ told)).1 in
            let room_U : table_room ≤ length U = rw solved (solved_room p T well nonempty long) in
            let file : restored f ≡ file_of p true U =
            ap (λ (q : Pair). file_of q true (solver_table q)) was.pair_is
            ∙ file_cong p true (solver_table p) U (λ t k h. sym (ap (λ (l : List ℕ). get_or l k 0) solved ∙ solved_same p T well nonempty long k h)) in
            let both = restore_made (restore_valid was nonempty) in (
              both.0 ∙ ap Ok (ap length file ∙ file_length_lem p true U) ∙ sym (write_answers p true U buffer well nonempty room_U room),
              both.1 ∙ ap (λ (l : List ℕ). l ++ drop (length l) buffer) file
                  ∙ sym (buffer_made _ _ buffer (with_room p (length U) (length buffer) room_U room ∙ nonempty_valid p well nonempty)),
            )

-- ---- the new file fits the room that the call asks for
pub restore_small : (f buffer : List ℕ) {n : ℕ} → restore_answer f buffer ≡ Ok n → n ≤ file_room
unfolding restore_answer restore_validity read_answer restored
restore_small f buffer e =
    let t = given_at (restore_validity f (length buffer)) (length (restored f)) e in
    let a = then_answer (buffer_validity file_room (length buffer)) _ t.0 in
    let b = then_answer (read_validity f table_room) (solve_validity (pair_of f) table_room) a.1 in
    let p = pair_of f in
    let lent : List ℕ = replicate table_room 0 in
    let was = was_taken f lent p (note_of f) (then_of _ _ (ap (read_validity f) (length-replicate {A = ℕ} table_room 0) ∙ b.0)) in
    let nonempty = (nonempty_at p (sym (solve_long p table_room (omega arith)) ∙ b.1)).1 in
    let written = write_answers p true (read_table f lent) buffer (was_well was) nonempty (was_long was) (buffer_room file_room (length buffer) a.0) in
    omega (arith, t.1, file_length_lem p true (solver_table p), answer_small p true (read_table f lent) buffer written)
