-- Laws of the solver by turns on a file's bytes: by what the reader says, what is answered and what is left in the lent arrays.
use Rattle.std.specs.Prelude.{Bool, List, ◌≡◌, ℕ, ◌≤◌, ◌<◌, length, replicate, Err, Ok, Some, None}
use Rattle.std.specs.Result.{result_unwrap_or}
use Rattle.std.proofs.Math.Path.{refl, sym, ap}
use Rattle.std.proofs.Common.{◌∙◌}
use Rattle.std.proofs.lemmas.Option.{none-some, same_Some}
use Rattle.machine.specs.declared.Pair.{Pair}
use Rattle.machine.specs.declared.Refusal.{Refusal}
use Rattle.machine.specs.Refusals.{valid, Tested, pass_on, and_then, state_after, spot_after, answer_in, buffer_validity, Answer}
use Rattle.machine.specs.RefusalsLaws.{then_of, then_refused, then_then, given_at, given_refused, buffer_valid, buffer_short, state_made, state_kept}
use Rattle.machine.specs.WellFormed.{nonempty_validity}
use Rattle.machine.specs.Table.{table_room}
use Rattle.codec.specs.Reader.{pair_of, read_validity}
use Rattle.solver.specs.Families.{turn_rows}
use Rattle.solver.specs.Solver.{solve_validity}
use Rattle.progress.specs.Turns.{first_rows, first_answer, first_given, finishes, turn_answer, turn_family, turn_table, look_up_answer}
use Rattle.progress.specs.TurnsLaws.{turn_refused}
use Rattle.watch.specs.Watching.{machines_read, first_file, first_file_answer, first_file_given, first_file_rows, ready_number, told_number, turn_file, turn_file_rows, turn_file_table, look_up_file}
use Rattle.machine.specs.declared.Refusal.TheVariants.{ShortBuffer}

-- ---- the machines
module _ (f : List ℕ) where
  pub read_refused_lem : {r : Refusal} → read_validity f table_room ≡ Err r → machines_read f ≡ Err r
  unfolding machines_read
  read_refused_lem e = then_refused _ _ _ e

  pub read_taken_lem : {p : Pair} → read_validity f table_room ≡ valid → p ≡ pair_of f → Ok p ≡ machines_read f
  unfolding machines_read
  read_taken_lem e m = ap Ok m ∙ sym (then_of _ _ e)

  -- and back
  pub machines_at : {p : Pair} → machines_read f ≡ Ok p → (read_validity f table_room ≡ valid) × (p ≡ pair_of f)
  unfolding machines_read
  machines_at e = let a = given_at (read_validity f table_room) (pair_of f) e in (a.0, sym a.1)

  pub machines_stopped : {r : Refusal} → machines_read f ≡ Err r → read_validity f table_room ≡ Err r
  unfolding machines_read
  machines_stopped e = given_refused (read_validity f table_room) (pair_of f) e

-- ---- the first family
module _ (f : List ℕ) where
  pub first_unread : {r : Refusal} → read_validity f table_room ≡ Err r → first_file_answer f ≡ Err r
  unfolding first_file first_file_answer
  first_unread e = then_refused _ _ _ (then_refused _ (nonempty_validity (pair_of f)) _ e)

  pub first_read : {p : Pair} → read_validity f table_room ≡ valid → p ≡ pair_of f → first_answer p ≡ first_file_answer f
  unfolding first_file first_file_answer first_answer
  first_read e m =
      ap first_answer m ∙ ap (λ (v : Tested). and_then v (Ok (first_rows (pair_of f)))) (sym (then_of _ (nonempty_validity (pair_of f)) e))

  pub given_unread : {r : Refusal} → read_validity f table_room ≡ Err r → first_file_given f ≡ replicate 448 0
  unfolding first_file first_file_given
  given_unread e = state_kept _ _ _ (then_refused _ (nonempty_validity (pair_of f)) _ e)

  pub given_read : {p : Pair} → read_validity f table_room ≡ valid → p ≡ pair_of f → first_given p ≡ first_file_given f
  unfolding first_file first_file_given first_given
  given_read e m =
      ap first_given m ∙ ap (λ (v : Tested). state_after v (first_rows (pair_of f)) (replicate 448 0)) (sym (then_of _ (nonempty_validity (pair_of f)) e))

  -- what is given is in the answer, or zeros beside a refusal
  pub given_or_zeros : result_unwrap_or (first_file_answer f) (replicate 448 0) ≡ first_file_given f
  unfolding first_file_answer first_file_given and_then pass_on state_after
  given_or_zeros = go (first_file f)
    where
      go : (v : Tested) → result_unwrap_or (and_then v (Ok (first_rows (pair_of f)))) (replicate 448 0) ≡ state_after v (first_rows (pair_of f)) (replicate 448 0)
      go (Ok t) = refl
      go (Err r) = refl

-- for C: what is told beside v, the tests, where the answer is w
module _ (w F : List ℕ) where
  told_given : (v : Tested) {x : List ℕ} → answer_in (and_then v (Ok w)) ≡ Some x → (ready_number v ≡ 1) × (x ≡ state_after v w F)
  unfolding answer_in and_then pass_on ready_number state_after
  told_given (Ok t) {x} e = (refl, sym (same_Some w x e))
  told_given (Err r) {x} e = absurd (none-some x e)

  told_none : (v : Tested) → answer_in (and_then v (Ok w)) ≡ None → (ready_number v ≡ 0) × (F ≡ state_after v w F)
  unfolding answer_in and_then pass_on ready_number state_after
  told_none (Ok t) e = absurd (none-some w (sym e))
  told_none (Err r) e = (refl, refl)

  told_spot : (v : Tested) (spot : List ℕ) → spot_after (and_then v (Ok w)) spot ≡ spot_after v spot
  unfolding spot_after and_then pass_on
  told_spot (Ok t) spot = refl
  told_spot (Err r) spot = refl

module _ (f F : List ℕ) where
  pub first_told : {x : List ℕ} → answer_in (first_file_answer f) ≡ Some x → (ready_number (first_file f) ≡ 1) × (x ≡ first_file_rows f F)
  unfolding first_file_answer first_file_rows
  first_told e = told_given (first_rows (pair_of f)) F (first_file f) e

  pub first_none : answer_in (first_file_answer f) ≡ None → (ready_number (first_file f) ≡ 0) × (F ≡ first_file_rows f F)
  unfolding first_file_answer first_file_rows
  first_none e = told_none (first_rows (pair_of f)) F (first_file f) e

  pub first_spot : (spot : List ℕ) → spot_after (first_file_answer f) spot ≡ spot_after (first_file f) spot
  unfolding first_file_answer
  first_spot spot = told_spot (first_rows (pair_of f)) F (first_file f) spot

  pub first_rows_lem : first_file f ≡ valid → first_file_rows f F ≡ first_rows (pair_of f)
  unfolding first_file_rows
  first_rows_lem e = state_made _ _ F e

  pub first_kept : {r : Refusal} → first_file f ≡ Err r → F ≡ first_file_rows f F
  unfolding first_file_rows
  first_kept e = sym (state_kept _ _ F e)

-- ---- a turn
then_twice : {A : Type 0} (v : Tested) (w : Answer A) → and_then v (and_then v w) ≡ and_then v w
unfolding and_then pass_on
then_twice (Ok t) w = refl
then_twice (Err r) w = refl

-- over a file that is read it says and leaves what a turn over the machines does
module _ (f F : List ℕ) (read : read_validity f table_room ≡ valid) where
  pub turn_said_lem : (room : ℕ) → turn_file f F room ≡ turn_answer (pair_of f) F room
  unfolding turn_file turn_answer solve_validity
  turn_said_lem room =
      let v = buffer_validity table_room room in
      let same = then_then v (nonempty_validity (pair_of f)) (Ok (finishes (pair_of f) F)) in
      ap (and_then v) (then_of _ _ read ∙ same) ∙ then_twice v _ ∙ sym same

  pub turn_rows_lem : (room : ℕ) → turn_file_rows f F room ≡ turn_family (pair_of f) F room
  unfolding turn_file_rows turn_family
  turn_rows_lem room = ap (λ (v : Answer Bool). state_after v (turn_rows (pair_of f) F) F) (turn_said_lem room)

  -- a refusal of the turn leaves the table as it is too
  kept_too : (T : List ℕ) (said : Answer Bool) → turn_answer (pair_of f) F (length T) ≡ said → state_after said (turn_table (pair_of f) F T) T ≡ turn_table (pair_of f) F T
  unfolding state_after turn_answer
  kept_too T (Ok b) e = refl
  kept_too T (Err r) e = sym (turn_refused (pair_of f) F T (given_refused _ _ e)).2

  pub turn_table_lem : (T : List ℕ) → turn_file_table f F T ≡ turn_table (pair_of f) F T
  unfolding turn_file_table
  turn_table_lem T = ap (λ (v : Answer Bool). state_after v (turn_table (pair_of f) F T) T) (turn_said_lem (length T)) ∙ kept_too T _ refl

module _ (f F T : List ℕ) where
  abbrev Left : Answer Bool → List ℕ → List ℕ → Type 0
  Left said rows table = (turn_file f F (length T) ≡ said) × (turn_file_rows f F (length T) ≡ rows) × (turn_file_table f F T ≡ table)

  pub turn_kept : {r : Refusal} → turn_file f F (length T) ≡ Err r → Left (Err r) F T
  unfolding turn_file_rows turn_file_table
  turn_kept e = (e, state_kept _ _ F e, state_kept _ _ T e)

  pub turn_short : length T < table_room → Left (Err ShortBuffer) F T
  unfolding turn_file
  turn_short h = turn_kept (then_refused _ _ _ (buffer_short table_room (length T) h))

  pub turn_unread : table_room ≤ length T → {r : Refusal} → read_validity f table_room ≡ Err r → Left (Err r) F T
  unfolding turn_file
  turn_unread h e = turn_kept (then_of _ _ (buffer_valid table_room (length T) h) ∙ then_refused _ _ _ e)

  pub turn_read : {p : Pair} → read_validity f table_room ≡ valid → p ≡ pair_of f
      → Left (turn_answer p F (length T)) (turn_family p F (length T)) (turn_table p F T)
  turn_read e m = (
    turn_said_lem f F e (length T) ∙ ap (λ (q : Pair). turn_answer q F (length T)) (sym m),
    turn_rows_lem f F e (length T) ∙ ap (λ (q : Pair). turn_family q F (length T)) (sym m),
    turn_table_lem f F e T ∙ ap (λ (q : Pair). turn_table q F T) (sym m),
  )

-- ---- a look-up
module _ (f F : List ℕ) (j c a : ℕ) where
  pub look_unread : {r : Refusal} → read_validity f table_room ≡ Err r → look_up_file f F j c a ≡ Err r
  unfolding look_up_file
  look_unread e = then_refused _ _ _ e

  pub look_read : {p : Pair} → read_validity f table_room ≡ valid → p ≡ pair_of f → look_up_answer p F j c a ≡ look_up_file f F j c a
  unfolding look_up_file
  look_read e m = ap (λ (q : Pair). look_up_answer q F j c a) m ∙ sym (then_of _ _ e)

-- ---- for C: the number of an answer is that of what is answered
pub told_some : (v : Answer Bool) (b : Bool) → answer_in v ≡ Some b → told_number (Ok b) ≡ told_number v
unfolding answer_in
told_some (Ok d) b e = ap (λ (b : Bool). told_number (Ok b)) (sym (same_Some d b e))
told_some (Err r) b e = absurd (none-some b e)

pub told_nothing : (v : Answer Bool) → answer_in v ≡ None → 0 ≡ told_number v
unfolding answer_in told_number
told_nothing (Ok b) e = absurd (none-some b (sym e))
told_nothing (Err r) e = refl
