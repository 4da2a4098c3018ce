-- Laws of the line: its parts, and that each line fits into the room.
use Rattle.std.specs.Prelude.{Bool, true, false, Option, Ok, Err, Some, None, ◌≡◌, refl, get_or}
use Rattle.std.proofs.Math.Bool.{cond}
use mathlib.Core.List.{List, [], ◌∷◌, ◌++◌, flatten, append_assoc}
use Rattle.std.proofs.Common.{sym, ◌∙◌, arith, length-append, drop_of_length-le, get_or-take, get_or-drop, length-take, take_all}
use Rattle.std.proofs.Math.Path.{ap, ap₂}
use Rattle.std.proofs.Math.Logic.{by_cases}
use Rattle.std.proofs.Math.Decide.{dec_lt}
use Prim.Native.Nat.{ℕ, suc, ◌+◌, ◌*◌, ◌≤◌, ◌<◌}
use Rattle.std.proofs.Math.ListN.{length, take, drop, replicate, get_or-eq_default}
use Rattle.text.specs.Decimal.{decimal}
use Rattle.text.specs.DecimalLaws.{decimal_short}
use Rattle.machine.specs.declared.Refusal.{Refusal}
use Rattle.machine.specs.declared.Run.{Run}
use Rattle.machine.specs.Refusals.{Answer, number_of, spot_of}
use Rattle.machine.specs.Lassos.{Lasso, given}
use Rattle.machine.specs.Player.{run_room}
use Rattle.report.specs.Text.{no_table_text, refusal_line}
use Rattle.report.specs.TextLaws.{refusal_parts, refusal_text}
use Rattle.playback.specs.Playing.{file_run, file_run_buffer}
use Rattle.playline.specs.Lasso.{numbers_in, stroke_at, readable, lasso_in, states_text, lasso_text}
use Rattle.playline.specs.LassoLaws.{drop_next}
use Rattle.playline.specs.Line.{line_room, run_line, run_outcome_line, usage_line, play_line}

-- ---- states
-- those from i on, by the next
pub states_next : (states : List ℕ) (i : ℕ) → i < length states → states_text (drop i states) ≡ (32 ∷ []) ++ (decimal (get_or states i 0) ++ states_text (drop (i + 1) states))
unfolding states_text
states_next states i h = ap states_text (drop_next states i h)

pub states_past : (states : List ℕ) (i : ℕ) → length states ≤ i → states_text (drop i states) ≡ []
unfolding states_text
states_past states i h = ap states_text (drop_of_length-le states h)

-- four bytes at most for each
abbrev pub Small : List ℕ → Type 0
Small l = (i : ℕ) → get_or l i 0 < 256

states_most : (l : List ℕ) → Small l → length (states_text l) ≤ 4 * length l
unfolding states_text
states_most [] h = omega arith
states_most (s ∷ l) h =
    omega (arith, length-append (decimal s) (states_text l), decimal_short 2 s (omega (arith, h 0)) (omega (arith, h 0)), states_most l (λ i. h (suc i)))

small_take : (n : ℕ) (l : List ℕ) → Small l → Small (take n l)
small_take n l h i =
    by_cases (dec_lt i n) (λ k. omega (arith, get_or-take n l i 0 k, h i))
    (λ k. let past : length (take n l) ≤ i = omega (arith, length-take n l) in omega (arith, get_or-eq_default (take n l) 0 past))

small_drop : (n : ℕ) (l : List ℕ) → Small l → Small (drop n l)
small_drop n l h i = omega (arith, get_or-drop n l i 0, h (n + i))

-- ---- the run's line
abbrev pub run_parts : List ℕ → List ℕ → List (List ℕ)
run_parts stem loop = (114 ∷ 117 ∷ 110 ∷ []) ∷ states_text stem ∷ (32 ∷ 47 ∷ []) ∷ states_text loop ∷ (10 ∷ []) ∷ []

pub run_line_lem : (stem loop : List ℕ) → flatten (run_parts stem loop) ≡ run_line stem loop
unfolding run_line lasso_text flatten
run_line_lem stem loop = ap (λ (l : List ℕ). 114 ∷ 117 ∷ 110 ∷ l) (sym (append_assoc (states_text stem) (32 ∷ 47 ∷ states_text loop) (10 ∷ [])))

run_most : (stem loop : List ℕ) → Small stem → Small loop → length (run_line stem loop) ≤ 4 * length stem + 4 * length loop + 6
unfolding flatten
run_most stem loop a b =
    omega (
      arith,
      ap length (run_line_lem stem loop),
      length-append (states_text stem) (32 ∷ 47 ∷ (states_text loop ++ (10 ∷ []))),
      length-append (states_text loop) (10 ∷ []),
      states_most stem a,
      states_most loop b,
    )

-- ---- the whole line
-- the line of what was said
module _ (said : Answer (Option Run)) (run : List ℕ) where
  pub line_run : (r : Run) → said ≡ Ok (Some r) → run_line (take r.stem run) (take r.cycle (drop r.stem run)) ≡ run_outcome_line said run
  unfolding run_outcome_line
  line_run r e = rw e refl

  pub line_none : said ≡ Ok None → no_table_text ≡ run_outcome_line said run
  unfolding run_outcome_line
  line_none e = rw e refl

  pub line_refused : (r : Refusal) → said ≡ Err r → refusal_line r ≡ run_outcome_line said run
  unfolding run_outcome_line
  line_refused r e = rw e refl

module _ (f text : List ℕ) where
  pub play_usage : readable text ≡ false → usage_line ≡ play_line f text
  unfolding play_line
  play_usage e = rw e

  -- the text that was read is the whole text
  pub play_said : {t : List ℕ} → t ≡ text → (said : Answer (Option Run)) (stem loop run : List ℕ) → readable t ≡ true
      → stem ≡ numbers_in (take (stroke_at t) t) → loop ≡ numbers_in (drop (suc (stroke_at t)) t)
      → said ≡ file_run f (given stem loop) (replicate run_room 0) → run ≡ file_run_buffer f (given stem loop) (replicate run_room 0)
      → run_outcome_line said run ≡ play_line f text
  unfolding play_line lasso_in
  play_said {t} whole said stem loop run r b c e g =
      let buffer : List ℕ = replicate run_room 0 in
      let line : Lasso → List ℕ = λ l. run_outcome_line (file_run f l buffer) (file_run_buffer f l buffer) in
      ap₂ run_outcome_line e g ∙ ap line (ap₂ given b c) ∙ ap (λ (o : Bool). cond o (line (lasso_in t)) usage_line) (sym r)
      ∙ ap (λ (l : List ℕ). cond (readable l) (line (lasso_in l)) usage_line) whole

-- ---- the room
refusal_most : (r : Refusal) → length (refusal_line r) ≤ 128
refusal_most r = let line = refusal_text r _ _ _ _ refl refl refl refl in omega (arith, ap length line, length-take 128 (flatten (refusal_parts (number_of r) (get_or (spot_of r) 0 0) (get_or (spot_of r) 1 0) (get_or (spot_of r) 2 0))))

pub outcome_most : (said : Answer (Option Run)) (run : List ℕ) → Small run → length run ≤ run_room → ((r : Run) → said ≡ Ok (Some r) → r.stem + r.cycle ≤ length run)
    → length (run_outcome_line said run) ≤ line_room
unfolding run_outcome_line
outcome_most (Ok (Some r)) run s h k =
    omega (
      arith,
      k r refl,
      run_most (take r.stem run) (take r.cycle (drop r.stem run)) (small_take r.stem run s) (small_take r.cycle (drop r.stem run) (small_drop r.stem run s)),
      length-take r.stem run,
      length-take r.cycle (drop r.stem run),
    )
outcome_most (Ok None) run s h k = omega arith
outcome_most (Err r) run s h k = omega (arith, refusal_most r)

-- what is put, by its text
pub put_as : (x : List ℕ) {w line y : List ℕ} → w ≡ line → y ≡ take line_room (x ++ w) → y ≡ take line_room (x ++ line)
put_as x e f = f ∙ ap (λ (v : List ℕ). take line_room (x ++ v)) e

-- a line that is put behind nothing
pub alone : (line : List ℕ) {x y : List ℕ} → x ≡ [] → y ≡ take line_room (x ++ line) → length line ≤ line_room → y ≡ line
alone line e f h = f ∙ ap (λ (v : List ℕ). take line_room (v ++ line)) e ∙ take_all line_room line h

module _ (said : Answer (Option Run)) (run : List ℕ) (s : Small run) (h : length run ≤ run_room) (k : (r : Run) → said ≡ Ok (Some r) → r.stem + r.cycle ≤ length run) where
  pub outcome_alone : {w x y : List ℕ} → w ≡ run_outcome_line said run → x ≡ [] → y ≡ take line_room (x ++ w) → y ≡ run_outcome_line said run
  outcome_alone {x = x} p e f = alone (run_outcome_line said run) e (f ∙ ap (λ (v : List ℕ). take line_room (x ++ v)) p) (outcome_most said run s h k)
