-- Laws of the walk from the first family to the finish, case by case.
use Rattle.std.specs.Prelude.{◌≡◌, ℕ, suc, ◌+◌, Bool, true, false, cond, List, length}
use Rattle.std.proofs.Common.{◌∙◌}
use Rattle.progress.specs.Turns.{first_given, turn_family}
use Rattle.comparison.specs.declared.tally.Tally.{Tally}
use Rattle.comparison.specs.declared.turns.Known.{Known}
use Rattle.comparison.specs.Answers.{says_yes}
use Rattle.comparison.specs.Tallies.{nothing, of_test, plus}
use Rattle.comparison.specs.Turns.{end_agrees, family_tally, marks, turn_said, walk_tally, walked}

module _ (k : Known) where
  -- ---- from the first to the finish: A is what is counted in the end
  module _ (S : List ℕ) (n : ℕ) (F : List ℕ) (sum : Tally) {A : Tally} (a : walked k S n F sum ≡ A) where
    pub walk_none : n ≡ 0 → {last r : Tally} → last ≡ of_test false → r ≡ plus sum last → r ≡ A
    unfolding walked
    walk_none z el er = er ∙ rw el (rw z at a)

    module _ (m : ℕ) (z : n ≡ suc m) {finished : Bool} {N : List ℕ} {turned more : Tally} (ef : finished ≡ says_yes (turn_said k.pair F)) (e_n : N ≡ turn_family k.pair F (length marks))
        (et : turned ≡ family_tally k F) (em : more ≡ plus sum turned) where
      walk_at : cond finished (plus more (of_test (end_agrees k.pair k.entries N S))) (walked k S m N more) ≡ A
      unfolding walked
      walk_at = rw (em, et, e_n, ef) (rw z at a)

      pub walk_last : finished ≡ true → {agrees : Bool} {last r : Tally} → agrees ≡ end_agrees k.pair k.entries N S → last ≡ of_test agrees → r ≡ plus more last → r ≡ A
      walk_last t ea el er = er ∙ rw (el, ea) (rw t at walk_at)

      pub walk_next : finished ≡ false → walked k S m N more ≡ A
      walk_next t = rw t at walk_at

  pub walk_start : (S : List ℕ) {F : List ℕ} {sum : Tally} → F ≡ first_given k.pair → sum ≡ nothing → walked k S (k.entries + 1) F sum ≡ walk_tally k S
  unfolding walk_tally
  walk_start S ef es = rw (es, ef)
