-- What a single step finds in the table's row beside a start state.
use Rattle.std.specs.Prelude.{List, ◌≡◌, ℕ, ◌+◌, ◌-◌, ◌≤◌, length, get_or, take, drop}
use Rattle.std.proofs.Math.Path.{sym}
use Rattle.std.proofs.Common.{◌∙◌}
use Rattle.mask.specs.LogicLaws.{and_true_l}
use Rattle.mask.specs.BoundedLaws.{some_in_cong}
use Rattle.machine.specs.declared.Pair.{Pair}
use Rattle.machine.specs.Machines.{n_c, n_a}
use Rattle.machine.specs.WellFormedLaws.{WellPair}
use Rattle.machine.specs.Step.{single_step, in_row, found}
use Rattle.machine.specs.Table.{blank, entry_index}
use Rattle.machine.specs.RowLaws.{row_found}
use Rattle.machine.specs.LinesLaws.{covers_bound}
use Rattle.machine.specs.Verdict.{start_covered}
use Rattle.linecheck.specs.BoundsLaws.{entry_small}

module _ (p : Pair) (T : List ℕ) where
  -- what a single step finds in the row of section 1 beside c
  pub start_found : WellPair p → ((i : ℕ) → get_or T i 0 ≤ blank) → (c from to : ℕ) → from ≡ entry_index (n_c p) (n_a p) 0 c 0 → to ≡ from + n_a p → to ≤ length T
      → (present : ℕ) (entries : ℕ → ℕ)
      → found (single_step present p.abstraction.start (in_row p.abstraction.start (take (to - from) (drop from T)) (blank - 1)) entries) ≡ start_covered p T c
  unfolding start_covered
  start_found w small c from to start end fits present entries =
      let s = p.abstraction.start in
      row_found p T 0 c from to start end fits w.abstraction.states_high present s s (blank - 1) entries
      ∙ some_in_cong (n_a p) s _ _ (λ a l e. and_true_l _ e ∙ sym (covers_bound p T 0 c a (entry_small p T small 0 c a)))
