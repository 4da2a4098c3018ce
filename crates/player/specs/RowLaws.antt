-- A row of the table as the set in which the player looks for a partner.
use Rattle.std.specs.Prelude.{true, List, ◌≡◌, ℕ, ◌+◌, ◌-◌, ◌≤◌, ◌<◌, length, get_or}
use Rattle.std.proofs.Math.Path.{sym, ap, ap₂}
use Rattle.std.proofs.Common.{◌∙◌, arith, lt-ltb}
use Rattle.std.proofs.Math.Dec.{leb}
use Rattle.mask.specs.Logic.{and}
use Rattle.mask.specs.LogicLaws.{and_true_l}
use Rattle.mask.specs.Bits.{has_bit}
use Rattle.machine.specs.declared.Pair.{Pair}
use Rattle.machine.specs.Machines.{n_c, n_a, sets_a}
use Rattle.machine.specs.Observed.{matched_masks}
use Rattle.machine.specs.ObservedLaws.{has_matched_at}
use Rattle.machine.specs.Step.{single_step, in_row}
use Rattle.machine.specs.Table.{blank, table_room, entry_index, place_of, entry}
use Rattle.machine.specs.RowLaws.{row_room, entry_room, row, row_length, row_at}
use Rattle.machine.specs.Lines.{non_blank}
use Rattle.machine.specs.LinesLaws.{covers_bound}
use Rattle.machine.specs.WellFormedLaws.{WellPair}
use Rattle.machine.specs.SingleStepLaws.{single_below}
use Rattle.linecheck.specs.BoundsLaws.{place_at_lem, entry_small}

-- ---- where an entry lies, as its place is found
module _ (p : Pair) (w : WellPair p) (r j c : ℕ) (hj : j < sets_a p) (hc : c < n_c p) where
  low : j < 7
  low = omega (arith, w.abstraction.sets_high)

  pub index_is : (a : ℕ) → r ≡ place_of (n_c p) (n_a p) j c a → a < 64 → r ≡ entry_index (n_c p) (n_a p) j c a
  index_is a e ha = place_at_lem p w r j c a e low hc ha

  pub row_end : r ≡ entry_index (n_c p) (n_a p) j c 0 → r + n_a p ≤ table_room
  row_end e = omega (arith, row_room (n_c p) (n_a p) j c low w.concrete.states_high w.abstraction.states_high hc)

  pub index_lt : (a : ℕ) → r ≡ entry_index (n_c p) (n_a p) j c a → a < n_a p → r < table_room
  index_lt a e ha = omega (arith, entry_room (n_c p) (n_a p) j c low w.concrete.states_high w.abstraction.states_high a hc ha)

-- ---- the row of section j beside c, as the part of the table that a call hands over
module _ (p : Pair) (T : List ℕ) (w : WellPair p) (small : (i : ℕ) → get_or T i 0 ≤ blank) (j c from to : ℕ) (hc : c < n_c p)
    (start : from ≡ entry_index (n_c p) (n_a p) j c 0) (end : to ≡ from + n_a p) (fits : to ≤ length T) where
  abbrev here : List ℕ
  here = row p T j c from to start end fits

  in_row_lem : (a : ℕ) → a < n_a p → in_row (get_or (matched_masks p) c 0) here (blank - 1) a ≡ non_blank p T j c a
  unfolding in_row non_blank
  in_row_lem a h = ap₂ and (has_matched_at p w c hc a h)
      (and_true_l _ (lt-ltb a (length here) (omega (arith, row_length p T j c from to start end fits)))
      ∙ ap (λ (e : ℕ). leb e (blank - 1)) (row_at p T j c from to start end fits a h) ∙ sym (covers_bound p T j c a (entry_small p T small j c a)))

  -- the partner in the row is the rule's, among moves to states of the machine
  pub row_partner : (present moves : ℕ) → ((i : ℕ) → i < 64 → has_bit moves i ≡ true → i < n_a p)
      → single_step present moves (in_row (get_or (matched_masks p) c 0) here (blank - 1)) (λ a. get_or here a 0) ≡ single_step present moves (non_blank p T j c) (entry p T j c)
  row_partner present moves moved = single_below present moves (n_a p) _ _ _ _ moved in_row_lem (row_at p T j c from to start end fits)
