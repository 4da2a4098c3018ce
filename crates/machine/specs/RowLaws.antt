-- Where an entry lies in a table, and a row of a table as the set that a single step looks in.
use Rattle.std.specs.Prelude.{true, List, ◌≡◌, leb, length, get_or, take, drop}
use Rattle.std.proofs.Common.{◌∙◌, mod-eq_of_lt, length-take, length-drop, get_or-take, leb-true, le-leb, ltb-true, lt-ltb}
use Prim.Native.Nat.{ℕ, suc, ◌+◌, ◌-◌, ◌*◌, ◌≤◌, ◌<◌}
use Rattle.std.proofs.Math.Nat.{suc-mul}
use native.Mathlib.Omega.{arith}
use Rattle.std.proofs.Math.Seq.{get_or-drop}
use Rattle.mask.specs.Logic.{and}
use Rattle.mask.specs.LogicLaws.{both, and_l, and_r, and_i}
use Rattle.mask.specs.Bits.{has_bit}
use Rattle.mask.specs.Bounded.{some_in}
use Rattle.mask.specs.BoundedLaws.{some_in_at, some_in_of}
use Rattle.machine.specs.declared.Pair.{Pair}
use Rattle.machine.specs.Machines.{n_c, n_a}
use Rattle.machine.specs.WellFormedLaws.{mul_bound}
use Rattle.machine.specs.Step.{single_step, in_row, found}
use Rattle.machine.specs.SingleStepLaws.{single_found}
use Rattle.machine.specs.Table.{table_room, entry_index, place_of, entry}

-- ---- where an entry lies
-- an entry's place is its row's, and its state
pub index_row : (n_c n_a j c a : ℕ) → entry_index n_c n_a j c 0 + a ≡ entry_index n_c n_a j c a
unfolding entry_index
index_row n_c n_a j c a = omega arith

-- numbers below 256 have their own place
pub place_is : (n_c n_a j c a : ℕ) → n_c < 256 → n_a < 256 → j < 256 → c < 256 → a < 256 → place_of n_c n_a j c a ≡ entry_index n_c n_a j c a
unfolding place_of
place_is n_c n_a j c a h_c h_a hj hc ha = rw (mod-eq_of_lt h_c, mod-eq_of_lt h_a, mod-eq_of_lt hj, mod-eq_of_lt hc, mod-eq_of_lt ha)

module _ (n_c n_a j c : ℕ) (hj : j < 7) (h_c : n_c ≤ 64) (h_a : n_a ≤ 64) where
  pub section_room : j * n_c ≤ 384
  section_room = mul_bound j n_c 6 64 (omega arith) h_c

  pub place_room : c ≤ n_c → (j * n_c + c) * n_a ≤ table_room
  place_room h = mul_bound (j * n_c + c) n_a 448 64 (omega (arith, section_room)) h_a

  -- a whole row lies within a lent table
  pub row_room : c < n_c → entry_index n_c n_a j c 0 + n_a ≤ table_room
  unfolding entry_index
  row_room h =
      let e : suc (j * n_c + c) * n_a ≡ (j * n_c + c) * n_a + n_a = suc-mul (j * n_c + c) n_a in
      omega (arith, mul_bound (suc (j * n_c + c)) n_a 448 64 (omega (arith, section_room)) h_a)

  pub entry_room : (a : ℕ) → c < n_c → a < n_a → entry_index n_c n_a j c a < table_room
  entry_room a h l = omega (arith, index_row n_c n_a j c a, row_room h)

-- ---- a row as a set
-- a state of a row, as sentences
pub in_row_at : (matched : ℕ) (row : List ℕ) (bound a : ℕ) → in_row matched row bound a ≡ true
    → (has_bit matched a ≡ true) × (a < length row) × (get_or row a 0 ≤ bound)
unfolding in_row
in_row_at matched row bound a t =
    let u = and_r (has_bit matched a) _ t in
    (and_l _ _ t, ltb-true a (length row) (and_l _ _ u), leb-true (get_or row a 0) bound (and_r _ _ u))

pub in_row_of : (matched : ℕ) (row : List ℕ) (bound a : ℕ) → has_bit matched a ≡ true → a < length row → get_or row a 0 ≤ bound
    → in_row matched row bound a ≡ true
unfolding in_row
in_row_of matched row bound a t h k = and_i t (and_i (lt-ltb a (length row) h) (le-leb (get_or row a 0) bound k))

-- the row of section j beside c, as the part of the table that a call hands over
module _ (p : Pair) (T : List ℕ) (j c from to : ℕ) (start : from ≡ entry_index (n_c p) (n_a p) j c 0) (end : to ≡ from + n_a p) (fits : to ≤ length T) where
  abbrev pub row : List ℕ
  row = take (to - from) (drop from T)

  pub row_length : length row ≡ n_a p
  row_length = simp (length-take, length-drop) (omega arith)

  pub row_at : (a : ℕ) → a < n_a p → get_or row a 0 ≡ entry p T j c a
  unfolding entry
  row_at a h =
      let l : a < to - from = omega arith in
      rw (get_or-take, get_or-drop, start, index_row)

  pub row_found : n_a p ≤ 64 → (present moves matched bound : ℕ) (entries : ℕ → ℕ)
      → found (single_step present moves (in_row matched row bound) entries) ≡ some_in (n_a p) moves (λ a. and (has_bit matched a) (leb (entry p T j c a) bound))
  row_found small present moves matched bound entries =
      single_found present entries moves (in_row matched row bound) ∙ both _ _
      (λ t.
      let q = some_in_at 64 moves _ t in
      let r = in_row_at matched row bound q.0 q.3 in
      let l : q.0 < n_a p = omega (arith, r.1, row_length) in
      some_in_of (n_a p) moves _ q.0 l q.2 (and_i r.0 (le-leb _ bound (rw (row_at q.0 l) at r.2))))
      (λ t.
      let q = some_in_at (n_a p) moves _ t in
      some_in_of 64 moves _ q.0 (omega (arith, q.1)) q.2
      (in_row_of matched row bound q.0 (and_l _ _ q.3) (omega (arith, q.1, row_length))
      (rw (row_at q.0 q.1) (leb-true _ bound (and_r _ _ q.3)))))
