-- The first file law: what is written reads back.
use Rattle.std.specs.Prelude.{Bool, true, cond, ◌≡◌, refl, List, ◌++◌, drop, Ok}
use Rattle.std.proofs.Math.Bool.{false}
use Rattle.std.proofs.Math.Logic.{by_cases}
use Rattle.std.proofs.Math.Path.{sym, ap}
use Rattle.std.proofs.Common.{ap₂, ◌∙◌, zero-add}
use Prim.Native.Nat.{ℕ, zero, suc, ◌+◌, ◌*◌, ◌/◌, ◌%◌, ◌≤◌, ◌<◌}
use Rattle.std.proofs.Math.Decide.{dec_lt}
use native.Mathlib.Omega.{arith}
use Rattle.std.proofs.Math.Dec.{eqb, leb}
use Rattle.std.proofs.Math.ListN.{length, get_or, get_or-append, get_or-eq_default}
use borrow.Author.Tests.{eq-eqb, ne_eqb, lt-ltb}
use Rattle.mask.specs.LogicLaws.{and_i, or_l, or_r, or_false, not_f}
use Rattle.mask.specs.BoundedLaws.{every_of}
use Rattle.mask.specs.Tables.{table}
use Rattle.mask.specs.TablesLaws.{table_length, table_at, table_past, table_cong}
use Rattle.machine.specs.declared.Pair.{Pair}
use Rattle.machine.specs.Refusals.{valid, and_then, pass_on}
use Rattle.machine.specs.RefusalsLaws.{then_of, buffer_valid}
use Rattle.machine.specs.Machines.{n_c, n_a, sets_c, sets_a}
use Rattle.machine.specs.Table.{entries, table_room, AreEntries}
use Rattle.machine.specs.WellFormed.{pair_validity}
use Rattle.machine.specs.WellFormedLaws.{WellPair, well_pair, well_is_valid, counts_of}
use Rattle.codec.specs.Format.{numbers, number_at, letters, header, table_bytes, payload, payload_length, blocks_for, check_at, block_front, blocked, file_of}
use Rattle.codec.specs.Reader.{check_holds, number_found, BlockHolds, payload_of, header_byte, note_of, header_holds, counts_hold, header_validity, first_validity, payload_demanded, demanded, padding_holds, blocks_validity, pair_of, entries_of, read_validity, taken, read_answer, read_table}
use Rattle.codec.specs.Statements.{Representable, WriteRead}
use Rattle.codec.specs.NumberLaws.{number_is}
use Rattle.codec.specs.FormatLaws.{header_length, payload_length_lem, payload_small, blocks_small, blocked_length, file_length_lem, check_cong, check_lt, front_at, front_number, block_check, blocked_at, blocks_hold, blocked_payload}
use Rattle.codec.proofs.ReaderLaws.{block_valid, later_valid, blocks_then, table_after}
use Rattle.codec.specs.PayloadLaws.{Stands, parts_of, machine_reads, numbers_read}

-- ---- what is written: the blocks of a payload of at most 116 blocks hold
module _ (Q : List ℕ) (few : blocks_for (length Q) ≤ 116) (i : ℕ) (h : i < blocks_for (length Q)) where
  check_written : check_at (blocked Q) (512 * i) ≡ check_at (block_front Q i) 0
  check_written = check_cong (blocked Q) (block_front Q i) (512 * i) 0
      (λ j l. blocked_at Q i j h (omega arith) ∙ front_at Q i j l ∙ ap (λ (k : ℕ). get_or (block_front Q i) k 0) (sym (zero-add j)))

  block_written : BlockHolds (blocked Q) i
  unfolding check_holds number_found
  block_written = (
    eq-eqb _ _ (number_is 2 (check_at (block_front Q i) 0) (blocked Q) (512 * i + 510) (omega (arith, check_lt (block_front Q i) 0))
        (λ j l. ap (λ (k : ℕ). get_or (blocked Q) k 0) (omega arith) ∙ blocked_at Q i (510 + j) h (omega arith) ∙ block_check Q i j l)
        ∙ sym check_written),
    number_is 2 i (blocked Q) (512 * i) (omega arith) (λ j l. blocked_at Q i j h (omega arith) ∙ front_at Q i j (omega arith) ∙ front_number Q i j l),
  )

-- ---- the header
header_letters : (p : Pair) (note : Bool) (i : ℕ) → i < 4 → get_or (header p note) i 0 ≡ get_or letters i 0
unfolding header
header_letters p note zero h = refl
header_letters p note (suc zero) h = refl
header_letters p note (suc (suc zero)) h = refl
header_letters p note (suc (suc (suc zero))) h = refl
header_letters p note (suc (suc (suc (suc i)))) h = absurd (omega arith)

header_zeros : (p : Pair) (note : Bool) (i : ℕ) → i < 6 → get_or (header p note) (10 + i) 0 ≡ 0
unfolding header
header_zeros p note zero h = refl
header_zeros p note (suc zero) h = refl
header_zeros p note (suc (suc zero)) h = refl
header_zeros p note (suc (suc (suc zero))) h = refl
header_zeros p note (suc (suc (suc (suc zero)))) h = refl
header_zeros p note (suc (suc (suc (suc (suc zero))))) h = refl
header_zeros p note (suc (suc (suc (suc (suc (suc i)))))) h = absurd (omega arith)

note_back : (note : Bool) → eqb (cond note 1 0) 1 ≡ note
note_back true = refl
note_back false = refl

note_low : (note : Bool) → leb (cond note 1 0) 1 ≡ true
note_low true = refl
note_low false = refl

-- ---- the file of a well-formed pair
module _ (p : Pair) (note : Bool) (T : List ℕ) (w : WellPair p) where
  few : blocks_for (length (payload p note T)) ≤ 116
  few = blocks_small _ (omega (arith, payload_length_lem p note T, payload_small p note w))

  some_block : 0 < blocks_for (length (payload p note T))
  unfolding blocks_for payload_length
  some_block = omega (arith, payload_length_lem p note T)

  file_blocks : length (file_of p note T) ≡ 512 * blocks_for (length (payload p note T))
  unfolding file_of
  file_blocks = blocked_length (payload p note T)

  file_holds : (i : ℕ) → i < blocks_for (length (payload p note T)) → BlockHolds (file_of p note T) i
  unfolding file_of
  file_holds = block_written (payload p note T) few

  file_payload : (k : ℕ) → k < 508 * blocks_for (length (payload p note T)) → get_or (file_of p note T) (512 * (k / 508) + 2 + k % 508) 0 ≡ get_or (payload p note T) k 0
  unfolding file_of
  file_payload = blocked_payload (payload p note T)

  -- the joined payloads are the payload, and zeros behind it
  payload_back : (k : ℕ) → get_or (payload_of (file_of p note T) (length (file_of p note T) / 512)) k 0 ≡ get_or (payload p note T) k 0
  unfolding payload_of
  payload_back k =
      let n = blocks_for (length (payload p note T)) in
      let e : length (file_of p note T) / 512 ≡ n = omega (arith, file_blocks) in
      let g : ℕ → ℕ = λ k. get_or (file_of p note T) (512 * (k / 508) + 2 + k % 508) 0 in
      ap (λ (m : ℕ). get_or (table (508 * m) g) k 0) e ∙ by_cases (dec_lt k (508 * n))
      (λ l. table_at (508 * n) g k 0 l ∙ file_payload k l)
      (λ l. table_past (508 * n) g k 0 (omega arith)
      ∙ sym (get_or-eq_default (payload p note T) 0 (omega (arith, blocks_hold (length (payload p note T))))))

  header_byte_lem : (k : ℕ) → k < 16 → header_byte (file_of p note T) k ≡ get_or (header p note) k 0
  unfolding header_byte payload
  header_byte_lem k h =
      let e : 2 + k ≡ 512 * (k / 508) + 2 + k % 508 = omega arith in
      ap (λ (x : ℕ). get_or (file_of p note T) x 0) e ∙ file_payload k (omega (arith, some_block))
      ∙ get_or-append (header p note) _ 0 k (omega (arith, header_length p note))

  note_is : note_of (file_of p note T) ≡ note
  unfolding note_of header
  note_is = ap (λ (x : ℕ). eqb x 1) (header_byte_lem 9 (omega arith)) ∙ note_back note

  header_is : header_holds (file_of p note T) ≡ true
  unfolding header_holds header
  header_is =
      and_i (every_of 4 _ (λ i h. eq-eqb _ _ (header_byte_lem i (omega arith) ∙ header_letters p note i h)))
      (and_i (ap (λ (x : ℕ). leb x 1) (header_byte_lem 9 (omega arith)) ∙ note_low note)
      (every_of 6 _ (λ i h. eq-eqb _ _ (header_byte_lem (10 + i) (omega arith) ∙ header_zeros p note i h))))

  counts_are : (header_byte (file_of p note T) 4 ≡ n_c p) × (header_byte (file_of p note T) 5 ≡ n_a p) × (header_byte (file_of p note T) 6 ≡ sets_c p) × (header_byte (file_of p note T) 7 ≡ sets_a p)
  unfolding header
  counts_are = (header_byte_lem 4 (omega arith), header_byte_lem 5 (omega arith), header_byte_lem 6 (omega arith), header_byte_lem 7 (omega arith))

  hidden_is : header_byte (file_of p note T) 8 ≡ p.hidden
  unfolding header
  hidden_is = header_byte_lem 8 (omega arith)

  counts_hold_lem : counts_hold (file_of p note T) ≡ true
  unfolding counts_hold
  counts_hold_lem =
      let e = counts_are in
      rw (e.0, e.1, e.2, e.3)
      (and_i (counts_of 8 (n_c p) (sets_c p) w.concrete.states_low w.concrete.states_high w.concrete.sets_low w.concrete.sets_high)
      (counts_of 7 (n_a p) (sets_a p) w.abstraction.states_low w.abstraction.states_high w.abstraction.sets_low w.abstraction.sets_high))

  demanded_is : demanded (file_of p note T) ≡ length (file_of p note T)
  unfolding demanded
  demanded_is = let e = counts_are in rw (e.0, e.1, e.2, e.3, note_is) (sym (file_length_lem p note T))

  first_valid : first_validity (file_of p note T) ≡ valid
  unfolding first_validity header_validity
  first_valid =
      let n = blocks_for (length (payload p note T)) in
      let full = or_false (ne_eqb (length (file_of p note T)) 0 (λ z. omega (arith, file_blocks, some_block)))
      (not_f (eq-eqb (length (file_of p note T) % 512) 0 (omega (arith, file_blocks)))) in
      rw full (then_of _ _ (block_valid (file_of p note T) 0 (file_holds 0 some_block)) ∙ rw (not_f header_is, not_f counts_hold_lem))

  padding_is : padding_holds (file_of p note T) ≡ true
  unfolding padding_holds payload_demanded
  padding_is =
      let e = counts_are in
      rw (e.0, e.1, e.2, e.3, note_is)
      (every_of _ _ (λ k h. by_cases (dec_lt k (length (payload p note T)))
      (λ l. or_l _ (lt-ltb k _ (omega (arith, payload_length_lem p note T))))
      (λ l. or_r _ (eq-eqb _ 0 (file_payload k (omega (arith, file_blocks)) ∙ get_or-eq_default (payload p note T) 0 (omega arith))))))

  blocks_valid : blocks_validity (file_of p note T) ≡ valid
  blocks_valid =
      blocks_then (file_of p note T) (sym demanded_is)
      ∙ then_of _ _ (later_valid (file_of p note T) (λ i _ l. file_holds i (omega (arith, file_blocks))))
      ∙ rw (not_f padding_is)

  -- the machines stand in the joined payloads
  pair_is : Representable p → pair_of (file_of p note T) ≡ p
  unfolding pair_of
  pair_is r =
      let e = counts_are in
      let P = payload_of (file_of p note T) (length (file_of p note T) / 512) in
      let parts = parts_of p note T P (λ i h. payload_back (0 + i) ∙ ap (λ (k : ℕ). get_or (payload p note T) k 0) (zero-add i)) in
      rw (e.0, e.1, e.2, e.3)
      (λ i. record {
        concrete = machine_reads 8 p.concrete P 16 r.concrete w.concrete parts.concrete i;
        abstraction = machine_reads 7 p.abstraction P (24 + 9 * n_c p + 8 * sets_c p) r.abstraction w.abstraction parts.abstraction i;
        hidden = hidden_is i;
      })

  table_is : note ≡ true → table_bytes p note T ≡ numbers 2 (entries p) (λ e. get_or T e 0)
  unfolding table_bytes
  table_is t = rw t

  entries_are : Representable p → AreEntries T → note ≡ true → entries_of (file_of p note T) ≡ table (entries p) (λ e. get_or T e 0)
  unfolding entries_of
  entries_are r b t =
      let P = payload_of (file_of p note T) (length (file_of p note T) / 512) in
      let at = payload_length (n_c p) (n_a p) (sets_c p) (sets_a p) false in
      let parts = parts_of p note T P (λ i h. payload_back (0 + i) ∙ ap (λ (k : ℕ). get_or (payload p note T) k 0) (zero-add i)) in
      let stands : Stands (numbers 2 (entries p) (λ e. get_or T e 0)) P at = rw (table_is t) at parts.entries in
      ap (λ (q : Pair). table (entries q) (λ e. number_at 2 P (payload_length (n_c q) (n_a q) (sets_c q) (sets_a q) false + 2 * e))) (pair_is r)
      ∙ table_cong (entries p) _ (λ e. get_or T e 0) (λ e h. numbers_read 2 (entries p) (λ e. get_or T e 0) P at e h (b e) stands)

  read_valid : Representable p → pair_validity p ≡ valid → (len : ℕ) → table_room ≤ len → read_validity (file_of p note T) len ≡ valid
  unfolding read_validity and_then pass_on
  read_valid r v len h = rw (buffer_valid table_room len h, first_valid, blocks_valid, pair_is r, v)

pub write_read : WriteRead
unfolding read_answer read_table
write_read p note T lent r t b room =
    let w = well_pair p t in
    let v = read_valid p note T w r (well_is_valid p t) (length lent) room in (
      then_of _ _ v ∙ ap₂ (λ (q : Pair) (n : Bool). Ok (taken q n)) (pair_is p note T w r) (note_is p note T w),
      table_after (file_of p note T) lent _ note v (note_is p note T w) ∙ cases note (entries_are p note T w r b),
    )
  where
    cases : (n : Bool) → (n ≡ true → entries_of (file_of p note T) ≡ table (entries p) (λ e. get_or T e 0))
        → cond n (entries_of (file_of p note T) ++ drop (length (entries_of (file_of p note T))) lent) lent
        ≡ cond n (table (entries p) (λ e. get_or T e 0) ++ drop (entries p) lent) lent
    cases true e = rw (e refl, table_length (entries p) (λ e. get_or T e 0))
    cases false e = refl
