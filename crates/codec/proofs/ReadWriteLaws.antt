-- The second file law: a file that is taken is the one that is written from what was read.
use Rattle.std.specs.Prelude.{Bool, true, false, ◌≡◌, eqb, leb, length}
use Rattle.std.proofs.Math.Bool.{cond}
use Rattle.std.proofs.Math.Logic.{⊎_elim, by_cases}
use Rattle.std.proofs.Math.Path.{refl, sym, ap}
use Rattle.std.proofs.Common.{◌∙◌, zero-add}
use mathlib.Core.List.{List, [], ◌∷◌}
use Prim.Native.Nat.{ℕ, zero, suc, ◌+◌, ◌-◌, ◌*◌, ◌/◌, ◌%◌, ◌≤◌, ◌<◌}
use Rattle.std.proofs.Math.Decide.{dec_lt}
use native.Mathlib.Omega.{arith}
use Rattle.std.proofs.Math.ListN.{get_or, get_or-eq_default}
use Rattle.std.proofs.lemmas.List.{get_or-replicate}
use Rattle.std.proofs.Math.Seq.{ext_get_or}
use borrow.Author.Tests.{eqb-true, leb-true, ltb-true}
use Rattle.mask.specs.LogicLaws.{and_l, and_r, or_e}
use Rattle.mask.specs.BoundedLaws.{every_at}
use Rattle.mask.specs.Tables.{table}
use Rattle.mask.specs.TablesLaws.{table_at, table_past}
use Rattle.machine.specs.Refusals.{valid}
use Rattle.machine.specs.Machines.{n_c, n_a, sets_c, sets_a}
use Rattle.machine.specs.Table.{entries}
use Rattle.codec.specs.Format.{byte_of, numbers, number_at, letters, header, table_bytes, payload, payload_length, blocks_for, check_at, block_front, block, blocked, file_of}
use Rattle.codec.specs.Reader.{check_holds, number_found, BlockHolds, payload_byte, payload_of, header_byte, note_of, header_holds, first_validity, payload_demanded, padding_holds, blocks_validity, machine_at, pair_of, entries_of}
use Rattle.codec.specs.Statements.{AreBytes}
use Rattle.codec.specs.NumberLaws.{number_byte}
use Rattle.codec.specs.FormatLaws.{payload_length_lem, blocked_length, check_cong, front_at, front_number, front_payload, block_check, blocked_at}
use Rattle.codec.proofs.ReaderLaws.{FirstValid, BlocksValid, Fitting, first_valid, blocks_valid, fitting, in_range_lem}
use Rattle.codec.specs.PayloadLaws.{Stands, Parts, parts_join, stands_join, stands_cons, stands_nil, machine_stands, numbers_stand}

-- ---- the blocks of a file that is not refused
pub record Whole (f : List ℕ) : Type 0 where
  pub start : FirstValid f
  pub rest : BlocksValid f

pub whole : (f : List ℕ) → first_validity f ≡ valid → blocks_validity f ≡ valid → Whole f
whole f e v = record { start = first_valid f e; rest = blocks_valid f v }

pub all_blocks : (f : List ℕ) → Whole f → (i : ℕ) → i < length f / 512 → BlockHolds f i
all_blocks f w zero h = w.start.block
all_blocks f w (suc i) h = w.rest.blocks (suc i) (omega arith) h

-- bytes that are joined are bytes
pub joined_bytes : (f : List ℕ) (n : ℕ) → AreBytes f → AreBytes (payload_of f n)
unfolding payload_of
joined_bytes f n b k = by_cases (dec_lt k (508 * n))
    (λ h. omega (arith, table_at (508 * n) (payload_byte f) k 0 h, b (512 * (k / 508) + 2 + k % 508)))
    (λ h. omega (arith, table_past (508 * n) (payload_byte f) k 0 (omega arith)))

-- ---- its payload
byte_note : (x : ℕ) → leb x 1 ≡ true → x ≡ cond (eqb x 1) 1 0
byte_note zero h = refl
byte_note (suc zero) h = refl
byte_note (suc (suc x)) h = absurd (omega (arith, leb-true (suc (suc x)) 1 h))

module _ (f : List ℕ) (b : AreBytes f) (w : Whole f) where
  fits : Fitting f (length f / 512)
  fits = fitting f w.rest.long

  joined_at : (k : ℕ) → k < 508 * (length f / 512) → get_or (payload_of f (length f / 512)) k 0 ≡ payload_byte f k
  unfolding payload_of
  joined_at k h = table_at (508 * (length f / 512)) (payload_byte f) k 0 h

  joined_header : (k : ℕ) → k < 16 → get_or (payload_of f (length f / 512)) k 0 ≡ header_byte f k
  unfolding header_byte
  joined_header k h = joined_at k (omega (arith, fits.some)) ∙ ap (λ (x : ℕ). get_or f x 0) (omega arith)

  header_stands : Stands (header (pair_of f) (note_of f)) (payload_of f (length f / 512)) 0
  unfolding header pair_of machine_at note_of header_holds
  header_stands =
      let P = payload_of f (length f / 512) in
      let t = w.start.header in
      let v = and_r _ _ t in
      let zero_at : (i : ℕ) → i < 6 → get_or P (10 + i) 0 ≡ 0 = λ i h. joined_header (10 + i) (omega arith) ∙ eqb-true _ 0 (every_at 6 _ (and_r _ _ v) i h) in
      let from10 : List ℕ = 0 ∷ 0 ∷ 0 ∷ 0 ∷ 0 ∷ 0 ∷ [] in
      let from9 : List ℕ = cond (eqb (header_byte f 9) 1) 1 0 ∷ from10 in
      let from8 : List ℕ = header_byte f 8 ∷ from9 in
      let from7 : List ℕ = header_byte f 7 ∷ from8 in
      let from6 : List ℕ = header_byte f 6 ∷ from7 in
      let from5 : List ℕ = header_byte f 5 ∷ from6 in
      let from4 : List ℕ = header_byte f 4 ∷ from5 in
      stands_join letters from4 P 0 4 refl
      (λ i h. ap (λ (k : ℕ). get_or P k 0) (zero-add i) ∙ joined_header i (omega arith) ∙ eqb-true _ _ (every_at 4 _ (and_l _ _ t) i h))
      (stands_cons _ from5 P 4 (joined_header 4 (omega arith))
      (stands_cons _ from6 P 5 (joined_header 5 (omega arith))
      (stands_cons _ from7 P 6 (joined_header 6 (omega arith))
      (stands_cons _ from8 P 7 (joined_header 7 (omega arith))
      (stands_cons _ from9 P 8 (joined_header 8 (omega arith))
      (stands_cons _ from10 P 9 (joined_header 9 (omega arith) ∙ byte_note (header_byte f 9) (and_l _ _ v))
      (λ i h. zero_at i h ∙ sym (get_or-replicate {A = ℕ} 6 i 0 0 h))))))))

  -- the table's bytes, if there is one
  entries_stand : Stands (table_bytes (pair_of f) (note_of f) (entries_of f)) (payload_of f (length f / 512))
      (payload_length (n_c (pair_of f)) (n_a (pair_of f)) (sets_c (pair_of f)) (sets_a (pair_of f)) false)
  unfolding table_bytes entries_of
  entries_stand = cases (note_of f)
    where
      P : List ℕ
      P = payload_of f (length f / 512)

      at : ℕ
      at = payload_length (n_c (pair_of f)) (n_a (pair_of f)) (sets_c (pair_of f)) (sets_a (pair_of f)) false

      E : List ℕ
      E = table (entries (pair_of f)) (λ e. number_at 2 P (at + 2 * e))

      cases : (note : Bool) → Stands (cond note (numbers 2 (entries (pair_of f)) (λ e. get_or E e 0)) []) P at
      cases true = numbers_stand 2 (entries (pair_of f)) (λ e. get_or E e 0) P at (omega arith) (joined_bytes f (length f / 512) b) (λ e h. table_at (entries (pair_of f)) _ e 0 h)
      cases false = stands_nil P at

  parts_stand : Parts (pair_of f) (note_of f) (entries_of f) (payload_of f (length f / 512))
  unfolding pair_of machine_at
  parts_stand =
      let r = in_range_lem f w.start.counts in
      let P = payload_of f (length f / 512) in
      record {
        head = header_stands;
        concrete = machine_stands P 16 (header_byte f 4) (header_byte f 6) r.states_c r.sets_of_c (joined_bytes f (length f / 512) b);
        abstraction = machine_stands P (24 + 9 * header_byte f 4 + 8 * header_byte f 6) (header_byte f 5) (header_byte f 7) r.states_a (omega (arith, r.sets_of_a)) (joined_bytes f (length f / 512) b);
        entries = entries_stand;
      }

  -- the payload that is written from what was read
  R : List ℕ
  R = payload (pair_of f) (note_of f) (entries_of f)

  R_length : length R ≡ payload_demanded f
  unfolding R pair_of machine_at payload_demanded
  R_length = payload_length_lem (pair_of f) (note_of f) (entries_of f)

  R_blocks : blocks_for (length R) ≡ length f / 512
  unfolding blocks_for
  R_blocks = omega (arith, R_length, fits.ends, fits.last)

  padding_zero : (k : ℕ) → payload_demanded f ≤ k → k < 508 * (length f / 512) → payload_byte f k ≡ 0
  unfolding padding_holds
  padding_zero k l h =
      ⊎_elim (λ t. absurd (omega (arith, ltb-true k (payload_demanded f) t))) (λ t. eqb-true _ 0 t) (or_e (every_at (508 * (length f / 512)) _ w.rest.padding k h))

  payload_same : (k : ℕ) → k < 508 * (length f / 512) → get_or R k 0 ≡ payload_byte f k
  unfolding R
  payload_same k h = by_cases (dec_lt k (payload_demanded f))
      (λ l. sym (parts_join (pair_of f) (note_of f) (entries_of f) (payload_of f (length f / 512)) parts_stand k (omega (arith, R_length)))
      ∙ ap (λ (x : ℕ). get_or (payload_of f (length f / 512)) x 0) (zero-add k) ∙ joined_at k h)
      (λ l. get_or-eq_default (payload (pair_of f) (note_of f) (entries_of f)) 0 (omega (arith, R_length)) ∙ sym (padding_zero k (omega arith) h))

  -- ---- its blocks
  module _ (i : ℕ) (h : i < length f / 512) where
    number_stands : number_at 2 f (512 * i) ≡ i
    unfolding number_found
    number_stands = (all_blocks f w i h).1

    check_stands : number_at 2 f (512 * i + 510) ≡ check_at f (512 * i)
    unfolding check_holds
    check_stands = eqb-true _ _ (all_blocks f w i h).0

    front_same : (j : ℕ) → j < 510 → get_or (block_front R i) j 0 ≡ get_or f (512 * i + j) 0
    front_same j l = by_cases (dec_lt j 2)
        (λ q. front_number R i j q ∙ ap (λ (x : ℕ). byte_of x j) (sym number_stands) ∙ number_byte 2 f (512 * i) (λ t _. b (512 * i + t)) j q)
        (λ q. let e : 2 + (j - 2) ≡ j = omega arith in
        ap (λ (x : ℕ). get_or (block_front R i) x 0) (sym e) ∙ front_payload R i (j - 2) (omega arith) ∙ payload_same (508 * i + (j - 2)) (omega arith)
        ∙ ap (λ (x : ℕ). get_or f x 0) (omega arith))

    check_same : check_at (block_front R i) 0 ≡ number_at 2 f (512 * i + 510)
    check_same = check_cong (block_front R i) f 0 (512 * i) (λ j l. ap (λ (x : ℕ). get_or (block_front R i) x 0) (zero-add j) ∙ front_same j l) ∙ sym check_stands

    block_same : (j : ℕ) → j < 512 → get_or (block R i) j 0 ≡ get_or f (512 * i + j) 0
    block_same j l = by_cases (dec_lt j 510)
        (λ q. front_at R i j q ∙ front_same j q)
        (λ q. let e : 510 + (j - 510) ≡ j = omega arith in
        ap (λ (x : ℕ). get_or (block R i) x 0) (sym e) ∙ block_check R i (j - 510) (omega arith) ∙ ap (λ (x : ℕ). byte_of x (j - 510)) check_same
        ∙ number_byte 2 f (512 * i + 510) (λ t _. b (512 * i + 510 + t)) (j - 510) (omega arith) ∙ ap (λ (x : ℕ). get_or f x 0) (omega arith))

  -- ---- the file
  pub file_same : f ≡ file_of (pair_of f) (note_of f) (entries_of f)
  unfolding file_of R
  file_same = ext_get_or 0 f (blocked R) (fits.long ∙ ap (λ (n : ℕ). 512 * n) (sym R_blocks) ∙ sym (blocked_length R))
      (λ k h. let e : 512 * (k / 512) + k % 512 ≡ k = omega arith in
      ap (λ (x : ℕ). get_or f x 0) (sym e) ∙ sym (block_same (k / 512) (omega arith) (k % 512) (omega arith))
      ∙ sym (blocked_at R (k / 512) (k % 512) (omega (arith, R_blocks)) (omega arith)) ∙ ap (λ (x : ℕ). get_or (blocked R) x 0) e)
