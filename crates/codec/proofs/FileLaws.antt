-- The file laws, each as Statements.antt states it.
use Rattle.std.specs.Prelude.{Bool, true, false, cond, ◌≡◌, refl, List, ◌++◌, ℕ, suc, ◌+◌, ◌*◌, ◌/◌, ◌%◌, ◌≤◌, ◌<◌, length, take, drop, replicate, Err, Ok}
use Rattle.std.proofs.lemmas.Bool.{false≢true, eqb-false}
use Rattle.std.proofs.Common.{⊎_elim, sym, subst, ◌∙◌, arith, length-append, length-drop, get_or-take, take_at, take_all, length-take-le, eq-eqb, ne_eqb, eqb-true}
use Rattle.std.proofs.Math.Path.{ap, ap₂}
use Rattle.std.proofs.Math.Dec.{eqb}
use Rattle.std.proofs.Math.ListN.{get_or, get_or-append}
use Rattle.std.proofs.lemmas.List.{length-replicate}
use Rattle.mask.specs.Logic.{not, or}
use Rattle.mask.specs.LogicLaws.{clash, dec, and_true_l, or_false, not_f}
use Rattle.mask.specs.BoundedLaws.{every_cong}
use Rattle.mask.specs.TablesLaws.{table_length}
use Rattle.machine.specs.declared.Pair.{Pair}
use Rattle.machine.specs.declared.Refusal.{Refusal}
use Rattle.machine.specs.declared.Refusal.TheVariants.{BadBlock, BadPadding, Misplaced}
use Rattle.machine.specs.Refusals.{Tested, valid, number_of, and_then, buffer_after, buffer_validity}
use Rattle.machine.specs.RefusalsLaws.{then_of, then_refused, then_answer, then_cases, given_at, given_refused, RefusesOnly, refuses_none, refuses_at, refuses_cond, refuses_then, refuses_each, buffer_room, buffer_made}
use Rattle.machine.specs.Machines.{n_c, n_a, sets_c, sets_a}
use Rattle.machine.specs.Table.{entries, table_room}
use Rattle.machine.specs.WellFormed.{well_formed, pair_validity}
use Rattle.machine.specs.WellFormedLaws.{valid_is_well, pair_refuses}
use Rattle.machine.specs.EmptySetsLaws.{nonempty_valid, nonempty_at}
use Rattle.machine.specs.HiddenLaws.{matched_zero}
use Rattle.codec.specs.declared.Show.{Show}
use Rattle.codec.specs.Format.{letters, file_length, file_of}
use Rattle.codec.specs.Reader.{input_room, taken, number_found, damaged, block_validity, header_byte, note_of, header_holds, counts_hold, header_validity, first_validity, demanded, later_blocks, padding_holds, blocks_validity, payload_of, machine_at, pair_of, entries_of, read_validity, read_answer, read_table, size_of}
use Rattle.codec.specs.Writer.{file_room, write_validity, write_answer, write_buffer}
use Rattle.codec.specs.Answers.{read_of}
use Rattle.codec.specs.AnswersLaws.{read_taken, read_refused}
use Rattle.codec.specs.Statements.{Representable, AreBytes, WriteRead, ReadWrite, TableUnread, IsEarly, FirstBlock, FirstBlockTellsSize, TakenRepresentable, TakenHidden, StoredTest, StoredMatched, TakenFits, WriteAnswers, WrittenReads, ReadWrites, EntriesUnread}
use Rattle.codec.specs.FormatLaws.{file_length_lem, file_cong}
use Rattle.codec.specs.WriterLaws as writer
use Rattle.codec.specs.WriterLaws.{with_room, same_tests, answer_valid}
use Rattle.codec.proofs.ReaderLaws.{block_refuses, check_same, found_same, first_valid, blocks_valid, blocks_then, few_blocks, table_after, wrong_length_is}
use Rattle.codec.specs.PayloadLaws.{machine_representable}
use Rattle.codec.proofs.WriteReadLaws as written
use Rattle.codec.proofs.ReadWriteLaws.{whole, joined_bytes, file_same}

-- what is written reads back
pub write_read : WriteRead
write_read = written.write_read

-- ---- what was taken
taken_is : {p q : Pair} {m n : Bool} → taken p m ≡ taken q n → (p ≡ q) × (m ≡ n)
taken_is e = (cc, cc)

-- what a reading that took a file tells
pub record Was (f lent : List ℕ) (p : Pair) (note : Bool) : Type 0 where
  pub room : table_room ≤ length lent
  pub start : first_validity f ≡ valid
  pub blocks : blocks_validity f ≡ valid
  pub machines : pair_validity (pair_of f) ≡ valid
  pub pair_is : pair_of f ≡ p
  pub note_is : note_of f ≡ note
  pub table_is : read_table f lent ≡ cond note (entries_of f ++ drop (length (entries_of f)) lent) lent

pub was_taken : (f lent : List ℕ) (p : Pair) (note : Bool) → read_answer f lent ≡ Ok (taken p note) → Was f lent p note
unfolding read_answer read_validity read_table
was_taken f lent p note e =
    let t = given_at (read_validity f (length lent)) (taken (pair_of f) (note_of f)) e in
    let a = then_answer (buffer_validity table_room (length lent)) _ t.0 in
    let b = then_answer (first_validity f) _ a.1 in
    let c = then_answer (blocks_validity f) _ b.1 in
    let same = taken_is t.1 in
    record {
      room = buffer_room table_room (length lent) a.0;
      start = b.0;
      blocks = c.0;
      machines = c.1;
      pair_is = same.0;
      note_is = same.1;
      table_is = table_after f lent _ note t.0 same.1;
    }

kept_long : (n : Bool) (E lent : List ℕ) → length lent ≤ length (cond n (E ++ drop (length E) lent) lent)
kept_long true E lent = omega (arith, length-append E (drop (length E) lent), length-drop (length E) lent)
kept_long false E lent = omega arith

-- the table that was left has room, as the one that was lent has
pub was_long : {f lent : List ℕ} {p : Pair} {note : Bool} → Was f lent p note → table_room ≤ length (read_table f lent)
was_long {f} {lent} {p} {note} w = omega (arith, w.room, ap length w.table_is, kept_long note (entries_of f) lent)

-- the machines that were read are well formed
pub was_well : {f lent : List ℕ} {p : Pair} {note : Bool} → Was f lent p note → well_formed p ≡ true
was_well {f} {lent} {p} {note} w = valid_is_well p (ap pair_validity (sym w.pair_is) ∙ w.machines)

entries_length : (f : List ℕ) → length (entries_of f) ≡ entries (pair_of f)
unfolding entries_of
entries_length f = table_length (entries (pair_of f)) _

header_bytes : (f : List ℕ) → AreBytes f → (k : ℕ) → header_byte f k < 256
unfolding header_byte
header_bytes f b k = b (2 + k)

pub taken_representable : TakenRepresentable
unfolding pair_of
taken_representable f lent p note b e =
    let w = was_taken f lent p note e in
    let Q = payload_of f (length f / 512) in
    let bytes = joined_bytes f (length f / 512) b in
    subst Representable w.pair_is (record {
      concrete = machine_representable Q 16 (header_byte f 4) (header_byte f 6) bytes;
      abstraction = machine_representable Q (24 + 9 * header_byte f 4 + 8 * header_byte f 6) (header_byte f 5) (header_byte f 7) bytes;
      hidden_byte = header_bytes f b 8;
    })

-- ---- the hidden mask
pub taken_hidden : TakenHidden
unfolding pair_of
taken_hidden f lent p note e = sym (ap (λ (q : Pair). q.hidden) (was_taken f lent p note e).pair_is)

pub stored_test : StoredTest
unfolding header_holds
stored_test f e = rw (eq-eqb (header_byte f 8) 0 e, and_true_l _ refl)

pub stored_matched : StoredMatched
stored_matched f lent p note e z = matched_zero p (taken_hidden f lent p note e ∙ z)

pub taken_fits : TakenFits
taken_fits f lent p note e =
    let w = was_taken f lent p note e in
    let small : length f ≤ file_room =
    omega (arith, few_blocks f (first_valid f w.start) (blocks_valid f w.blocks).long, (first_valid f w.start).whole) in
    (small, take_all input_room f (omega arith))

-- ---- the machines, by what was read into a table of the room that the reader asks for
module _ (f : List ℕ) (s : Show) (read : read_of s ≡ read_answer f (replicate table_room 0)) where
  room : length (replicate {A = ℕ} table_room 0) ≡ table_room
  room = length-replicate {A = ℕ} table_room 0

  pub machines_refused : {r : Refusal} → s.reading ≡ Err r → read_validity f table_room ≡ Err r
  unfolding read_answer
  machines_refused e = ap (read_validity f) (sym room) ∙ given_refused _ _ (read_refused s read e)

  module _ {note : Bool} (e : s.reading ≡ Ok note) where
    pub machines_taken : read_validity f table_room ≡ valid
    unfolding read_answer
    machines_taken = ap (read_validity f) (sym room) ∙ (given_at _ _ (read_taken s read e)).0

    pub machines_pair : s.pair ≡ pair_of f
    machines_pair = sym (was_taken f (replicate table_room 0) s.pair note (read_taken s read e)).pair_is

-- machines that were read are well formed
pub read_well : (f : List ℕ) (room : ℕ) → read_validity f room ≡ valid → pair_validity (pair_of f) ≡ valid
unfolding read_validity
read_well f len e = (then_answer _ _ (then_answer _ _ (then_answer _ _ e).1).1).1

-- ---- what was taken is written again
pub read_write : ReadWrite
read_write f lent p note b e =
    let w = was_taken f lent p note e in
    let own : f ≡ file_of p note (entries_of f) =
    file_same f b (whole f w.start w.blocks) ∙ ap₂ (λ (q : Pair) (m : Bool). file_of q m (entries_of f)) w.pair_is w.note_is in (
      own,
      own ∙ file_cong p note (entries_of f) (read_table f lent) (λ t k h. sym (ap (λ (l : List ℕ). get_or l k 0) w.table_is ∙ entry note t k
          (omega (arith, entries_length f, ap entries w.pair_is)))),
    )
  where
    entry : (n : Bool) → n ≡ true → (k : ℕ) → k < length (entries_of f)
        → get_or (cond n (entries_of f ++ drop (length (entries_of f)) lent) lent) k 0 ≡ get_or (entries_of f) k 0
    entry n t k h = rw t (get_or-append (entries_of f) (drop (length (entries_of f)) lent) 0 k h)

pub table_unread : TableUnread
table_unread p T U = file_cong p false T U (λ t. absurd (false≢true t))

-- ---- what the calls say and write
pub write_answers : WriteAnswers
write_answers = writer.write_answers

pub written_reads : WrittenReads
written_reads p note T buffer lent n r b room e =
    let t = answer_valid p note T buffer e in
    let file = file_of p note T in
    let cut : take n (write_buffer p note T buffer) ≡ file =
    ap (take n) t.1 ∙ take_at file (drop (length file) buffer) n (file_length_lem p note T ∙ sym t.2) in
    rw cut (write_read p note T lent r (valid_is_well p (nonempty_at p t.0).0) b room)

pub read_writes : ReadWrites
unfolding write_answer write_buffer
read_writes f lent buffer p note b room e nonempty =
    let w = was_taken f lent p note e in
    let T = read_table f lent in
    let long = was_long w in
    let v : write_validity p (length T) (length buffer) ≡ valid = with_room p (length T) (length buffer) long room ∙ nonempty_valid p (was_well w) nonempty in
    let same = (read_write f lent p note b e).1 in (
      then_of _ _ v ∙ ap Ok (sym (file_length_lem p note T) ∙ ap length (sym same)),
      buffer_made _ _ buffer v ∙ ap (λ (l : List ℕ). l ++ drop (length l) buffer) (sym same),
    )

pub entries_unread : EntriesUnread
unfolding write_answer write_buffer
entries_unread p note T U buffer h k same =
    let v = same_tests p (length T) (length U) (length buffer) h k in (
      ap (λ (t : Tested). and_then t (Ok (file_length (n_c p) (n_a p) (sets_c p) (sets_a p) note))) v,
      ap₂ (λ (t : Tested) (f : List ℕ). buffer_after t f buffer) v (file_cong p note T U (λ t. same)),
    )

-- ---- what the first block tells
-- the test of refusal 2
abbrev pub ragged : List ℕ → Bool
ragged f = or (eqb (length f) 0) (not (eqb (length f % 512) 0))

same_start : (f g : List ℕ) → take 512 f ≡ take 512 g → (i : ℕ) → i < 512 → get_or f i 0 ≡ get_or g i 0
same_start f g start i h = sym (get_or-take 512 f i 0 h) ∙ ap (λ (l : List ℕ). get_or l i 0) start ∙ get_or-take 512 g i 0 h

-- of two files of which the first 512 bytes are the same
module _ (f g : List ℕ) (same : (i : ℕ) → i < 512 → get_or f i 0 ≡ get_or g i 0) where
  header_same : (k : ℕ) → k < 16 → header_byte f k ≡ header_byte g k
  unfolding header_byte
  header_same k h = same (2 + k) (omega arith)

  note_same : note_of f ≡ note_of g
  unfolding note_of
  note_same = rw (header_same 9 (omega arith))

  block_same : block_validity f 0 ≡ block_validity g 0
  unfolding block_validity
  block_same =
      let bytes : (j : ℕ) → j < 512 → get_or f (512 * 0 + j) 0 ≡ get_or g (512 * 0 + j) 0 = λ j h. same (512 * 0 + j) (omega arith) in
      rw (check_same f g 0 0 bytes, found_same f g 0 0 bytes)

  holds_same : header_holds f ≡ header_holds g
  unfolding header_holds
  holds_same = rw (
    every_cong 4 _ _ (λ i h. ap (λ (x : ℕ). eqb x (get_or letters i 0)) (header_same i (omega arith))),
    header_same 9 (omega arith),
    every_cong 6 _ _ (λ i h. ap (λ (x : ℕ). eqb x 0) (header_same (10 + i) (omega arith))),
  )

  counts_same : counts_hold f ≡ counts_hold g
  unfolding counts_hold
  counts_same = rw (header_same 4 (omega arith), header_same 5 (omega arith), header_same 6 (omega arith), header_same 7 (omega arith))

  pub first_same : ragged f ≡ ragged g → first_validity f ≡ first_validity g
  unfolding first_validity header_validity
  first_same e = rw (e, block_same, holds_same, counts_same)

  pub demanded_same : demanded f ≡ demanded g
  unfolding demanded
  demanded_same = rw (header_same 4 (omega arith), header_same 5 (omega arith), header_same 6 (omega arith), header_same 7 (omega arith), note_same)

  size_same : ragged f ≡ ragged g → size_of f ≡ size_of g
  unfolding size_of
  size_same e = ap₂ (λ (v : Tested) (n : ℕ). and_then v (Ok n)) (first_same e) demanded_same

  -- of two files of one length
  ragged_same : length f ≡ length g → ragged f ≡ ragged g
  ragged_same long = rw long

-- the refusals that come later
abbrev IsLate : Refusal → Type 0
IsLate r = IsEarly r → ⊥

late_at : (r : Refusal) → 7 ≤ number_of r → (number_of r ≡ 19 → ⊥) → IsLate r
late_at r h m early = ⊎_elim (λ q. omega arith) (λ q. m (ap number_of q.1)) early

later_misplaced : (i n : ℕ) → IsLate (Misplaced (suc i) n)
later_misplaced i n early = ⊎_elim (λ q. omega arith) (λ q. cc) early

-- the counts were tested before
pair_late : (f : List ℕ) → counts_hold f ≡ true → RefusesOnly IsLate (pair_validity (pair_of f))
unfolding pair_of machine_at counts_hold
pair_late f t = pair_refuses IsLate (λ r l h. late_at r (omega arith) (λ e. omega arith)) (pair_of f) (λ e. absurd (clash e t))

-- and so was the length
blocks_late : (f : List ℕ) → length f ≡ demanded f → RefusesOnly IsLate (blocks_validity f)
unfolding later_blocks damaged
blocks_late f e = subst (RefusesOnly IsLate) (sym (blocks_then f e))
    (refuses_then IsLate (later_blocks f) _
    (refuses_each IsLate _ _ (λ i l v. block_refuses f (suc i) IsLate
    (λ t. late_at (BadBlock (suc i)) (omega arith) (λ q. omega arith))
    (λ t n. later_misplaced i (number_found f (suc i)))))
    (λ v. refuses_cond IsLate (not (padding_holds f)) _ _ (λ t. refuses_at IsLate _ (late_at BadPadding (omega arith) (λ q. omega arith))) (λ t. refuses_none IsLate)))

early_same : (f g : List ℕ) (len : ℕ) → length f ≡ length g → take 512 f ≡ take 512 g → (r : Refusal) → IsEarly r
    → read_validity f len ≡ Err r → read_validity g len ≡ Err r
unfolding read_validity
early_same f g len long start r early e = ⊎_elim
    (λ t. then_refused _ _ r t)
    (λ t. then_of _ _ t.0 ∙ ⊎_elim
    (λ u. then_refused _ _ r (sym first ∙ u))
    (λ u. then_of _ _ (sym first ∙ u.0) ∙ later u.0 u.1)
    (then_cases (first_validity f) _ r t.1))
    (then_cases (buffer_validity table_room len) _ r e)
  where
    same : (i : ℕ) → i < 512 → get_or f i 0 ≡ get_or g i 0
    same = same_start f g start

    first : first_validity f ≡ first_validity g
    first = first_same f g same (ragged_same f g same long)

    later : first_validity f ≡ valid → and_then (blocks_validity f) (pair_validity (pair_of f)) ≡ Err r → and_then (blocks_validity g) (pair_validity (pair_of g)) ≡ Err r
    later v e = ⊎_elim
        (λ t. absurd (refuses_then IsLate (blocks_validity f) (pair_validity (pair_of f)) (blocks_late f (eqb-true _ _ t)) (λ _. pair_late f (first_valid f v).counts) r e early))
        (λ t. let wrong : length f ≡ demanded f → ⊥ = eqb-false _ _ t in
        then_refused _ _ _ (wrong_length_is g (λ q. wrong (long ∙ q ∙ sym (demanded_same f g same)))) ∙ sym (then_refused _ _ _ (wrong_length_is f wrong)) ∙ e)
        (dec (eqb (length f) (demanded f)))

pub first_block : FirstBlock
unfolding read_answer
first_block f g lent long start =
    let same = same_start f g start in (
      first_same f g same (ragged_same f g same long),
      demanded_same f g same,
      size_same f g same (ragged_same f g same long),
      λ r early e. then_refused _ _ r (early_same f g (length lent) long start r early (given_refused _ _ e)),
    )

-- whole blocks are not stopped by refusal 2
pub not_ragged : (f : List ℕ) → (length f ≡ 0 → ⊥) → length f % 512 ≡ 0 → ragged f ≡ false
not_ragged f some whole = or_false (ne_eqb (length f) 0 some) (not_f (eq-eqb (length f % 512) 0 whole))

pub first_block_tells_size : FirstBlockTellsSize
first_block_tells_size f some whole =
    let one : length (take 512 f) ≡ 512 = length-take-le 512 f (omega arith) in
    size_same (take 512 f) f (same_start (take 512 f) f (take_all 512 (take 512 f) (omega arith)))
    (not_ragged (take 512 f) (omega arith) (omega arith) ∙ sym (not_ragged f some whole))
