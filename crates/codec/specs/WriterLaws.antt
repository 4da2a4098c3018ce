-- Laws of the format that the writer goes by: the stores of its parts, and what one number or one block more adds.
use Rattle.std.specs.Prelude.{◌≡◌, Bool, true, false, cond, List, [], ◌∷◌, ◌++◌, ℕ, ◌+◌, ◌*◌, ◌/◌, ◌%◌, ◌≤◌, ◌<◌, length, take, drop, replicate, Err, Ok}
use Rattle.std.proofs.Math.Path.{refl, sym, ap, ap₂}
use Rattle.std.proofs.Common.{◌∙◌, arith, length-append, length-take-le, get_or-take, take_at, append-nil, append_assoc, mul_comm}
use Rattle.std.proofs.Math.ListN.{get_or}
use Rattle.std.proofs.lemmas.Nat.{div_below}
use borrow.Rule.Slice.PartMut.{put_mid}
use mir.Val.{bool_byte}
use Rattle.mask.specs.Tables.{table, front}
use Rattle.mask.specs.FrontLaws.{front_padded}
use Rattle.mask.specs.TablesLaws.{table_length, table_cong}
use Rattle.machine.specs.declared.Machine.{Machine}
use Rattle.machine.specs.declared.Pair.{Pair}
use Rattle.machine.specs.Machines.{observation, successors, fair_set, n_c, n_a, sets_c, sets_a}
use Rattle.machine.specs.Table.{entries, table_room}
use Rattle.machine.specs.declared.Refusal.{Refusal}
use Rattle.machine.specs.Refusals.{valid, and_then, buffer_validity}
use Rattle.machine.specs.RefusalsLaws.{then_of, then_refused, then_answer, given_at, buffer_valid, buffer_short, buffer_made, buffer_kept}
use Rattle.machine.specs.WellFormed.{nonempty_validity, nonempty_sets, well_formed}
use Rattle.machine.specs.WellFormedLaws.{WellPair, well_pair, well_valid, pairs_small, entries_small}
use Rattle.machine.specs.EmptySetsLaws.{nonempty_valid, nonempty_at}
use Rattle.codec.specs.Writer.{file_room, write_validity, write_answer, write_buffer}
use Rattle.codec.specs.Format.{byte_of, bytes_of, numbers, header, machine_bytes, table_bytes, payload, payload_most, payload_length, blocks_for, file_length, check_at, block_of, block_front, block, blocked, file_of}
use Rattle.codec.specs.NumberLaws.{bytes_length, numbers_length}
use Rattle.codec.specs.FrontLaws.{front_part}
use Rattle.codec.specs.ListLaws.{table_of_lem, rows_more, part_table, part_next, part_last}
use Rattle.codec.specs.FormatLaws.{header_length, machine_length, payload_length_lem, payload_small, blocks_small, block_length, block_cong}
use Rattle.machine.specs.declared.Refusal.TheVariants.{ShortBuffer}

-- ---- numbers, one a turn
pub numbers_none : (n : ℕ) (l : List ℕ) (f : ℕ → ℕ) → l ≡ numbers n 0 f ++ drop (n * 0) l
unfolding numbers table
numbers_none n l f = let e : n * 0 ≡ 0 = omega arith in rw e

pub numbers_more : (n count : ℕ) (f : ℕ → ℕ) → 0 < n → numbers n (count + 1) f ≡ numbers n count f ++ bytes_of n (f count)
unfolding numbers bytes_of
numbers_more n count f h = rows_more n count (λ k. byte_of (f k)) h

pub store_next : (n : ℕ) (l s ys : List ℕ) (count : ℕ) (f : ℕ → ℕ) (at k : ℕ) → 0 < n → s ≡ numbers n count f ++ drop (n * count) l → ys ≡ bytes_of n (f count)
    → at ≡ n * count → k ≡ n → put_mid at k s ys ≡ numbers n (count + 1) f ++ drop (n * (count + 1)) l
store_next n l s ys count f at k some e g p q =
    let more : n * count + n ≡ n * (count + 1) = omega arith in
    rw (e, g, p, q, numbers_more n count f some, ← more) (part_next (numbers n count f) l (bytes_of n (f count)) (n * count) n (numbers_length n count f) (bytes_length n (f count)))

-- the numbers at the front of a list
pub numbers_front : (n count : ℕ) (xs : List ℕ) → 0 < n → count ≤ length xs
    → numbers n (length (take count xs)) (λ i. get_or (take count xs) i 0) ≡ numbers n count (λ i. get_or xs i 0)
unfolding numbers
numbers_front n count xs some h =
    ap (λ (m : ℕ). numbers n m (λ i. get_or (take count xs) i 0)) (length-take-le count xs h)
    ∙ table_cong (n * count) _ _ (λ i l. ap (λ (x : ℕ). byte_of x (i % n)) (get_or-take count xs (i / n) 0 (div_below i n count some (rw mul_comm at l))))

-- ---- the header, with the note as the code makes it a byte
pub note_byte : (note : Bool) → bool_byte note ≡ cond note 1 0
note_byte true = refl
note_byte false = refl

-- ---- a machine: observations, start mask, successor masks, sets
pub store_machine : (m : Machine) (l o s ms fs : List ℕ) (k₁ k₂ k₃ : ℕ) → let N = m.states in length l ≡ 9 * N + 8 * m.sets + 8 → k₁ ≡ 8 → k₂ ≡ 8 * N → k₃ ≡ 8 * m.sets
    → o ≡ table N (λ i. get_or m.observations i 0) → s ≡ bytes_of 8 m.start → ms ≡ numbers 8 N (λ i. get_or m.successors i 0) → fs ≡ numbers 8 m.sets (λ i. get_or m.fairness i 0)
    → put_mid (N + 8 + 8 * N) k₃ (put_mid (N + 8) k₂ (put_mid N k₁ (o ++ drop N l) s) ms) fs ≡ machine_bytes m
unfolding machine_bytes observation successors fair_set
store_machine m l o s ms fs k₁ k₂ k₃ room e₁ e₂ e₃ o_is s_is ms_is fs_is =
    let N = m.states in
    let O = table N (λ i. get_or m.observations i 0) in
    let S = bytes_of 8 m.start in
    let M = numbers 8 N (λ i. get_or m.successors i 0) in
    let F = numbers 8 m.sets (λ i. get_or m.fairness i 0) in
    let O_long = table_length N (λ i. get_or m.observations i 0) in
    let S_long = bytes_length 8 m.start in
    let M_long = numbers_length 8 N (λ i. get_or m.successors i 0) in
    let F_long = numbers_length 8 m.sets (λ i. get_or m.fairness i 0) in
    rw (o_is, s_is, ms_is, fs_is, e₁, e₂, e₃)
    (ap (λ (x : List ℕ). put_mid (N + 8 + 8 * N) (8 * m.sets) (put_mid (N + 8) (8 * N) x M) F) (part_next O l S N 8 O_long S_long)
    ∙ ap (λ (x : List ℕ). put_mid (N + 8 + 8 * N) (8 * m.sets) x F) (part_next (O ++ S) l M (N + 8) (8 * N) (length-append O S ∙ omega (arith, O_long, S_long)) M_long)
    ∙ part_next ((O ++ S) ++ M) l F (N + 8 + 8 * N) (8 * m.sets) (length-append (O ++ S) M ∙ omega (arith, length-append O S, O_long, S_long, M_long)) F_long
    ∙ part_last (((O ++ S) ++ M) ++ F) l (N + 8 + 8 * N + 8 * m.sets) (omega (arith, room))
    ∙ append_assoc (O ++ S) M F ∙ append_assoc O S (M ++ F))

-- the counts of a well-formed pair are small
pub formed_small : (p : Pair) → well_formed p ≡ true
    → (p.concrete.states ≤ 64) × (p.abstraction.states ≤ 64) × (p.concrete.sets ≤ 8) × (p.abstraction.sets ≤ 7) × (p.concrete.states * p.abstraction.states ≤ 4096)
    × (p.abstraction.sets * (p.concrete.states * p.abstraction.states) ≤ table_room)
formed_small p t =
    let w = well_pair p t in (w.concrete.states_high, w.abstraction.states_high, w.concrete.sets_high, w.abstraction.sets_high, pairs_small p w, entries_small p w)

-- ---- the payload: header, machines and table written over the front of l
module _ (p : Pair) (note : Bool) (T l h c a : List ℕ) (i j k₁ k₂ : ℕ)
    (h_is : h ≡ header p note) (c_is : c ≡ machine_bytes p.concrete) (a_is : a ≡ machine_bytes p.abstraction)
    (i_is : i ≡ 16 + (9 * n_c p + 8 * sets_c p + 8)) (j_is : j ≡ i + (9 * n_a p + 8 * sets_a p + 8))
    (k₁_is : 16 + k₁ ≡ i) (k₂_is : i + k₂ ≡ j) where
  -- what stands before the table
  abbrev before : List ℕ
  before = (header p note ++ machine_bytes p.concrete) ++ machine_bytes p.abstraction

  before_long : length before ≡ j
  before_long =
      length-append (header p note ++ machine_bytes p.concrete) (machine_bytes p.abstraction)
      ∙ omega (arith, length-append (header p note) (machine_bytes p.concrete), header_length p note, machine_length p.concrete, machine_length p.abstraction, i_is, j_is)

  store_before : put_mid i k₂ (put_mid 16 k₁ (h ++ drop 16 l) c) a ≡ before ++ drop j l
  store_before =
      let H = header p note in
      let C = machine_bytes p.concrete in
      let A = machine_bytes p.abstraction in
      let first : put_mid 16 k₁ (H ++ drop 16 l) C ≡ (H ++ C) ++ drop i l =
      part_next H l C 16 k₁ (header_length p note) (machine_length p.concrete ∙ omega (arith, i_is, k₁_is)) ∙ ap (λ (n : ℕ). (H ++ C) ++ drop n l) k₁_is in
      rw (h_is, c_is, a_is)
      (ap (λ (x : List ℕ). put_mid i k₂ x A) first
      ∙ part_next (H ++ C) l A i k₂ (length-append H C ∙ omega (arith, header_length p note, machine_length p.concrete, i_is)) (machine_length p.abstraction ∙ omega (arith, j_is, k₂_is))
      ∙ ap (λ (n : ℕ). before ++ drop n l) k₂_is)

  -- the payload's length and its bytes, with a table and without
  pub store_table : note ≡ true → (e : List ℕ) (k end : ℕ) → e ≡ numbers 2 (entries p) (λ e. get_or T e 0) → j + 2 * entries p ≡ end → j + k ≡ end
      → (end ≡ payload_length (n_c p) (n_a p) (sets_c p) (sets_a p) note)
      × (put_mid j k (put_mid i k₂ (put_mid 16 k₁ (h ++ drop 16 l) c) a) e ≡ payload p note T ++ drop end l)
  unfolding payload table_bytes payload_length
  store_table t e k end e_is end_is k_is =
      let H = header p note in
      let C = machine_bytes p.concrete in
      let A = machine_bytes p.abstraction in
      let E = numbers 2 (entries p) (λ e. get_or T e 0) in (
        rw t (omega (arith, i_is, j_is, end_is)),
        ap₂ (put_mid j k) store_before e_is
            ∙ part_next before l E j k before_long (numbers_length 2 (entries p) (λ e. get_or T e 0) ∙ omega (arith, end_is, k_is))
            ∙ ap₂ (λ (x : List ℕ) (n : ℕ). x ++ drop n l) (append_assoc (H ++ C) A E ∙ append_assoc H C (A ++ E)) k_is
            ∙ ap (λ (b : Bool). (H ++ (C ++ (A ++ cond b E []))) ++ drop end l) (sym t),
      )

  pub store_no_table : note ≡ false
      → (j ≡ payload_length (n_c p) (n_a p) (sets_c p) (sets_a p) note)
      × (put_mid i k₂ (put_mid 16 k₁ (h ++ drop 16 l) c) a ≡ payload p note T ++ drop j l)
  unfolding payload table_bytes payload_length
  store_no_table t =
      let H = header p note in
      let C = machine_bytes p.concrete in
      let A = machine_bytes p.abstraction in
      let E = numbers 2 (entries p) (λ e. get_or T e 0) in (
        rw t (omega (arith, i_is, j_is)),
        store_before
            ∙ ap (λ (x : List ℕ). x ++ drop j l) (append_assoc H C A ∙ ap (λ (x : List ℕ). H ++ (C ++ x)) (sym (append-nil A)))
            ∙ ap (λ (b : Bool). (H ++ (C ++ (A ++ cond b E []))) ++ drop j l) (sym t),
      )

-- a number's low two bytes are those of its remainder
pub low_two : (x : ℕ) → bytes_of 2 (x % 65536) ≡ bytes_of 2 x
unfolding bytes_of table byte_of
low_two x =
    let low : x % 65536 / 1 % 256 ≡ x / 1 % 256 = omega arith in
    let high : x % 65536 / 256 % 256 ≡ x / 256 % 256 = omega arith in
    ap₂ (λ (a b : ℕ). a ∷ b ∷ []) low high

-- ---- a block: number, part of the payload and check written over l
module _ (part l number middle : List ℕ) (i : ℕ) (room : length l ≡ 512) (long : length part ≡ 508) (number_is : number ≡ bytes_of 2 i) (middle_is : middle ≡ part) where
  abbrev fronted : List ℕ
  fronted = bytes_of 2 i ++ part

  fronted_long : length fronted ≡ 510
  fronted_long = length-append (bytes_of 2 i) part ∙ omega (arith, bytes_length 2 i, long)

  store_front : put_mid 2 508 (number ++ drop 2 l) middle ≡ fronted ++ drop 510 l
  store_front = rw (number_is, middle_is) (part_next (bytes_of 2 i) l part 2 508 (bytes_length 2 i) long)

  pub front_is : take 510 (put_mid 2 508 (number ++ drop 2 l) middle) ≡ fronted
  front_is = ap (take 510) store_front ∙ take_at fronted (drop 510 l) 510 fronted_long

  pub front_long : length (take 510 (put_mid 2 508 (number ++ drop 2 l) middle)) ≡ 510
  front_long = ap length front_is ∙ fronted_long

  pub store_block : (check : ℕ) (last : List ℕ) → check ≡ check_at (take 510 (put_mid 2 508 (number ++ drop 2 l) middle)) 0 → last ≡ bytes_of 2 check
      → put_mid 510 2 (put_mid 2 508 (number ++ drop 2 l) middle) last ≡ block_of part i
  unfolding block_of
  store_block check last e f =
      let sum = bytes_of 2 (check_at fronted 0) in
      ap₂ (put_mid 510 2) store_front (f ∙ ap (bytes_of 2) (e ∙ ap (λ (x : List ℕ). check_at x 0) front_is))
      ∙ part_next fronted l sum 510 2 fronted_long (bytes_length 2 (check_at fronted 0)) ∙ part_last (fronted ++ sum) l 512 (omega (arith, room))

-- the block of a payload that has this part
pub block_is : (Q part : List ℕ) (i m : ℕ) → part ≡ take m (drop (508 * i) Q) → m ≡ 508 → 508 * i + 508 ≤ length Q → block_of part i ≡ block Q i
unfolding block_of block block_front
block_is Q part i m e f h =
    ap (λ (x : List ℕ). block_of x i)
    (e ∙ part_table Q (508 * i) m (λ k. get_or Q (508 * i + k) 0) (omega arith) (λ k l. refl) ∙ ap (λ (n : ℕ). table n (λ k. get_or Q (508 * i + k) 0)) f)

-- ---- blocks, one a turn
pub store_blocks : (Q l s new part : List ℕ) (i k m : ℕ) → let g : ℕ → ℕ = λ k. get_or (block Q (k / 512)) (k % 512) 0 in s ≡ front (512 * i) g l
    → new ≡ block_of part i → part ≡ take m (drop (508 * i) Q) → m ≡ 508 → 508 * i + 508 ≤ length Q → k ≡ 512 → put_mid (512 * i) k s new ≡ front (512 * (i + 1)) g l
store_blocks Q l s new part i k m e f p q h z =
    let g : ℕ → ℕ = λ k. get_or (block Q (k / 512)) (k % 512) 0 in
    let more : 512 * i + 512 ≡ 512 * (i + 1) = omega arith in
    ap (λ (k : ℕ). put_mid (512 * i) k s new) z
    ∙ front_part g l s new (512 * i) 512 e
    (f ∙ block_is Q part i m p q h ∙ sym (table_of_lem 0 512 (block Q i) (block_length Q i))
    ∙ table_cong 512 _ _ (λ k l. ap₂ (λ (x y : ℕ). get_or (block Q x) y 0) (omega arith) (omega arith)))
    ∙ ap (λ (n : ℕ). front n g l) more

-- ---- a file: the payload, whose length is len, is stored over zeros, then cut into blocks
pub length_small : (p : Pair) (note : Bool) (len : ℕ) → WellPair p → len ≡ payload_length (n_c p) (n_a p) (sets_c p) (sets_a p) note → len ≤ payload_most
length_small p note len w e = omega (arith, payload_small p note w)

pub file_end : (p : Pair) (note : Bool) (len : ℕ) → len ≡ payload_length (n_c p) (n_a p) (sets_c p) (sets_a p) note
    → 512 * ((len + 507) / 508) ≡ file_length (n_c p) (n_a p) (sets_c p) (sets_a p) note
unfolding file_length blocks_for
file_end p note len e = ap (λ (n : ℕ). 512 * ((n + 507) / 508)) e

pub store_file : (p : Pair) (note : Bool) (T R l s : List ℕ) (zeros len : ℕ)
    → len ≡ payload_length (n_c p) (n_a p) (sets_c p) (sets_a p) note → R ≡ payload p note T ++ drop len (replicate zeros 0)
    → s ≡ front (512 * ((len + 507) / 508)) (λ k. get_or (block R (k / 512)) (k % 512) 0) l → s ≡ file_of p note T ++ drop (length (file_of p note T)) l
unfolding file_of blocked blocks_for
store_file p note T R l s zeros len len_is e f =
    let Q = payload p note T in
    let Q_length : length Q ≡ len = payload_length_lem p note T ∙ sym len_is in
    let padded = front_padded (λ k. get_or Q k 0) zeros len (e ∙ ap (λ (x : List ℕ). x ++ drop len (replicate zeros 0)) (sym (table_of_lem 0 len Q Q_length))) in
    let same = table_cong (512 * ((len + 507) / 508)) (λ k. get_or (block R (k / 512)) (k % 512) 0) (λ k. get_or (block Q (k / 512)) (k % 512) 0)
    (λ k h. ap (λ (x : List ℕ). get_or x (k % 512) 0) (block_cong R Q (k / 512) (λ j r.
    padded (508 * (k / 512) + j) ∙ ap (λ (x : List ℕ). get_or x (508 * (k / 512) + j) 0) (table_of_lem 0 len Q Q_length)))) in
    let g : ℕ → ℕ = λ k. get_or (block Q (k / 512)) (k % 512) 0 in
    f ∙ ap (λ (x : List ℕ). x ++ drop (512 * ((len + 507) / 508)) l) same
    ∙ ap (λ (m : ℕ). front (512 * ((m + 507) / 508)) g l) (sym Q_length)
    ∙ ap (λ (n : ℕ). table (512 * ((length Q + 507) / 508)) g ++ drop n l) (sym (table_length (512 * ((length Q + 507) / 508)) g))

-- ---- the whole answer, and what the buffer holds then
pub short_table : (p : Pair) (table_len buffer_len : ℕ) → table_len < table_room → write_validity p table_len buffer_len ≡ Err ShortBuffer
unfolding write_validity
short_table p table_len buffer_len h = then_refused _ _ _ (buffer_short table_room table_len h)

-- a table with room tells nothing
with_table : (p : Pair) (table_len buffer_len : ℕ) → table_room ≤ table_len → write_validity p table_len buffer_len ≡ and_then (buffer_validity file_room buffer_len) (nonempty_validity p)
unfolding write_validity
with_table p table_len buffer_len h = then_of _ _ (buffer_valid table_room table_len h)

pub short_file : (p : Pair) (table_len buffer_len : ℕ) → table_room ≤ table_len → buffer_len < file_room → write_validity p table_len buffer_len ≡ Err ShortBuffer
short_file p table_len buffer_len h k = with_table p table_len buffer_len h ∙ then_refused _ _ _ (buffer_short file_room buffer_len k)

pub with_room : (p : Pair) (table_len buffer_len : ℕ) → table_room ≤ table_len → file_room ≤ buffer_len → write_validity p table_len buffer_len ≡ nonempty_validity p
with_room p table_len buffer_len h k = with_table p table_len buffer_len h ∙ then_of _ _ (buffer_valid file_room buffer_len k)

-- of lent tables with room it makes no difference which
pub same_tests : (p : Pair) (m n buffer_len : ℕ) → table_room ≤ m → table_room ≤ n → write_validity p m buffer_len ≡ write_validity p n buffer_len
same_tests p m n buffer_len h k = with_table p m buffer_len h ∙ sym (with_table p n buffer_len k)

module _ (p : Pair) (note : Bool) (T buffer : List ℕ) where
  pub write_refused : {r : Refusal} → write_validity p (length T) (length buffer) ≡ Err r
      → (Err r ≡ write_answer p note T buffer) × (buffer ≡ write_buffer p note T buffer)
  unfolding write_answer write_buffer
  write_refused e = (sym (then_refused _ _ _ e), sym (buffer_kept _ _ buffer e))

  pub write_valid : {n : ℕ} → write_validity p (length T) (length buffer) ≡ valid → n ≡ file_length (n_c p) (n_a p) (sets_c p) (sets_a p) note
      → (Ok n ≡ write_answer p note T buffer) × (file_of p note T ++ drop (length (file_of p note T)) buffer ≡ write_buffer p note T buffer)
  unfolding write_answer write_buffer
  write_valid e z = (ap Ok z ∙ sym (then_of _ _ e), sym (buffer_made _ _ buffer e))

  -- the writer answers where machines are well formed, each set has a state and both buffers have room
  pub write_answers : well_formed p ≡ true → nonempty_sets p ≡ true → table_room ≤ length T → file_room ≤ length buffer
      → write_answer p note T buffer ≡ Ok (file_length (n_c p) (n_a p) (sets_c p) (sets_a p) note)
  unfolding write_answer
  write_answers t nonempty h k = then_of _ _ (with_room p (length T) (length buffer) h k ∙ nonempty_valid p t nonempty)

  -- and only there
  pub answer_valid : {n : ℕ} → write_answer p note T buffer ≡ Ok n
      → (nonempty_validity p ≡ valid) × (write_buffer p note T buffer ≡ file_of p note T ++ drop (length (file_of p note T)) buffer) × (n ≡ file_length (n_c p) (n_a p) (sets_c p) (sets_a p) note)
  unfolding write_answer write_buffer write_validity
  answer_valid e =
      let t = given_at (write_validity p (length T) (length buffer)) _ e in
      let a = then_answer (buffer_validity table_room (length T)) _ t.0 in
      ((then_answer (buffer_validity file_room (length buffer)) (nonempty_validity p) a.1).1, buffer_made _ _ buffer t.0, sym t.1)

  -- the file has room in the buffer
  pub answer_small : {n : ℕ} → write_answer p note T buffer ≡ Ok n → n ≤ file_room
  unfolding file_length
  answer_small e =
      let t = answer_valid e in
      omega (arith, t.2, blocks_small _ (payload_small p note (well_valid p (nonempty_at p t.0).0)))
