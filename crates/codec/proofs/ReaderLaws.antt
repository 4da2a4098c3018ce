-- Laws of reading: what the tests of a file give, and what each part of the reader computes, as the definitions of Reader say it.
use Rattle.std.specs.Prelude.{Bool, true, false, cond, List, [], ◌++◌, ◌≡◌, refl, ℕ, zero, suc, ◌+◌, ◌-◌, ◌*◌, ◌/◌, ◌%◌, ◌≤◌, ◌<◌, length, take, drop, replicate, ltb, Err}
use Rattle.std.proofs.Common.{⊎_elim, ◌∙◌, arith, length-drop, length-take-le, get_or-take, get_or-drop}
use Rattle.std.proofs.Math.Logic.{by_cases}
use Rattle.std.proofs.Math.Path.{sym, ap, ap₂}
use Rattle.std.proofs.Math.Decide.{dec_lt}
use Rattle.std.proofs.Math.ListN.{get_or}
use Rattle.std.proofs.lemmas.List.{length-replicate}
use Rattle.std.proofs.Math.Dec.{eqb}
use borrow.Author.Tests.{eqb-true, eqb-false, eq-eqb, ne_eqb, lt-ltb, ltb-true}
use Rattle.mask.specs.Logic.{not, or}
use Rattle.mask.specs.LogicLaws.{both, and_l, and_r, or_none, or_l, or_r, or_e, not_i, not_e, not_f, not_false}
use Rattle.mask.specs.Bounded.{every}
use Rattle.mask.specs.BoundedLaws.{every_at, every_of, every_cong}
use Rattle.mask.specs.Tables.{table}
use Rattle.mask.specs.TablesLaws.{table_length, table_cong}
use Rattle.machine.specs.Machines.{pair_under}
use Rattle.machine.specs.Refusals.{Tested, valid, and_then, each, buffer_after}
use Rattle.machine.specs.RefusalsLaws.{valid_next, then_of, then_refused, then_answer, then_then, each_valid, each_at, RefusesOnly, refuses_none, refuses_at, refuses_cond, refuses_then, buffer_valid, buffer_short, buffer_made}
use Rattle.machine.specs.declared.Machine.{Machine}
use Rattle.machine.specs.declared.Refusal.{Refusal}
use Rattle.machine.specs.WellFormed.{pair_validity}
use Rattle.machine.specs.WellFormedLaws.{counts_at, mul_bound}
use Rattle.machine.specs.Table.{table_room}
use Rattle.codec.specs.Format.{number_at, payload_most, payload_length, file_length, blocks_for}
use Rattle.codec.specs.Reader.{check_holds, number_found, damaged, block_validity, BlockHolds, header_byte, note_of, header_holds, counts_hold, header_validity, first_validity, payload_demanded, demanded, later_blocks, padding_holds, blocks_validity, payload_byte, payload_of, machine_at, pair_of, entries_of, read_validity, table_of}
use Rattle.codec.specs.Loading.{entries_place, entries_count, Loaded}
use Rattle.mask.specs.Tables.{front}
use Rattle.codec.specs.NumberLaws.{number_cong}
use Rattle.codec.specs.FormatLaws.{check_cong, entries_most, payload_most_lem}
use Rattle.mask.specs.FrontLaws.{front_length, front_zeros, front_padded}
use Rattle.machine.specs.declared.Refusal.TheVariants.{BadCounts, BadHeader, BadLength, BadPadding, Misplaced, ShortBuffer, WrongLength}

-- ---- a block
module _ (f : List ℕ) (i : ℕ) where
  pub block_damaged : check_holds f i ≡ false → block_validity f i ≡ Err (damaged i)
  unfolding block_validity
  block_damaged e = rw (not_i e)

  pub block_misplaced : check_holds f i ≡ true → (number_found f i ≡ i → ⊥) → block_validity f i ≡ Err (Misplaced i (number_found f i))
  unfolding block_validity
  block_misplaced e n = rw (not_f e, not_i (ne_eqb (number_found f i) i n))

  pub block_valid : BlockHolds f i → block_validity f i ≡ valid
  unfolding block_validity
  block_valid h = rw (not_f h.0, not_f (eq-eqb (number_found f i) i h.1))

  pub block_holds : block_validity f i ≡ valid → BlockHolds f i
  unfolding block_validity
  block_holds e =
      let a = valid_next _ _ _ e in
      let b = valid_next _ _ _ a.1 in
      (not_false _ a.0, eqb-true (number_found f i) i (not_false _ b.0))

  pub block_refuses : (F : Refusal → Type 0) → (check_holds f i ≡ false → F (damaged i))
      → (check_holds f i ≡ true → (number_found f i ≡ i → ⊥) → F (Misplaced i (number_found f i))) → RefusesOnly F (block_validity f i)
  unfolding block_validity
  block_refuses F d m =
      refuses_cond F (not (check_holds f i)) _ _ (λ t. refuses_at F _ (d (not_e _ t)))
      (λ t. refuses_cond F (not (eqb (number_found f i) i)) _ _ (λ u. refuses_at F _ (m (not_false _ t) (eqb-false _ _ (not_e _ u)))) (λ u. refuses_none F))

-- equal bytes, at whatever places of whatever files
module _ (f g : List ℕ) (i k : ℕ) (same : (j : ℕ) → j < 512 → get_or f (512 * i + j) 0 ≡ get_or g (512 * k + j) 0) where
  pub check_same : check_holds f i ≡ check_holds g k
  unfolding check_holds
  check_same = ap₂ eqb
      (number_cong 2 f g (512 * i + 510) (512 * k + 510) (λ j h. ap (λ (x : ℕ). get_or f x 0) (omega arith) ∙ same (510 + j) (omega arith) ∙ ap (λ (x : ℕ). get_or g x 0) (omega arith)))
      (check_cong f g (512 * i) (512 * k) (λ j h. same j (omega arith)))

  pub found_same : number_found f i ≡ number_found g k
  unfolding number_found
  found_same = number_cong 2 f g (512 * i) (512 * k) (λ j h. same j (omega arith))

-- ---- the first block
-- a part whose bytes are all zero
pub part_zeros : (s : List ℕ) (from n m : ℕ) → m ≡ n → from + n ≤ length s
    → every (length (take m (drop from s))) (λ i. eqb (get_or (take m (drop from s)) i 0) 0) ≡ every n (λ i. eqb (get_or s (from + i) 0) 0)
part_zeros s from n m e h =
    let long : length (take m (drop from s)) ≡ n = length-take-le m (drop from s) (rw (length-drop from s) (omega arith)) ∙ e in
    ap (λ (k : ℕ). every k (λ i. eqb (get_or (take m (drop from s)) i 0) 0)) long
    ∙ every_cong n _ _ (λ i l. ap (λ (x : ℕ). eqb x 0) (get_or-take m (drop from s) i 0 (omega arith) ∙ get_or-drop from s i 0))

-- the six zeros, as they stand in the file
pub zeros_header : (f : List ℕ) → every 6 (λ i. eqb (get_or f (12 + i) 0) 0) ≡ every 6 (λ i. eqb (header_byte f (10 + i)) 0)
unfolding header_byte
zeros_header f = every_cong 6 _ _ (λ i l. ap (λ (k : ℕ). eqb (get_or f k 0) 0) (omega arith))

-- the products of counts that are bytes
pub pairs_room : (c a : ℕ) → c < 256 → a < 256 → c * a ≤ 65025
pairs_room c a h l = mul_bound c a 255 255 (omega arith) (omega arith)

pub entries_room : (n c a : ℕ) → n < 256 → c < 256 → a < 256 → n * (c * a) ≤ 16581375
entries_room n c a k h l = mul_bound n (c * a) 255 65025 (omega arith) (pairs_room c a h l)

-- what a first block that is not refused gives
pub record FirstValid (f : List ℕ) : Type 0 where
  pub long : 512 ≤ length f
  pub whole : length f % 512 ≡ 0
  pub block : BlockHolds f 0
  pub header : header_holds f ≡ true
  pub counts : counts_hold f ≡ true

long_enough : (n : ℕ) → (n ≡ 0 → ⊥) → n % 512 ≡ 0 → 512 ≤ n
long_enough n some whole = omega arith

whole_length : (f : List ℕ) → or (eqb (length f) 0) (not (eqb (length f % 512) 0)) ≡ false → (512 ≤ length f) × (length f % 512 ≡ 0)
whole_length f t =
    let n = or_none (eqb (length f) 0) (not (eqb (length f % 512) 0)) t in
    let whole : length f % 512 ≡ 0 = eqb-true _ 0 (not_false _ n.1) in
    (long_enough (length f) (eqb-false (length f) 0 n.0) whole, whole)

header_valid : (f : List ℕ) → header_validity f ≡ valid → (header_holds f ≡ true) × (counts_hold f ≡ true)
unfolding header_validity
header_valid f e = let a = valid_next _ _ _ e in let b = valid_next _ _ _ a.1 in (not_false _ a.0, not_false _ b.0)

pub first_valid : (f : List ℕ) → first_validity f ≡ valid → FirstValid f
unfolding first_validity
first_valid f e =
    let a = valid_next _ _ _ e in
    let b = then_answer (block_validity f 0) (header_validity f) a.1 in
    let h = header_valid f b.1 in
    let n = whole_length f a.0 in
    record { long = n.0; whole = n.1; block = block_holds f 0 b.0; header = h.0; counts = h.1 }

-- its refusals
pub first_refuses : (F : Refusal → Type 0) (f : List ℕ) → F BadLength → (512 ≤ length f → RefusesOnly F (block_validity f 0))
    → F BadHeader → F BadCounts → RefusesOnly F (first_validity f)
unfolding first_validity header_validity
first_refuses F f ragged block header counts =
    refuses_cond F (or (eqb (length f) 0) (not (eqb (length f % 512) 0))) _ _ (λ t. refuses_at F _ ragged)
    (λ t. refuses_then F (block_validity f 0) _ (block (whole_length f t).0)
    (λ v. refuses_cond F (not (header_holds f)) _ _ (λ u. refuses_at F _ header)
    (λ u. refuses_cond F (not (counts_hold f)) _ _ (λ x. refuses_at F _ counts) (λ x. refuses_none F))))

-- the length that the counts demand, by the payload's
pub demanded_is : (f : List ℕ) → demanded f ≡ 512 * ((payload_demanded f + 507) / 508)
unfolding demanded file_length blocks_for payload_demanded
demanded_is f = refl

-- ---- the later blocks
-- n blocks, of which the last has the payload's end
pub record Fitting (f : List ℕ) (n : ℕ) : Type 0 where
  pub long : length f ≡ 512 * n
  pub some : 0 < n
  pub ends : payload_demanded f ≤ 508 * n
  pub last : 508 * n < payload_demanded f + 508

payload_least : (f : List ℕ) → 32 ≤ payload_demanded f
unfolding payload_demanded payload_length
payload_least f = omega arith

pub fitting : (f : List ℕ) → length f ≡ demanded f → Fitting f (length f / 512)
fitting f e =
    let d = demanded_is f in
    let l = payload_least f in
    record { long = omega arith; some = omega arith; ends = omega arith; last = omega arith }

-- the place of a padding byte in the last block
place : (f : List ℕ) (n k : ℕ) → Fitting f n → payload_demanded f ≤ k → k < 508 * n
    → 512 * (k / 508) + 2 + k % 508 ≡ payload_demanded f + 4 * n - 2 + (k - payload_demanded f)
place f n k w h l = omega arith

-- the padding, as it stands in the last block
pub padding_is : (f : List ℕ) → length f ≡ demanded f → let n = length f / 512 in let len = payload_demanded f in
    every (508 * n - len) (λ i. eqb (get_or f (len + 4 * n - 2 + i) 0) 0) ≡ padding_holds f
unfolding padding_holds payload_demanded
padding_is f e = both _ _
    (λ t. every_of (508 * n) _ (λ k l. by_cases (dec_lt k len) (λ q. or_l _ (lt-ltb k len q))
    (λ q. or_r _ (ap (λ (x : ℕ). eqb (get_or f x 0) 0) (place f n k w (omega arith) l) ∙ every_at (508 * n - len) _ t (k - len) (omega arith)))))
    (λ t. every_of (508 * n - len) _ (λ i l. ⊎_elim (λ q. absurd (omega (arith, ltb-true (len + i) len q))) (λ q. ap (λ (x : ℕ). eqb (get_or f x 0) 0) (spot i l) ∙ q)
    (or_e (every_at (508 * n) _ t (len + i) (omega arith)))))
  where
    n : ℕ
    n = length f / 512

    len : ℕ
    len = payload_demanded f

    w : Fitting f n
    w = fitting f e

    spot : (i : ℕ) → i < 508 * n - len → len + 4 * n - 2 + i ≡ 512 * ((len + i) / 508) + 2 + (len + i) % 508
    spot i l = omega (arith, place f n (len + i) w (omega arith) (omega arith))

-- a file of another length than its counts demand
pub wrong_length_is : (f : List ℕ) → (length f ≡ demanded f → ⊥) → blocks_validity f ≡ Err WrongLength
unfolding blocks_validity
wrong_length_is f h = rw (not_i (ne_eqb (length f) (demanded f) h))

-- ---- machines
-- a machine whose arrays are filled from the front
pub machine_is : (Q : List ℕ) (at n sets start : ℕ) (observations successors fairness : List ℕ) → n ≤ 64 → sets ≤ 8 → start ≡ number_at 8 Q (at + n)
    → observations ≡ front n (λ s. get_or Q (at + s) 0) (replicate 64 0)
    → successors ≡ front n (λ s. number_at 8 Q (at + n + 8 + 8 * s)) (replicate 64 0)
    → fairness ≡ front sets (λ k. number_at 8 Q (at + 9 * n + 8 + 8 * k)) (replicate 8 0)
    → record { states = n; sets = sets; start = start; observations = observations; successors = successors; fairness = fairness } ≡ machine_at Q at n sets
unfolding machine_at
machine_is Q at n sets start observations successors fairness h k a b c d =
    rw (
      a,
      front_zeros (λ s. get_or Q (at + s) 0) b refl h,
      front_zeros (λ s. number_at 8 Q (at + n + 8 + 8 * s)) c refl h,
      front_zeros (λ k. number_at 8 Q (at + 9 * n + 8 + 8 * k)) d refl k,
    )

pub machine_cong : (Q R : List ℕ) → ((k : ℕ) → get_or Q k 0 ≡ get_or R k 0) → (at n sets : ℕ) → machine_at Q at n sets ≡ machine_at R at n sets
unfolding machine_at
machine_cong Q R same at n sets =
    rw (
      number_cong 8 Q R (at + n) (at + n) (λ i l. same (at + n + i)),
      table_cong 64 (λ s. cond (ltb s n) (get_or Q (at + s) 0) 0) (λ s. cond (ltb s n) (get_or R (at + s) 0) 0) (λ s l. ap (λ (x : ℕ). cond (ltb s n) x 0) (same (at + s))),
      masks 64 n (at + n + 8),
      masks 8 sets (at + 9 * n + 8),
    )
  where
    masks : (w count from : ℕ) → table w (λ k. cond (ltb k count) (number_at 8 Q (from + 8 * k)) 0) ≡ table w (λ k. cond (ltb k count) (number_at 8 R (from + 8 * k)) 0)
    masks w count from = table_cong w _ _ (λ k l. ap (λ (x : ℕ). cond (ltb k count) x 0) (number_cong 8 Q R (from + 8 * k) (from + 8 * k) (λ i q. same (from + 8 * k + i))))

-- ---- a file whose payload is loaded
-- the counts of a header that is not refused
pub record InRange (f : List ℕ) : Type 0 where
  pub states_c : header_byte f 4 ≤ 64
  pub states_a : header_byte f 5 ≤ 64
  pub sets_of_c : header_byte f 6 ≤ 8
  pub sets_of_a : header_byte f 7 ≤ 7

pub in_range_lem : (f : List ℕ) → counts_hold f ≡ true → InRange f
unfolding counts_hold
in_range_lem f t =
    let c = counts_at 8 _ _ (and_l _ _ t) in
    let a = counts_at 7 _ _ (and_r _ _ t) in
    record { states_c = c.1; states_a = a.1; sets_of_c = c.3; sets_of_a = a.3 }

pub machines_fit : (f : List ℕ) → 32 + 9 * (header_byte f 4 + header_byte f 5) + 8 * (header_byte f 6 + header_byte f 7) ≤ payload_demanded f
unfolding payload_demanded payload_length
machines_fit f = omega arith

pub pair_is : (f Q : List ℕ) (concrete abstraction : Machine) (hidden : ℕ) → Loaded f Q → concrete ≡ machine_at Q 16 (header_byte f 4) (header_byte f 6)
    → abstraction ≡ machine_at Q (24 + 9 * header_byte f 4 + 8 * header_byte f 6) (header_byte f 5) (header_byte f 7) → hidden ≡ header_byte f 8
    → pair_under hidden concrete abstraction ≡ pair_of f
unfolding pair_of
pair_is f Q concrete abstraction hidden w ec ea eh =
    rw (
      ec,
      ea,
      eh,
      machine_cong Q (payload_of f (length f / 512)) w.same 16 (header_byte f 4) (header_byte f 6),
      machine_cong Q (payload_of f (length f / 512)) w.same (24 + 9 * header_byte f 4 + 8 * header_byte f 6) (header_byte f 5) (header_byte f 7),
    )

-- ---- the table of such a file
-- its entries have room in a lent table
pub entries_fit : (f : List ℕ) → counts_hold f ≡ true → entries_count f ≤ table_room
entries_fit f t = let r = in_range_lem f t in entries_most (header_byte f 4) (header_byte f 5) (header_byte f 7) r.states_c r.states_a r.sets_of_a

-- and they end where the payload does
pub entries_end : (f : List ℕ) → note_of f ≡ true → entries_place f + 2 * entries_count f ≡ payload_demanded f
unfolding payload_demanded payload_length
entries_end f t = rw t (omega arith)

pub table_is : (f Q T : List ℕ) → Loaded f Q
    → front (entries_count f) (λ e. number_at 2 Q (entries_place f + 2 * e)) T ≡ entries_of f ++ drop (length (entries_of f)) T
unfolding entries_of pair_of machine_at
table_is f Q T w =
    let P = payload_of f (length f / 512) in
    rw (table_length (entries_count f) (λ e. number_at 2 P (entries_place f + 2 * e)))
    (ap (λ (l : List ℕ). l ++ drop (entries_count f) T)
    (table_cong (entries_count f) (λ e. number_at 2 Q (entries_place f + 2 * e)) (λ e. number_at 2 P (entries_place f + 2 * e)) (λ e l. number_cong 2 Q P _ _ (λ i q. w.same (entries_place f + 2 * e + i)))))

-- ---- a file whose blocks hold
-- what the later blocks and the padding give
pub record BlocksValid (f : List ℕ) : Type 0 where
  pub long : length f ≡ demanded f
  pub blocks : (i : ℕ) → 0 < i → i < length f / 512 → BlockHolds f i
  pub padding : padding_holds f ≡ true

pub later_valid : (f : List ℕ) → ((i : ℕ) → 0 < i → i < length f / 512 → BlockHolds f i) → later_blocks f ≡ valid
unfolding later_blocks
later_valid f h = each_valid _ _ (λ i l. block_valid f (suc i) (h (suc i) (omega arith) (omega arith)))

-- where the first n of the later blocks are passed, they hold
pub later_hold : (f : List ℕ) (n : ℕ) → each n (λ i. block_validity f (suc i)) ≡ valid → (i : ℕ) → 0 < i → i < suc n → BlockHolds f i
later_hold f n e zero p l = absurd (omega arith)
later_hold f n e (suc i) p l = block_holds f (suc i) (each_at n _ e i (omega arith))

pub blocks_valid : (f : List ℕ) → blocks_validity f ≡ valid → BlocksValid f
unfolding blocks_validity later_blocks
blocks_valid f e =
    let a = valid_next _ _ _ e in
    let b = then_answer (later_blocks f) _ a.1 in
    let c = valid_next _ _ _ b.1 in
    record { long = eqb-true _ _ (not_false _ a.0); blocks = λ i p l. later_hold f (length f / 512 - 1) b.0 i p (omega arith); padding = not_false _ c.0 }

-- a file of the length that its counts demand: the later blocks, then the padding
pub blocks_then : (f : List ℕ) → length f ≡ demanded f
    → blocks_validity f ≡ and_then (later_blocks f) (cond (not (padding_holds f)) (Err BadPadding) valid)
unfolding blocks_validity
blocks_then f e = rw (not_f (eq-eqb (length f) (demanded f) e))

-- it has no more than 116
pub payload_fits : (f : List ℕ) → counts_hold f ≡ true → payload_demanded f ≤ payload_most
unfolding payload_demanded
payload_fits f t =
    let r = in_range_lem f t in
    payload_most_lem (header_byte f 4) (header_byte f 5) (header_byte f 6) (header_byte f 7) (note_of f) r.states_c r.states_a r.sets_of_c r.sets_of_a

pub few_blocks : (f : List ℕ) → FirstValid f → length f ≡ demanded f → length f / 512 ≤ 116
few_blocks f v e = let w = fitting f e in omega (arith, payload_fits f v.counts)

pub loaded : (f Q : List ℕ) (w : ℕ) → FirstValid f → length f ≡ demanded f → 508 * (length f / 512) ≤ w
    → Q ≡ front (508 * (length f / 512)) (payload_byte f) (replicate w 0) → Loaded f Q
unfolding payload_of
loaded f Q w v e h q =
    let n = 508 * (length f / 512) in
    let fit = fitting f e in
    let long : length Q ≡ w = front_length (payload_byte f) (replicate w 0) q (rw (length-replicate {A = ℕ} w 0) h) ∙ length-replicate w 0 in
    record { long = v.long; counts = v.counts; room = omega arith; same = front_padded (payload_byte f) w n q }

-- ---- the lent table, and all the tests in their order
-- the lent table of a reading that is not refused
pub table_after : (f T : List ℕ) (v : Tested) (note : Bool) → v ≡ valid → note_of f ≡ note
    → buffer_after v (table_of f) T ≡ cond note (entries_of f ++ drop (length (entries_of f)) T) T
unfolding table_of
table_after f T v note e t = buffer_made v (cond (note_of f) (entries_of f) []) T e ∙ rw t (cases note)
  where
    cases : (n : Bool) → cond n (entries_of f) [] ++ drop (length (cond n (entries_of f) [])) T ≡ cond n (entries_of f ++ drop (length (entries_of f)) T) T
    cases true = refl
    cases false = refl

pub read_short : (f : List ℕ) (room : ℕ) → room < table_room → read_validity f room ≡ Err ShortBuffer
unfolding read_validity
read_short f room h = then_refused _ _ _ (buffer_short table_room room h)

module _ (f : List ℕ) (room : ℕ) (h : table_room ≤ room) where
  grouped : read_validity f room ≡ and_then (and_then (first_validity f) (blocks_validity f)) (pair_validity (pair_of f))
  unfolding read_validity
  grouped = then_of _ _ (buffer_valid table_room room h) ∙ sym (then_then (first_validity f) (blocks_validity f) (pair_validity (pair_of f)))

  pub tests_refused : (r : Refusal) → and_then (first_validity f) (blocks_validity f) ≡ Err r → read_validity f room ≡ Err r
  tests_refused r e = grouped ∙ then_refused _ _ r e

  pub read_pair : and_then (first_validity f) (blocks_validity f) ≡ valid → read_validity f room ≡ pair_validity (pair_of f)
  read_pair e = grouped ∙ then_of _ _ e
