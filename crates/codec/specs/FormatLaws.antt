-- Laws of the format: how long each part is, and that a block rests on its own part of the payload.
use Rattle.std.specs.Prelude.{Bool, true, false, cond, ◌≡◌, refl, List, ◌++◌, ℕ, suc, ◌+◌, ◌*◌, ◌/◌, ◌%◌, ◌≤◌, ◌<◌, length, get_or}
use Rattle.std.proofs.Common.{sym, ap, ap₂, ◌∙◌, arith, length-append, get_or-append-add, take, drop, zero-add, get_or-take, get_or-drop}
use Rattle.std.proofs.Math.ListN.{get_or-append}
use Rattle.mask.specs.BoundedLaws.{sum_cong}
use Rattle.mask.specs.LogicLaws.{cond_cases}
use Rattle.mask.specs.Tables.{table}
use Rattle.mask.specs.TablesLaws.{table_length, table_at, table_cong}
use Rattle.machine.specs.declared.Machine.{Machine}
use Rattle.machine.specs.declared.Pair.{Pair}
use Rattle.machine.specs.Machines.{observation, successors, fair_set, n_c, n_a, sets_c, sets_a}
use Rattle.machine.specs.Table.{entries, table_room}
use Rattle.machine.specs.WellFormedLaws.{WellPair, mul_bound}
use Rattle.codec.specs.Format.{byte_of, bytes_of, numbers, header, machine_bytes, table_bytes, payload, payload_most, payload_length, blocks_for, file_length, check_at, block_front, block, blocked, file_of}
use Rattle.codec.specs.NumberLaws.{bytes_length, bytes_at, numbers_length}

-- ---- how long the parts are
pub header_length : (p : Pair) (note : Bool) → length (header p note) ≡ 16
unfolding header
header_length p note = refl

pub machine_length : (m : Machine) → length (machine_bytes m) ≡ 9 * m.states + 8 * m.sets + 8
unfolding machine_bytes
machine_length m =
    let O = table m.states (observation m) in
    let S = bytes_of 8 m.start in
    let M = numbers 8 m.states (successors m) in
    let F = numbers 8 m.sets (fair_set m) in
    omega (
      arith,
      length-append O (S ++ (M ++ F)),
      length-append S (M ++ F),
      length-append M F,
      table_length m.states (observation m),
      bytes_length 8 m.start,
      numbers_length 8 m.states (successors m),
      numbers_length 8 m.sets (fair_set m),
    )

pub table_bytes_length : (p : Pair) (note : Bool) (T : List ℕ) → length (table_bytes p note T) ≡ cond note (2 * entries p) 0
unfolding table_bytes
table_bytes_length p true T = numbers_length 2 (entries p) (λ e. get_or T e 0)
table_bytes_length p false T = refl

pub payload_length_lem : (p : Pair) (note : Bool) (T : List ℕ) → length (payload p note T) ≡ payload_length (n_c p) (n_a p) (sets_c p) (sets_a p) note
unfolding payload payload_length
payload_length_lem p note T =
    let C = machine_bytes p.concrete in
    let A = machine_bytes p.abstraction in
    let E = table_bytes p note T in
    omega (
      arith,
      length-append (header p note) (C ++ (A ++ E)),
      length-append C (A ++ E),
      length-append A E,
      header_length p note,
      machine_length p.concrete,
      machine_length p.abstraction,
      table_bytes_length p note T,
    )

-- the entries and the payload of counts in their ranges
pub entries_most : (c a n : ℕ) → c ≤ 64 → a ≤ 64 → n ≤ 7 → n * (c * a) ≤ table_room
entries_most c a n h k l = mul_bound n (c * a) 7 4096 l (mul_bound c a 64 64 h k)

pub payload_most_lem : (c a m n : ℕ) (note : Bool) → c ≤ 64 → a ≤ 64 → m ≤ 8 → n ≤ 7 → payload_length c a m n note ≤ payload_most
unfolding payload_length
payload_most_lem c a m n note h k i l =
    cond_cases note (λ x. 32 + 9 * (c + a) + 8 * (m + n) + x ≤ payload_most) (2 * (n * (c * a))) 0
    (λ t. omega (arith, entries_most c a n h k l)) (λ t. omega arith)

pub payload_small : (p : Pair) (note : Bool) → WellPair p → payload_length (n_c p) (n_a p) (sets_c p) (sets_a p) note ≤ payload_most
payload_small p note w =
    payload_most_lem (n_c p) (n_a p) (sets_c p) (sets_a p) note w.concrete.states_high w.abstraction.states_high w.concrete.sets_high w.abstraction.sets_high

pub blocks_small : (len : ℕ) → len ≤ payload_most → blocks_for len ≤ 116
unfolding blocks_for
blocks_small len h = omega arith

pub front_length : (Q : List ℕ) (i : ℕ) → length (block_front Q i) ≡ 510
unfolding block_front
front_length Q i =
    let part = table 508 (λ k. get_or Q (508 * i + k) 0) in
    omega (arith, length-append (bytes_of 2 i) part, bytes_length 2 i, table_length 508 (λ k. get_or Q (508 * i + k) 0))

pub block_length : (Q : List ℕ) (i : ℕ) → length (block Q i) ≡ 512
unfolding block
block_length Q i =
    let check = bytes_of 2 (check_at (block_front Q i) 0) in
    omega (arith, length-append (block_front Q i) check, front_length Q i, bytes_length 2 (check_at (block_front Q i) 0))

pub blocked_length : (Q : List ℕ) → length (blocked Q) ≡ 512 * blocks_for (length Q)
unfolding blocked
blocked_length Q = table_length (512 * blocks_for (length Q)) (λ k. get_or (block Q (k / 512)) (k % 512) 0)

pub file_length_lem : (p : Pair) (note : Bool) (T : List ℕ) → length (file_of p note T) ≡ file_length (n_c p) (n_a p) (sets_c p) (sets_a p) note
unfolding file_of file_length
file_length_lem p note T = blocked_length (payload p note T) ∙ ap (λ (n : ℕ). 512 * blocks_for n) (payload_length_lem p note T)

-- ---- a block rests on its own part of the payload
pub front_cong : (Q R : List ℕ) (i : ℕ) → ((k : ℕ) → k < 508 → get_or Q (508 * i + k) 0 ≡ get_or R (508 * i + k) 0) → block_front Q i ≡ block_front R i
unfolding block_front
front_cong Q R i h = ap (λ (l : List ℕ). bytes_of 2 i ++ l) (table_cong 508 (λ k. get_or Q (508 * i + k) 0) (λ k. get_or R (508 * i + k) 0) h)

pub block_cong : (Q R : List ℕ) (i : ℕ) → ((k : ℕ) → k < 508 → get_or Q (508 * i + k) 0 ≡ get_or R (508 * i + k) 0) → block Q i ≡ block R i
unfolding block
block_cong Q R i h = ap (λ (l : List ℕ). l ++ bytes_of 2 (check_at l 0)) (front_cong Q R i h)

-- the check of a block rests on its first 510 bytes
pub check_cong : (s t : List ℕ) (at to : ℕ) → ((i : ℕ) → i < 510 → get_or s (at + i) 0 ≡ get_or t (to + i) 0) → check_at s at ≡ check_at t to
unfolding check_at
check_cong s t at to h = ap (λ (x : ℕ). x % 65521) (sum_cong 510 _ _ (λ i l. ap (λ (x : ℕ). suc i * x) (h i l)))

pub part_check : (m : ℕ) (s : List ℕ) (at : ℕ) → m ≡ 510 → check_at (take m (drop at s)) 0 ≡ check_at s at
part_check m s at e =
    check_cong (take m (drop at s)) s 0 at
    (λ i l. ap (λ (k : ℕ). get_or (take m (drop at s)) k 0) (zero-add i) ∙ get_or-take m (drop at s) i 0 (omega arith) ∙ get_or-drop at s i 0)

-- ---- what stands in a block, and in a file of blocks
pub front_at : (Q : List ℕ) (i j : ℕ) → j < 510 → get_or (block Q i) j 0 ≡ get_or (block_front Q i) j 0
unfolding block
front_at Q i j h = get_or-append (block_front Q i) (bytes_of 2 (check_at (block_front Q i) 0)) 0 j (omega (arith, front_length Q i))

pub front_number : (Q : List ℕ) (i j : ℕ) → j < 2 → get_or (block_front Q i) j 0 ≡ byte_of i j
unfolding block_front
front_number Q i j h =
    get_or-append (bytes_of 2 i) (table 508 (λ k. get_or Q (508 * i + k) 0)) 0 j (omega (arith, bytes_length 2 i)) ∙ bytes_at 2 i j h

pub front_payload : (Q : List ℕ) (i k : ℕ) → k < 508 → get_or (block_front Q i) (2 + k) 0 ≡ get_or Q (508 * i + k) 0
unfolding block_front
front_payload Q i k h =
    let part : List ℕ = table 508 (λ k. get_or Q (508 * i + k) 0) in
    ap (λ (n : ℕ). get_or (bytes_of 2 i ++ part) (n + k) 0) (sym (bytes_length 2 i))
    ∙ get_or-append-add (bytes_of 2 i) part k 0 ∙ table_at 508 (λ k. get_or Q (508 * i + k) 0) k 0 h

pub block_check : (Q : List ℕ) (i j : ℕ) → j < 2 → get_or (block Q i) (510 + j) 0 ≡ byte_of (check_at (block_front Q i) 0) j
unfolding block
block_check Q i j h =
    let check : ℕ = check_at (block_front Q i) 0 in
    ap (λ (n : ℕ). get_or (block_front Q i ++ bytes_of 2 check) (n + j) 0) (sym (front_length Q i))
    ∙ get_or-append-add (block_front Q i) (bytes_of 2 check) j 0 ∙ bytes_at 2 check j h

pub blocked_at : (Q : List ℕ) (i j : ℕ) → i < blocks_for (length Q) → j < 512 → get_or (blocked Q) (512 * i + j) 0 ≡ get_or (block Q i) j 0
unfolding blocked
blocked_at Q i j h k =
    let q : (512 * i + j) / 512 ≡ i = omega arith in
    let r : (512 * i + j) % 512 ≡ j = omega arith in
    table_at (512 * blocks_for (length Q)) (λ k. get_or (block Q (k / 512)) (k % 512) 0) (512 * i + j) 0 (omega arith)
    ∙ ap₂ (λ (x y : ℕ). get_or (block Q x) y 0) q r

-- the payload takes no more than its blocks
pub blocks_hold : (len : ℕ) → len ≤ 508 * blocks_for len
unfolding blocks_for
blocks_hold len = omega arith

-- byte k of the payload
pub blocked_payload : (Q : List ℕ) (k : ℕ) → k < 508 * blocks_for (length Q) → get_or (blocked Q) (512 * (k / 508) + 2 + k % 508) 0 ≡ get_or Q k 0
blocked_payload Q k h =
    let e : 512 * (k / 508) + 2 + k % 508 ≡ 512 * (k / 508) + (2 + k % 508) = omega arith in
    let f : 508 * (k / 508) + k % 508 ≡ k = omega arith in
    ap (λ (x : ℕ). get_or (blocked Q) x 0) e
    ∙ blocked_at Q (k / 508) (2 + k % 508) (omega arith) (omega arith)
    ∙ front_at Q (k / 508) (2 + k % 508) (omega arith)
    ∙ front_payload Q (k / 508) (k % 508) (omega arith) ∙ ap (λ (x : ℕ). get_or Q x 0) f

pub check_lt : (s : List ℕ) (at : ℕ) → check_at s at < 65521
unfolding check_at
check_lt s at = omega arith

-- ---- the table's entries are all that a file takes of a table, and only if there is one
pub file_cong : (p : Pair) (note : Bool) (T U : List ℕ) → (note ≡ true → (e : ℕ) → e < entries p → get_or T e 0 ≡ get_or U e 0) → file_of p note T ≡ file_of p note U
unfolding file_of payload table_bytes numbers
file_cong p true T U h =
    ap (λ (E : List ℕ). blocked (header p true ++ (machine_bytes p.concrete ++ (machine_bytes p.abstraction ++ E))))
    (table_cong (2 * entries p) (λ i. byte_of (get_or T (i / 2) 0) (i % 2)) (λ i. byte_of (get_or U (i / 2) 0) (i % 2))
    (λ i l. ap (λ (x : ℕ). byte_of x (i % 2)) (h refl (i / 2) (omega arith))))
file_cong p false T U h = refl
