-- A list that stands at a place of another: how the parts of a payload are found in it again, and how parts that were found make a payload.
use Rattle.std.specs.Prelude.{Bool, false, cond, ◌≡◌, List, [], ◌∷◌, ◌++◌, ℕ, zero, suc, ◌+◌, ◌-◌, ◌*◌, ◌/◌, ◌%◌, ◌≤◌, ◌<◌, ◌^◌, ltb, length}
use Rattle.std.proofs.Math.Logic.{by_cases}
use Rattle.std.proofs.Math.Path.{refl, ap}
use Rattle.std.proofs.Common.{sym, ◌∙◌, add_assoc, mul_comm, mod-lt, div-lt_iff_lt-mul, arith, length-append, get_or-append-add, ext_get_or, lt-ltb, le-ltb}
use Rattle.std.proofs.Math.Nat.{div-add-mod}
use Rattle.std.proofs.Math.Decide.{dec_lt}
use Rattle.std.proofs.Math.ListN.{get_or, get_or-append}
use Rattle.mask.specs.LogicLaws.{cond_cases}
use Rattle.mask.specs.Tables.{table}
use Rattle.mask.specs.TablesLaws.{table_length, table_at, table_past}
use Rattle.machine.specs.declared.Machine.{Machine}
use Rattle.machine.specs.declared.Pair.{Pair}
use Rattle.machine.specs.Machines.{observation, successors, fair_set, n_c, n_a, sets_c, sets_a}
use Rattle.machine.specs.WellFormedLaws.{WellMachine}
use Rattle.codec.specs.Format.{byte_of, bytes_of, numbers, number_at, header, machine_bytes, table_bytes, payload, payload_length}
use Rattle.codec.specs.Reader.{machine_at}
use Rattle.codec.specs.Statements.{RepresentableMachine, AreBytes}
use Rattle.codec.specs.FormatLaws.{header_length, machine_length}
use Rattle.codec.specs.NumberLaws.{bytes_length, bytes_at, numbers_length, numbers_at, number_is, number_lt, number_byte, numbers_number}

-- l stands in P from a place on
abbrev pub Stands : List ℕ → List ℕ → ℕ → Type 0
Stands l P at = (i : ℕ) → i < length l → get_or P (at + i) 0 ≡ get_or l i 0

-- ---- joined lists
pub stands_front : (xs ys P : List ℕ) (at : ℕ) → Stands (xs ++ ys) P at → Stands xs P at
stands_front xs ys P at s i h = s i (omega (arith, length-append xs ys)) ∙ get_or-append xs ys 0 i h

pub stands_back : (xs ys P : List ℕ) (at n : ℕ) → length xs ≡ n → Stands (xs ++ ys) P at → Stands ys P (at + n)
stands_back xs ys P at n e s i h =
    ap (λ (k : ℕ). get_or P k 0) (omega (arith, e))
    ∙ s (length xs + i) (omega (arith, length-append xs ys)) ∙ get_or-append-add xs ys i 0

pub stands_join : (xs ys P : List ℕ) (at n : ℕ) → length xs ≡ n → Stands xs P at → Stands ys P (at + n) → Stands (xs ++ ys) P at
stands_join xs ys P at n e s t i h = by_cases (dec_lt i (length xs))
    (λ l. s i l ∙ sym (get_or-append xs ys 0 i l))
    (λ l. let k : length xs + (i - length xs) ≡ i = omega arith in
    ap (λ (j : ℕ). get_or P j 0) (omega (arith, e))
    ∙ t (i - length xs) (omega (arith, length-append xs ys))
    ∙ sym (get_or-append-add xs ys (i - length xs) 0) ∙ ap (λ (j : ℕ). get_or (xs ++ ys) j 0) k)

-- element by element
pub stands_cons : (x : ℕ) (xs P : List ℕ) (at : ℕ) → get_or P at 0 ≡ x → Stands xs P (suc at) → Stands (x ∷ xs) P at
stands_cons x xs P at e s zero h = ap (λ (k : ℕ). get_or P k 0) (omega arith) ∙ e
stands_cons x xs P at e s (suc i) h = ap (λ (k : ℕ). get_or P k 0) (omega arith) ∙ s i (omega arith)

pub stands_nil : (P : List ℕ) (at : ℕ) → Stands [] P at
stands_nil P at i h = absurd (omega arith)

-- ---- numbers
pub number_stands : (n x : ℕ) (P : List ℕ) (at : ℕ) → x < 256 ^ n → Stands (bytes_of n x) P at → number_at n P at ≡ x
number_stands n x P at h s = number_is n x P at h (λ i l. s i (omega (arith, bytes_length n x)) ∙ bytes_at n x i l)

pub bytes_stand : (n x : ℕ) (P : List ℕ) (at : ℕ) → AreBytes P → x ≡ number_at n P at → Stands (bytes_of n x) P at
bytes_stand n x P at b e i h =
    let l : i < n = omega (arith, bytes_length n x) in
    sym (number_byte n P at (λ i l. b (at + i)) i l) ∙ ap (λ (y : ℕ). byte_of y i) (sym e) ∙ sym (bytes_at n x i l)

pub numbers_read : (n count : ℕ) (f : ℕ → ℕ) (P : List ℕ) (at k : ℕ) → k < count → f k < 256 ^ n → Stands (numbers n count f) P at → number_at n P (at + n * k) ≡ f k
numbers_read n count f P at k h small s = numbers_number n count f P at k h small (λ i l. s i (omega (arith, numbers_length n count f)))

pub numbers_stand : (n count : ℕ) (f : ℕ → ℕ) (P : List ℕ) (at : ℕ) → 0 < n → AreBytes P → ((k : ℕ) → k < count → f k ≡ number_at n P (at + n * k))
    → Stands (numbers n count f) P at
numbers_stand n count f P at pos b e i h =
    let r : i % n < n = mod-lt i pos in
    let place : n * (i / n) + i % n ≡ i = div-add-mod i n in
    let below : i < count * n = omega (arith, numbers_length n count f, mul_comm n count) in
    let q : i / n < count = (div-lt_iff_lt-mul pos).1 below in
    ap (λ (x : ℕ). get_or P x 0) (ap (λ (x : ℕ). at + x) (sym place) ∙ sym (add_assoc at (n * (i / n)) (i % n)))
    ∙ sym (number_byte n P (at + n * (i / n)) (λ j l. b (at + n * (i / n) + j)) (i % n) r)
    ∙ ap (λ (x : ℕ). byte_of x (i % n)) (sym (e (i / n) q))
    ∙ sym (numbers_at n count f (i / n) (i % n) q r) ∙ ap (λ (x : ℕ). get_or (numbers n count f) x 0) place

-- ---- tables
pub table_stands : (n : ℕ) (f : ℕ → ℕ) (P : List ℕ) (at : ℕ) → ((i : ℕ) → i < n → f i ≡ get_or P (at + i) 0) → Stands (table n f) P at
table_stands n f P at e i h = let l : i < n = omega (arith, table_length n f) in sym (e i l) ∙ sym (table_at n f i 0 l)

pub table_read : (n : ℕ) (f : ℕ → ℕ) (P : List ℕ) (at i : ℕ) → i < n → Stands (table n f) P at → get_or P (at + i) 0 ≡ f i
table_read n f P at i h s = s i (omega (arith, table_length n f)) ∙ table_at n f i 0 h

-- ---- machines
machine_ext : (a b : Machine) → a.states ≡ b.states → a.sets ≡ b.sets → a.start ≡ b.start → a.observations ≡ b.observations
    → a.successors ≡ b.successors → a.fairness ≡ b.fairness → a ≡ b
machine_ext a b e f g h k l =
    λ i. record { states = e i; sets = f i; start = g i; observations = h i; successors = k i; fairness = l i }

-- a list of n elements, zero from a count on, is the table of what stands for those below the count
filled : (n count : ℕ) (l : List ℕ) (f : ℕ → ℕ) → length l ≡ n → ((i : ℕ) → i < count → i < n → f i ≡ get_or l i 0) → ((i : ℕ) → count ≤ i → i < n → get_or l i 0 ≡ 0)
    → table n (λ i. cond (ltb i count) (f i) 0) ≡ l
filled n count l f e h z =
    ext_get_or 0 (table n (λ i. cond (ltb i count) (f i) 0)) l (table_length n _ ∙ sym e)
    (λ i q. let k : i < n = omega (arith, table_length n (λ i. cond (ltb i count) (f i) 0)) in
    table_at n _ i 0 k ∙ by_cases (dec_lt i count)
    (λ b. ap (λ (t : Bool). cond t (f i) 0) (lt-ltb i count b) ∙ h i b k)
    (λ b. ap (λ (t : Bool). cond t (f i) 0) (le-ltb i count (omega arith)) ∙ sym (z i (omega arith) k)))

module _ (limit : ℕ) (m : Machine) (P : List ℕ) (at : ℕ) (r : RepresentableMachine m) (w : WellMachine limit m) (s : Stands (machine_bytes m) P at) where
  -- where a machine's bytes stand, the machine stands
  pub machine_reads : machine_at P at m.states m.sets ≡ m
  unfolding machine_bytes machine_at observation successors fair_set
  machine_reads =
      let N = m.states in
      let O = table N (λ i. get_or m.observations i 0) in
      let S = bytes_of 8 m.start in
      let M = numbers 8 N (λ i. get_or m.successors i 0) in
      let F = numbers 8 m.sets (λ i. get_or m.fairness i 0) in
      let behind_observations = stands_back O (S ++ (M ++ F)) P at N (table_length N _) s in
      let behind_start = stands_back S (M ++ F) P (at + N) 8 (bytes_length 8 m.start) behind_observations in
      let masks = stands_front M F P (at + N + 8) behind_start in
      let sets = stands_back M F P (at + N + 8) (8 * N) (numbers_length 8 N _) behind_start in
      machine_ext (machine_at P at N m.sets) m refl refl
      (number_stands 8 m.start P (at + N) r.start_mask (stands_front S (M ++ F) P (at + N) behind_observations))
      (filled 64 N m.observations (λ i. get_or P (at + i) 0) r.observations_length
      (λ i b h. table_read N (λ i. get_or m.observations i 0) P at i b (stands_front O (S ++ (M ++ F)) P at s)) w.observation_zero)
      (filled 64 N m.successors (λ i. number_at 8 P (at + N + 8 + 8 * i)) r.successors_length
      (λ i b h. numbers_read 8 N (λ i. get_or m.successors i 0) P (at + N + 8) i b (r.successors_mask i) masks) w.successors_zero)
      (filled 8 m.sets m.fairness (λ i. number_at 8 P (at + 9 * N + 8 + 8 * i)) r.fairness_length
      (λ i b h. ap (number_at 8 P) (omega arith) ∙ numbers_read 8 m.sets (λ i. get_or m.fairness i 0) P (at + N + 8 + 8 * N) i b (r.fairness_mask i) sets) w.fairness_zero)

filled_at : (n count : ℕ) (f : ℕ → ℕ) (i : ℕ) → i < count → i < n → get_or (table n (λ s. cond (ltb s count) (f s) 0)) i 0 ≡ f i
filled_at n count f i h k = table_at n _ i 0 k ∙ ap (λ (t : Bool). cond t (f i) 0) (lt-ltb i count h)

-- and the bytes of a machine that was read stand where it was read
pub machine_stands : (P : List ℕ) (at N sets : ℕ) → N ≤ 64 → sets ≤ 8 → AreBytes P → Stands (machine_bytes (machine_at P at N sets)) P at
unfolding machine_bytes machine_at observation successors fair_set
machine_stands P at N sets small few b =
    let m = machine_at P at N sets in
    let O = table N (λ i. get_or m.observations i 0) in
    let S = bytes_of 8 m.start in
    let M = numbers 8 N (λ i. get_or m.successors i 0) in
    let F = numbers 8 sets (λ i. get_or m.fairness i 0) in
    stands_join O (S ++ (M ++ F)) P at N (table_length N _)
    (table_stands N (λ i. get_or m.observations i 0) P at (λ i h. filled_at 64 N (λ s. get_or P (at + s) 0) i h (omega arith)))
    (stands_join S (M ++ F) P (at + N) 8 (bytes_length 8 m.start)
    (bytes_stand 8 m.start P (at + N) b refl)
    (stands_join M F P (at + N + 8) (8 * N) (numbers_length 8 N _)
    (numbers_stand 8 N (λ i. get_or m.successors i 0) P (at + N + 8) (omega arith) b (λ i h. filled_at 64 N (λ s. number_at 8 P (at + N + 8 + 8 * s)) i h (omega arith)))
    (numbers_stand 8 sets (λ i. get_or m.fairness i 0) P (at + N + 8 + 8 * N) (omega arith) b
    (λ i h. filled_at 8 sets (λ k. number_at 8 P (at + 9 * N + 8 + 8 * k)) i h (omega arith) ∙ ap (number_at 8 P) (omega arith)))))

-- a machine that was read from bytes is such as the code's types have
filled_lt : (n count bound : ℕ) (f : ℕ → ℕ) → 0 < bound → ((i : ℕ) → f i < bound) → (i : ℕ) → get_or (table n (λ s. cond (ltb s count) (f s) 0)) i 0 < bound
filled_lt n count bound f pos h i = by_cases (dec_lt i n)
    (λ k. rw (table_at n (λ s. cond (ltb s count) (f s) 0) i 0 k) (cond_cases (ltb i count) (λ x. x < bound) (f i) 0 (λ t. h i) (λ t. pos)))
    (λ k. rw (table_past n (λ s. cond (ltb s count) (f s) 0) i 0 (omega arith)) pos)

pub machine_representable : (P : List ℕ) (at N sets : ℕ) → AreBytes P → RepresentableMachine (machine_at P at N sets)
unfolding machine_at
machine_representable P at N sets b =
    let mask : (k : ℕ) → number_at 8 P k < 2 ^ 64 = λ k. number_lt 8 P k (λ i l. b (k + i)) in
    record {
      observations_length = table_length 64 _;
      successors_length = table_length 64 _;
      fairness_length = table_length 8 _;
      observation_byte = filled_lt 64 N 256 (λ s. get_or P (at + s) 0) (omega arith) (λ s. b (at + s));
      start_mask = mask (at + N);
      successors_mask = filled_lt 64 N (2 ^ 64) (λ s. number_at 8 P (at + N + 8 + 8 * s)) (omega arith) (λ s. mask (at + N + 8 + 8 * s));
      fairness_mask = filled_lt 8 sets (2 ^ 64) (λ k. number_at 8 P (at + 9 * N + 8 + 8 * k)) (omega arith) (λ k. mask (at + 9 * N + 8 + 8 * k));
    }

-- ---- payloads
pub stands_at : (l P : List ℕ) (i j : ℕ) → i ≡ j → Stands l P i → Stands l P j
stands_at l P i j e s k h = ap (λ (x : ℕ). get_or P (x + k) 0) (sym e) ∙ s k h

-- the parts of a payload, each at its place
pub record Parts (p : Pair) (note : Bool) (T P : List ℕ) : Type 0 where
  pub head : Stands (header p note) P 0
  pub concrete : Stands (machine_bytes p.concrete) P 16
  pub abstraction : Stands (machine_bytes p.abstraction) P (24 + 9 * n_c p + 8 * sets_c p)
  pub entries : Stands (table_bytes p note T) P (payload_length (n_c p) (n_a p) (sets_c p) (sets_a p) false)

module _ (p : Pair) (note : Bool) (T P : List ℕ) where
  pub parts_of : Stands (payload p note T) P 0 → Parts p note T P
  unfolding payload payload_length
  parts_of s =
      let H = header p note in
      let C = machine_bytes p.concrete in
      let A = machine_bytes p.abstraction in
      let E = table_bytes p note T in
      let behind_header = stands_at (C ++ (A ++ E)) P (0 + 16) 16 refl (stands_back H (C ++ (A ++ E)) P 0 16 (header_length p note) s) in
      let behind_rig = stands_back C (A ++ E) P 16 (9 * n_c p + 8 * sets_c p + 8) (machine_length p.concrete) behind_header in
      let behind_score = stands_back A E P (16 + (9 * n_c p + 8 * sets_c p + 8)) (9 * n_a p + 8 * sets_a p + 8) (machine_length p.abstraction) behind_rig in
      record {
        head = stands_front H (C ++ (A ++ E)) P 0 s;
        concrete = stands_front C (A ++ E) P 16 behind_header;
        abstraction = stands_at A P _ _ (omega arith) (stands_front A E P (16 + (9 * n_c p + 8 * sets_c p + 8)) behind_rig);
        entries = stands_at E P _ _ (omega arith) behind_score;
      }

  pub parts_join : Parts p note T P → Stands (payload p note T) P 0
  unfolding payload payload_length
  parts_join r =
      let H = header p note in
      let C = machine_bytes p.concrete in
      let A = machine_bytes p.abstraction in
      let E = table_bytes p note T in
      stands_join H (C ++ (A ++ E)) P 0 16 (header_length p note) r.head
      (stands_join C (A ++ E) P 16 (9 * n_c p + 8 * sets_c p + 8) (machine_length p.concrete) r.concrete
      (stands_join A E P (16 + (9 * n_c p + 8 * sets_c p + 8)) (9 * n_a p + 8 * sets_a p + 8) (machine_length p.abstraction)
      (stands_at A P _ _ (omega arith) r.abstraction) (stands_at E P _ _ (omega arith) r.entries)))
