-- The file laws, as statements over the definitions that the calls' contracts cite. FileLaws.antt and PlacesLaws.antt of proofs/ prove each. Machines, tables and files are
-- any numbers and lists; where a law needs what the code's types give of them, it says so.
use Rattle.std.specs.Prelude.{Bool, true, false, cond, List, ◌++◌, ◌⊎◌, ◌≡◌, ℕ, ◌+◌, ◌*◌, ◌/◌, ◌≤◌, ◌<◌, ◌%◌, ◌^◌, length, get_or, take, drop, eqb, leb, Err, Ok}
use Rattle.mask.specs.Logic.{and}
use Rattle.mask.specs.Bounded.{every}
use Rattle.mask.specs.Tables.{table}
use Rattle.machine.specs.declared.Machine.{Machine}
use Rattle.machine.specs.declared.Pair.{Pair}
use Rattle.machine.specs.declared.Refusal.{Refusal}
use Rattle.machine.specs.Table.{entries, table_room, AreEntries, SameEntries}
use Rattle.machine.specs.WellFormed.{well_formed, nonempty_sets}
use Rattle.machine.specs.Machines.{observation, matched, n_c, n_a, sets_c, sets_a}
use Rattle.machine.specs.Refusals.{valid, number_of}
use Rattle.codec.specs.Format.{letters, file_length, file_of}
use Rattle.codec.specs.Reader.{input_room, taken, check_holds, number_found, damaged, BlockHolds, block_validity, header_byte, header_holds, first_validity, demanded, entries_of, read_answer, read_table, size_of}
use Rattle.codec.specs.Writer.{file_room, write_answer, write_buffer}
use Rattle.machine.specs.declared.Refusal.TheVariants.{BadBlock, BadFirstBlock, Misplaced}

-- what the types of the code give of a machine, whoever made it
pub record RepresentableMachine (m : Machine) : Type 0 where
  pub observations_length : length m.observations ≡ 64
  pub successors_length : length m.successors ≡ 64
  pub fairness_length : length m.fairness ≡ 8
  pub observation_byte : (s : ℕ) → get_or m.observations s 0 < 256
  pub start_mask : m.start < 2 ^ 64
  pub successors_mask : (s : ℕ) → get_or m.successors s 0 < 2 ^ 64
  pub fairness_mask : (k : ℕ) → get_or m.fairness k 0 < 2 ^ 64

pub record Representable (p : Pair) : Type 0 where
  pub concrete : RepresentableMachine p.concrete
  pub abstraction : RepresentableMachine p.abstraction
  pub hidden_byte : p.hidden < 256

-- and of a list of bytes
abbrev pub AreBytes : List ℕ → Type 0
AreBytes f = (i : ℕ) → get_or f i 0 < 256

-- ---- what the definitions say of a file
-- what is written reads back: the machines with their hidden mask, the note, and the table's entries, with the lent table's other entries as they were
abbrev pub WriteRead : Type 0
WriteRead = (p : Pair) (note : Bool) (T lent : List ℕ) → Representable p → well_formed p ≡ true → AreEntries T → table_room ≤ length lent
    → (read_answer (file_of p note T) lent ≡ Ok (taken p note))
    × (read_table (file_of p note T) lent ≡ cond note (table (entries p) (λ e. get_or T e 0) ++ drop (entries p) lent) lent)

-- each file that the reader takes, whoever made it, has the format's bytes of what was read, with empty sets too
abbrev pub ReadWrite : Type 0
ReadWrite = (f lent : List ℕ) (p : Pair) (note : Bool) → AreBytes f → read_answer f lent ≡ Ok (taken p note)
    → (f ≡ file_of p note (entries_of f)) × (f ≡ file_of p note (read_table f lent))

-- a file without a table takes nothing of one
abbrev pub TableUnread : Type 0
TableUnread = (p : Pair) (T U : List ℕ) → file_of p false T ≡ file_of p false U

-- ---- what the first block tells
-- up to 6, or 19 of block 0
abbrev pub IsEarly : Refusal → Type 0
IsEarly r = (number_of r ≤ 6) ⊎ ((n : ℕ) × (r ≡ Misplaced 0 n))

-- refusals up to 6, and 19 of block 0, rest on the first block and the length alone
abbrev pub FirstBlock : Type 0
FirstBlock = (f g lent : List ℕ) → length f ≡ length g → take 512 f ≡ take 512 g
    → (first_validity f ≡ first_validity g) × (demanded f ≡ demanded g) × (size_of f ≡ size_of g)
    × ((r : Refusal) → IsEarly r → read_answer f lent ≡ Err r → read_answer g lent ≡ Err r)

-- of a file of whole blocks, the first alone tells the size
abbrev pub FirstBlockTellsSize : Type 0
FirstBlockTellsSize = (f : List ℕ) → (length f ≡ 0 → ⊥) → length f % 512 ≡ 0 → size_of (take 512 f) ≡ size_of f

-- ---- Document 02, No. 5: damaged or misplaced
-- what the reader's 3, 7 and 19 mean. "3 and 7 mean a wrong check only. A misplaced block tells its place and the number found in it."
pub record Told (f : List ℕ) (r : Refusal) : Type 0 where
  pub first_damaged : number_of r ≡ 3 → (r ≡ BadFirstBlock) × (check_holds f 0 ≡ false)
  pub later_damaged : number_of r ≡ 7
      → (i : ℕ) × (0 < i) × (i < length f / 512) × (r ≡ BadBlock i) × (check_holds f i ≡ false) × ((k : ℕ) → k < i → BlockHolds f k)
  pub found_misplaced : number_of r ≡ 19
      → (i : ℕ) × (i < length f / 512) × (r ≡ Misplaced i (number_found f i)) × (check_holds f i ≡ true) × (number_found f i ≡ i → ⊥)
      × ((k : ℕ) → k < i → BlockHolds f k)

abbrev pub BlocksTold : Type 0
BlocksTold = (f lent : List ℕ) (r : Refusal) → read_answer f lent ≡ Err r → Told f r

-- and back: of whole blocks, block 0 comes before all else;
abbrev pub FirstTold : Type 0
FirstTold = (f lent : List ℕ) (r : Refusal) → table_room ≤ length lent → (length f ≡ 0 → ⊥) → length f % 512 ≡ 0
    → block_validity f 0 ≡ Err r → read_answer f lent ≡ Err r

-- and of a file that passes the tests of block 0 and up to 6, the lowest block that does not hold, whatever follows
abbrev pub LowestTold : Type 0
LowestTold = (f lent : List ℕ) (i : ℕ) (r : Refusal) → table_room ≤ length lent → first_validity f ≡ valid → length f ≡ demanded f
    → 0 < i → i < length f / 512 → ((k : ℕ) → k < i → BlockHolds f k)
    → block_validity f i ≡ Err r → read_answer f lent ≡ Err r

-- a file g that is as long as f and the same before place i
pub record AlikeBefore (i : ℕ) (f g : List ℕ) : Type 0 where
  pub long : length g ≡ length f
  pub inside : i < length f / 512
  pub before : (k : ℕ) → k < 512 * i → get_or g k 0 ≡ get_or f k 0

-- where f is taken, what g has at place i decides, whatever follows: a block whose check holds with another number is 19
abbrev pub MisplacedTold : Type 0
MisplacedTold = (f g lent : List ℕ) (p : Pair) (note : Bool) (i : ℕ) → read_answer f lent ≡ Ok (taken p note) → AlikeBefore i f g
    → check_holds g i ≡ true → (number_found g i ≡ i → ⊥) → read_answer g lent ≡ Err (Misplaced i (number_found g i))

-- and a block whose check is wrong is 3 or 7
abbrev pub DamagedTold : Type 0
DamagedTold = (f g lent : List ℕ) (p : Pair) (note : Bool) (i : ℕ) → read_answer f lent ≡ Ok (taken p note) → AlikeBefore i f g
    → check_holds g i ≡ false → read_answer g lent ≡ Err (damaged i)

-- the blocks of a file joined anew: at place i the block that stood at place `from i`
unfoldable pub joined : (ℕ → ℕ) → List ℕ → List ℕ
joined from f = table (length f) (λ k. get_or f (512 * from (k / 512) + k % 512) 0)

-- of a file that is taken, joined anew: 19 at the lowest place that has another block, with that block's number
abbrev pub JoinedTold : Type 0
JoinedTold = (f lent : List ℕ) (p : Pair) (note : Bool) (from : ℕ → ℕ) (i : ℕ) → read_answer f lent ≡ Ok (taken p note)
    → i < length f / 512 → from i < length f / 512 → ((k : ℕ) → k < i → from k ≡ k) → (from i ≡ i → ⊥)
    → read_answer (joined from f) lent ≡ Err (Misplaced i (from i))

-- with blocks i and k exchanged
abbrev pub exchanged : ℕ → ℕ → ℕ → ℕ
exchanged i k place = cond (eqb place i) k (cond (eqb place k) i place)

abbrev pub ExchangedTold : Type 0
ExchangedTold = (f lent : List ℕ) (p : Pair) (note : Bool) (i k : ℕ) → read_answer f lent ≡ Ok (taken p note) → i < k → k < length f / 512
    → read_answer (joined (exchanged i k) f) lent ≡ Err (Misplaced i k)

-- with block k's bytes at place i too
abbrev pub overwritten : ℕ → ℕ → ℕ → ℕ
overwritten i k place = cond (eqb place i) k place

abbrev pub OverwrittenTold : Type 0
OverwrittenTold = (f lent : List ℕ) (p : Pair) (note : Bool) (i k : ℕ) → read_answer f lent ≡ Ok (taken p note)
    → i < length f / 512 → k < length f / 512 → (k ≡ i → ⊥)
    → read_answer (joined (overwritten i k) f) lent ≡ Err (Misplaced i k)

-- ---- what was taken
-- the machines are such as the code's types have
abbrev pub TakenRepresentable : Type 0
TakenRepresentable = (f lent : List ℕ) (p : Pair) (note : Bool) → AreBytes f → read_answer f lent ≡ Ok (taken p note) → Representable p

-- the hidden mask is the header's byte after n, whatever its value
abbrev pub TakenHidden : Type 0
TakenHidden = (f lent : List ℕ) (p : Pair) (note : Bool) → read_answer f lent ≡ Ok (taken p note) → p.hidden ≡ header_byte f 8

-- Document 02, No. 4: "Stored files have 0 and keep their meaning." Where that byte is 0, test 4 is document 01's, which asks for a zero there,
abbrev pub StoredTest : Type 0
StoredTest = (f : List ℕ) → header_byte f 8 ≡ 0
    → header_holds f ≡ and (every 4 (λ i. eqb (header_byte f i) (get_or letters i 0)))
    (and (eqb (header_byte f 8) 0) (and (leb (header_byte f 9) 1) (every 6 (λ i. eqb (header_byte f (10 + i)) 0))))

-- and the pairs that are matched are document 01's, those with equal observations
abbrev pub StoredMatched : Type 0
StoredMatched = (f lent : List ℕ) (p : Pair) (note : Bool) → read_answer f lent ≡ Ok (taken p note) → header_byte f 8 ≡ 0
    → (c a : ℕ) → matched p c a ≡ eqb (observation p.concrete c) (observation p.abstraction a)

-- the file has room where any file has, so that its first 59,904 bytes are all of it
abbrev pub TakenFits : Type 0
TakenFits = (f lent : List ℕ) (p : Pair) (note : Bool) → read_answer f lent ≡ Ok (taken p note) → (length f ≤ file_room) × (take input_room f ≡ f)

-- ---- what the calls say and write
-- the writer writes well-formed machines whose sets all have a state where both lent buffers have room
abbrev pub WriteAnswers : Type 0
WriteAnswers = (p : Pair) (note : Bool) (T buffer : List ℕ) → well_formed p ≡ true → nonempty_sets p ≡ true → table_room ≤ length T → file_room ≤ length buffer
    → write_answer p note T buffer ≡ Ok (file_length (n_c p) (n_a p) (sets_c p) (sets_a p) note)

-- the writer's buffer, cut to the length that the writer gives, reads back
abbrev pub WrittenReads : Type 0
WrittenReads = (p : Pair) (note : Bool) (T buffer lent : List ℕ) (n : ℕ) → Representable p → AreEntries T → table_room ≤ length lent
    → write_answer p note T buffer ≡ Ok n
    → (read_answer (take n (write_buffer p note T buffer)) lent ≡ Ok (taken p note))
    × (read_table (take n (write_buffer p note T buffer)) lent ≡ cond note (table (entries p) (λ e. get_or T e 0) ++ drop (entries p) lent) lent)

-- a file that was taken is written again, to the byte, from the machines, the mask, the note and the table that were read, where the sets of
-- both machines all have a state (document 02, No. 7)
abbrev pub ReadWrites : Type 0
ReadWrites = (f lent buffer : List ℕ) (p : Pair) (note : Bool) → AreBytes f → file_room ≤ length buffer → read_answer f lent ≡ Ok (taken p note)
    → nonempty_sets p ≡ true
    → (write_answer p note (read_table f lent) buffer ≡ Ok (length f)) × (write_buffer p note (read_table f lent) buffer ≡ f ++ drop (length f) buffer)

-- entries "past n × P are neither read nor changed": the writer does not read them, of any machines, well formed or not
abbrev pub EntriesUnread : Type 0
EntriesUnread = (p : Pair) (note : Bool) (T U buffer : List ℕ) → table_room ≤ length T → table_room ≤ length U
    → SameEntries p T U
    → (write_answer p note T buffer ≡ write_answer p note U buffer) × (write_buffer p note T buffer ≡ write_buffer p note U buffer)
