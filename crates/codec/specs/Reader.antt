-- Document 01: how a file is read, with refusals 1 to 11 in its order; and 19 of document 02.
use Rattle.std.specs.Prelude.{Bool, true, false, cond, List, [], ◌≡◌, ℕ, zero, suc, ◌+◌, ◌-◌, ◌*◌, ◌/◌, ◌%◌, length, get_or, replicate, eqb, leb, ltb, Err, Ok}
use Rattle.mask.specs.Logic.{not, and, or}
use Rattle.mask.specs.Bounded.{every}
use Rattle.mask.specs.Tables.{table}
use Rattle.machine.specs.declared.Machine.{Machine}
use Rattle.machine.specs.declared.Pair.{Pair}
use Rattle.machine.specs.Refusals.{Tested, valid, and_then, each, buffer_after, buffer_validity, Answer}
use Rattle.machine.specs.Machines.{n_c, n_a, sets_c, sets_a}
use Rattle.machine.specs.WellFormed.{counts_ok, pair_validity}
use Rattle.machine.specs.Table.{entries, table_room}
use Rattle.codec.specs.Format.{letters, number_at, payload_length, file_length, check_at}
use Rattle.machine.specs.declared.Refusal.{Refusal}
use Rattle.machine.specs.declared.Refusal.TheVariants.{BadBlock, BadFirstBlock, BadCounts, BadHeader, BadLength, BadPadding, Misplaced, WrongLength}

-- "It takes the first 59,904 bytes of longer input as the file."
abbrev pub input_room : ℕ
input_room = 59904

-- what a reading that was not refused gives: the machines, and the note whether a table came
pub data Taken : Type 0 where
  taken : Pair → Bool → Taken

-- ---- blocks
-- the check of block i holds
unfoldable pub check_holds : List ℕ → ℕ → Bool
check_holds f i = eqb (number_at 2 f (512 * i + 510)) (check_at f (512 * i))

-- the number found in block i
unfoldable pub number_found : List ℕ → ℕ → ℕ
number_found f i = number_at 2 f (512 * i)

-- the refusal for a wrong check of block i: 3 for block 0, 7 for a later one
unfoldable pub damaged : ℕ → Refusal
damaged zero = BadFirstBlock
damaged (suc i) = BadBlock (suc i)

-- block i: 3 or 7 for "a wrong check only", and 19 for "a block whose check holds and whose number isn't its place, tested right after that block's
-- check", which "tells its place and the number found in it" (document 02, No. 5)
unfoldable pub block_validity : List ℕ → ℕ → Tested
block_validity f i =
    cond (not (check_holds f i)) (Err (damaged i))
    (cond (not (eqb (number_found f i) i)) (Err (Misplaced i (number_found f i))) valid)

-- a block that is neither damaged nor misplaced
abbrev pub BlockHolds : List ℕ → ℕ → Type 0
BlockHolds f i = (check_holds f i ≡ true) × (number_found f i ≡ i)

-- "bytes 2 to 509 payload": the byte of the file that is byte k of the payloads joined
abbrev pub payload_byte : List ℕ → ℕ → ℕ
payload_byte f k = get_or f (512 * (k / 508) + 2 + k % 508) 0

-- the payloads of the first n blocks, joined
unfoldable pub payload_of : List ℕ → ℕ → List ℕ
payload_of f n = table (508 * n) (payload_byte f)

-- ---- the first block
-- byte k of the payload, which the first block holds
unfoldable pub header_byte : List ℕ → ℕ → ℕ
header_byte f k = get_or f (2 + k) 0

-- the note whether a table follows
unfoldable pub note_of : List ℕ → Bool
note_of f = eqb (header_byte f 9) 1

-- 4: "letters, a zero or the table byte wrong"; byte 8, the hidden mask, is left alone
unfoldable pub header_holds : List ℕ → Bool
header_holds f =
    and (every 4 (λ i. eqb (header_byte f i) (get_or letters i 0)))
    (and (leb (header_byte f 9) 1) (every 6 (λ i. eqb (header_byte f (10 + i)) 0)))

-- 5, by the first block
unfoldable pub counts_hold : List ℕ → Bool
counts_hold f = and (counts_ok 8 (header_byte f 4) (header_byte f 6)) (counts_ok 7 (header_byte f 5) (header_byte f 7))

-- 4 and 5
unfoldable pub header_validity : List ℕ → Tested
header_validity f = cond (not (header_holds f)) (Err BadHeader) (cond (not (counts_hold f)) (Err BadCounts) valid)

-- 2, block 0's 3 and 19, 4 and 5: all that rests on the first block
unfoldable pub first_validity : List ℕ → Tested
first_validity f =
    cond (or (eqb (length f) 0) (not (eqb (length f % 512) 0))) (Err BadLength)
    (and_then (block_validity f 0) (header_validity f))

-- the payload's length, and the file's, that the counts demand
unfoldable pub payload_demanded : List ℕ → ℕ
payload_demanded f = payload_length (header_byte f 4) (header_byte f 5) (header_byte f 6) (header_byte f 7) (note_of f)

unfoldable pub demanded : List ℕ → ℕ
demanded f = file_length (header_byte f 4) (header_byte f 5) (header_byte f 6) (header_byte f 7) (note_of f)

-- what the first block tells: the length in bytes that the whole file must have, or a refusal
unfoldable pub size_of : List ℕ → Answer ℕ
size_of f = and_then (first_validity f) (Ok (demanded f))

-- ---- the whole file
-- 7 and 19, block by block after block 0, the lowest first
unfoldable pub later_blocks : List ℕ → Tested
later_blocks f = each (length f / 512 - 1) (λ i. block_validity f (suc i))

-- 8: "padding not zero"
unfoldable pub padding_holds : List ℕ → Bool
padding_holds f = every (508 * (length f / 512)) (λ k. or (ltb k (payload_demanded f)) (eqb (payload_byte f k) 0))

-- 6, the later blocks' 7 and 19, and 8
unfoldable pub blocks_validity : List ℕ → Tested
blocks_validity f =
    cond (not (eqb (length f) (demanded f))) (Err WrongLength)
    (and_then (later_blocks f) (cond (not (padding_holds f)) (Err BadPadding) valid))

-- ---- what the payload holds
-- a machine of N states and some sets, at a place of the payload; entries beyond the counts are zero
unfoldable pub machine_at : List ℕ → ℕ → ℕ → ℕ → Machine
machine_at Q at N sets = record {
  states = N;
  sets = sets;
  start = number_at 8 Q (at + N);
  observations = table 64 (λ s. cond (ltb s N) (get_or Q (at + s) 0) 0);
  successors = table 64 (λ s. cond (ltb s N) (number_at 8 Q (at + N + 8 + 8 * s)) 0);
  fairness = table 8 (λ k. cond (ltb k sets) (number_at 8 Q (at + 9 * N + 8 + 8 * k)) 0);
}

-- the machines and the hidden mask of a file whose blocks hold
unfoldable pub pair_of : List ℕ → Pair
pair_of f =
    let Q = payload_of f (length f / 512) in
    let c = header_byte f 4 in
    let m = header_byte f 6 in
    record {
      concrete = machine_at Q 16 c m;
      abstraction = machine_at Q (24 + 9 * c + 8 * m) (header_byte f 5) (header_byte f 7);
      hidden = header_byte f 8;
    }

-- its table's entries
unfoldable pub entries_of : List ℕ → List ℕ
entries_of f =
    let Q = payload_of f (length f / 512) in
    let p = pair_of f in
    let at = payload_length (n_c p) (n_a p) (sets_c p) (sets_a p) false in
    table (entries p) (λ e. number_at 2 Q (at + 2 * e))

-- all that the reader tests: 1 to 11, and 19
unfoldable pub read_validity : List ℕ → ℕ → Tested
read_validity f room =
    and_then (buffer_validity table_room room) (and_then (first_validity f) (and_then (blocks_validity f) (pair_validity (pair_of f))))

-- the reader's whole answer, for a file f and a lent table T
unfoldable pub read_answer : List ℕ → List ℕ → Answer Taken
read_answer f T = and_then (read_validity f (length T)) (Ok (taken (pair_of f) (note_of f)))

-- what is written to a lent table: "A file without a table leaves the lent table unchanged."
unfoldable pub table_of : List ℕ → List ℕ
table_of f = cond (note_of f) (entries_of f) []

-- the lent table's final content
unfoldable pub read_table : List ℕ → List ℕ → List ℕ
read_table f T = buffer_after (read_validity f (length T)) (table_of f) T

-- "Beside a refusal all machines .. in the result are zero", and so is the hidden mask
unfoldable pub zero_machine : Machine
zero_machine = record { states = 0; sets = 0; start = 0; observations = replicate 64 0; successors = replicate 64 0; fairness = replicate 8 0 }

unfoldable pub zero_pair : Pair
zero_pair = record { concrete = zero_machine; abstraction = zero_machine; hidden = 0 }
