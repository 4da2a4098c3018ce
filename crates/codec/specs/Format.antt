-- Document 01, "Files": the format.
use Rattle.std.specs.Prelude.{Bool, cond, List, [], ◌∷◌, ◌++◌, ℕ, suc, ◌+◌, ◌*◌, ◌/◌, ◌%◌, ◌^◌, length, get_or}
use Rattle.mask.specs.Bounded.{sum}
use Rattle.mask.specs.Tables.{table}
use Rattle.machine.specs.declared.Machine.{Machine}
use Rattle.machine.specs.declared.Pair.{Pair}
use Rattle.machine.specs.Machines.{observation, successors, fair_set, n_c, n_a, sets_c, sets_a}
use Rattle.machine.specs.Table.{entries}

-- "All numbers have their low byte first." byte i of a number
unfoldable pub byte_of : ℕ → ℕ → ℕ
byte_of x i = x / 256 ^ i % 256

-- the n bytes of a number
unfoldable pub bytes_of : ℕ → ℕ → List ℕ
bytes_of n x = table n (byte_of x)

-- count numbers of n bytes each
unfoldable pub numbers : ℕ → ℕ → (ℕ → ℕ) → List ℕ
numbers n count f = table (n * count) (λ i. byte_of (f (i / n)) (i % n))

-- the number whose n bytes stand at a place of a list
unfoldable pub number_at : ℕ → List ℕ → ℕ → ℕ
number_at n s at = sum n (λ i. get_or s (at + i) 0 * 256 ^ i)

-- "the letters DOM1 in ASCII"
abbrev pub letters : List ℕ
letters = 68 ∷ 79 ∷ 77 ∷ 49 ∷ []

-- "16 bytes: the letters DOM1 in ASCII, then nC, nA, m, n, a zero, a byte that is 1 if a table follows and else 0, six zeros". Document 02, No. 4:
-- "The header's zero after n becomes the hidden mask".
unfoldable pub header : Pair → Bool → List ℕ
header p note = letters ++ (n_c p ∷ n_a p ∷ sets_c p ∷ sets_a p ∷ p.hidden ∷ cond note 1 0 ∷ 0 ∷ 0 ∷ 0 ∷ 0 ∷ 0 ∷ 0 ∷ [])

-- "observations, start mask, successor masks, sets"
unfoldable pub machine_bytes : Machine → List ℕ
machine_bytes m = table m.states (observation m) ++ (bytes_of 8 m.start ++ (numbers 8 m.states (successors m) ++ numbers 8 m.sets (fair_set m)))

-- "the table, n × P entries, if there is one"
unfoldable pub table_bytes : Pair → Bool → List ℕ → List ℕ
table_bytes p note T = let bytes = numbers 2 (entries p) (λ e. get_or T e 0) in cond note bytes []

-- "The payloads joined hold"
unfoldable pub payload : Pair → Bool → List ℕ → List ℕ
payload p note T = header p note ++ (machine_bytes p.concrete ++ (machine_bytes p.abstraction ++ table_bytes p note T))

-- "Payload is 32 + 9 × (nC + nA) + 8 × (m + n) bytes, plus 2 × n × P with a table", by the counts nC, nA, m, n
unfoldable pub payload_length : ℕ → ℕ → ℕ → ℕ → Bool → ℕ
payload_length c a m n note = 32 + 9 * (c + a) + 8 * (m + n) + cond note (2 * (n * (c * a))) 0

-- "at most 58,648, or 116 blocks": the longest payload, and the payload of 116 blocks
abbrev pub payload_most : ℕ
payload_most = 58648

abbrev pub payload_room : ℕ
payload_room = 58928

-- the blocks that a payload of some length takes
unfoldable pub blocks_for : ℕ → ℕ
blocks_for len = (len + 507) / 508

-- the file's own length in bytes, by the counts
unfoldable pub file_length : ℕ → ℕ → ℕ → ℕ → Bool → ℕ
file_length c a m n note = 512 * blocks_for (payload_length c a m n note)

-- "the check: the sum over i = 0 .. 509 of (i + 1) × byte i, modulo 65,521", of the block that starts at a place of a list
unfoldable pub check_at : List ℕ → ℕ → ℕ
check_at s at = sum 510 (λ i. suc i * get_or s (at + i) 0) % 65521

-- block i with its part of the payload: its number, the part and the check of both
unfoldable pub block_of : List ℕ → ℕ → List ℕ
block_of part i = let front = bytes_of 2 i ++ part in front ++ bytes_of 2 (check_at front 0)

-- "Bytes 0 and 1 are the block's number from 0, bytes 2 to 509 payload": "zeros to the block's end"
unfoldable pub block_front : List ℕ → ℕ → List ℕ
block_front Q i = bytes_of 2 i ++ table 508 (λ k. get_or Q (508 * i + k) 0)

-- "bytes 510 and 511 the check"
unfoldable pub block : List ℕ → ℕ → List ℕ
block Q i = let front = block_front Q i in front ++ bytes_of 2 (check_at front 0)

-- "Blocks of 512 bytes": a payload as a file
unfoldable pub blocked : List ℕ → List ℕ
blocked Q = table (512 * blocks_for (length Q)) (λ k. get_or (block Q (k / 512)) (k % 512) 0)

-- the file of a pair, with the table T if `note` says so
unfoldable pub file_of : Pair → Bool → List ℕ → List ℕ
file_of p note T = blocked (payload p note T)
