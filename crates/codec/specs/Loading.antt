-- Names that the contracts of the reader's own parts cite.
use Rattle.std.specs.Prelude.{List, true, false, ◌≡◌, ℕ, ◌*◌, ◌/◌, ◌≤◌, length, get_or}
use Rattle.codec.specs.declared.reader.Counts.{Counts}
use Rattle.codec.specs.Format.{payload_length}
use Rattle.codec.specs.Reader.{header_byte, counts_hold, payload_demanded, payload_of}

-- the counts of a header
abbrev pub counts_of : List ℕ → Counts
counts_of f = record { c = header_byte f 4; a = header_byte f 5; m = header_byte f 6; n = header_byte f 7 }

-- where the table's entries begin in the payload, and how many they are
abbrev pub entries_place : List ℕ → ℕ
entries_place f = payload_length (header_byte f 4) (header_byte f 5) (header_byte f 6) (header_byte f 7) false

abbrev pub entries_count : List ℕ → ℕ
entries_count f = header_byte f 7 * (header_byte f 4 * header_byte f 5)

-- Q holds the joined payloads of the file f, and zeros after them
pub record Loaded (f Q : List ℕ) : Type 0 where
  pub long : 512 ≤ length f
  pub counts : counts_hold f ≡ true
  pub room : payload_demanded f ≤ length Q
  pub same : (k : ℕ) → get_or Q k 0 ≡ get_or (payload_of f (length f / 512)) k 0
