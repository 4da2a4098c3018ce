-- What document 01 says for each case of the reader's answer.
use Rattle.std.specs.Prelude.{Bool, ℕ, Err, Ok}
use Rattle.machine.specs.declared.Pair.{Pair}
use Rattle.machine.specs.Refusals.{Answer}
use Rattle.codec.specs.declared.Show.{Show}
use Rattle.codec.specs.Reader.{Taken, taken, zero_pair}

-- a reading beside machines p
unfoldable pub read_beside : Pair → Answer Bool → Answer Taken
read_beside p (Ok note) = Ok (taken p note)
read_beside p (Err r) = Err r

unfoldable pub read_of : Show → Answer Taken
read_of s = read_beside s.pair s.reading

-- the machines that stand beside an answer: "Beside a refusal all machines .. in the result are zero"
unfoldable pub pair_given : Answer Taken → Pair
pair_given (Ok (taken p note)) = p
pair_given (Err r) = zero_pair

-- for C: the length, 0 beside a refusal
unfoldable pub length_of : Answer ℕ → ℕ
length_of (Ok n) = n
length_of (Err r) = 0
