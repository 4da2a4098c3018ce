-- Laws of what the first block tells: no length is a refusal's number, fewer bytes than a block are refusal 2, and of a file of whole blocks
-- the number is that of the whole, and a refusal's that of the console's answer.
use Rattle.std.specs.Prelude.{true, List, ◌⊎◌, ◌≡◌, refl, ℕ, ◌+◌, ◌*◌, ◌/◌, ◌%◌, ◌≤◌, ◌<◌, eqb, min, length, take, replicate, Err, Ok}
use Rattle.std.proofs.Common.{inl, inr, ⊎_elim, sym, ap, ◌∙◌, arith, take_all, ne_eqb}
use Rattle.std.proofs.Math.Logic.{by_cases}
use Rattle.std.proofs.Math.Decide.{dec_lt}
use Rattle.std.proofs.lemmas.List.{length-replicate}
use Rattle.std.proofs.Math.Seq.{take-length}
use Rattle.std.proofs.lemmas.Bool.{eqb-false}
use Rattle.mask.specs.Logic.{not, or}
use Rattle.mask.specs.LogicLaws.{dec, or_l, or_r, not_i}
use Rattle.machine.specs.declared.Refusal.{Refusal}
use Rattle.machine.specs.Refusals.{number_of}
use Rattle.machine.specs.RefusalsLaws.{then_of, then_refused, given_at, given_refused, buffer_valid}
use Rattle.machine.specs.Table.{table_room}
use Rattle.machine.specs.Verdict.{check_verdict}
use Rattle.codec.specs.Format.{payload_most}
use Rattle.codec.specs.Reader.{damaged, first_validity, payload_demanded, demanded, size_of, read_validity, read_answer}
use Rattle.codec.proofs.ReaderLaws.{block_refuses, first_valid, first_refuses, demanded_is, payload_fits, machines_fit}
use Rattle.codec.specs.OutcomesLaws.{outcome_refused}
use Rattle.codec.proofs.FileLaws.{first_block_tells_size}
use Rattle.codec.specs.Writer.{file_room}
use Rattle.verdict.specs.Outcomes.{file_outcome, outcome_number}
use Rattle.console.specs.FirstBlock.{size_number}
use Rattle.machine.specs.declared.Refusal.TheVariants.{BadLength, BadFirstBlock, BadHeader, BadCounts}

-- ---- a length is a multiple of 512, and no more than any file has room for
whole_blocks : (n payload : ℕ) → n ≡ 512 * ((payload + 507) / 508) → 32 ≤ payload → payload ≤ payload_most → (n % 512 ≡ 0) × (512 ≤ n) × (n ≤ file_room)
whole_blocks n payload e low high = (omega arith, omega arith, omega arith)

pub size_told : (f : List ℕ) (n : ℕ) → size_of f ≡ Ok n → (n % 512 ≡ 0) × (512 ≤ n) × (n ≤ file_room)
unfolding size_of
size_told f n e =
    let t = given_at (first_validity f) (demanded f) e in
    whole_blocks n (payload_demanded f) (sym t.1 ∙ demanded_is f) (omega (arith, machines_fit f)) (payload_fits f (first_valid f t.0).counts)

-- ---- a refusal's number is 2, 3, 4, 5 or 19, which no length is
pub refusal_told : (f : List ℕ) (r : Refusal) → size_of f ≡ Err r → ((2 ≤ number_of r) × (number_of r ≤ 5)) ⊎ (number_of r ≡ 19)
unfolding size_of damaged
refusal_told f r e =
    first_refuses Number f (low BadLength (omega arith) (omega arith))
    (λ _. block_refuses f 0 Number (λ _. low BadFirstBlock (omega arith) (omega arith)) (λ _ _. inr refl))
    (low BadHeader (omega arith) (omega arith)) (low BadCounts (omega arith) (omega arith)) r (given_refused _ _ e)
  where
    Number : Refusal → Type 0
    Number r = ((2 ≤ number_of r) × (number_of r ≤ 5)) ⊎ (number_of r ≡ 19)

    low : (s : Refusal) → 2 ≤ number_of s → number_of s ≤ 5 → Number s
    low s a b = inl (a, b)

-- ---- fewer bytes than a block
-- all of them are in the first
pub short_take : (f : List ℕ) {n : ℕ} → length f < 512 → n ≡ length f → take n f ≡ take 512 f
short_take f h e = ap (λ (n : ℕ). take n f) e ∙ take-length f ∙ sym (take_all 512 f (omega arith))

-- they, or the first 512 of more, are the first block
pub first_take : (f : List ℕ) {n : ℕ} → n ≡ min (length f) 512 → take n f ≡ take 512 f
first_take f {n} e =
    by_cases (dec_lt (length f) 512) (λ h. short_take f h (omega arith)) (λ h. let z : n ≡ 512 = omega arith in ap (λ (k : ℕ). take k f) z)

short_length : (n : ℕ) → n < 512 → or (eqb n 0) (not (eqb (n % 512) 0)) ≡ true
short_length n h = ⊎_elim
    (λ t. or_l _ t)
    (λ t. or_r (eqb n 0) (not_i (ne_eqb (n % 512) 0 (λ z. eqb-false n 0 t (omega arith)))))
    (dec (eqb n 0))

pub short_told : (f : List ℕ) → length f < 512 → size_number (size_of (take 512 f)) ≡ 2
unfolding size_number size_of first_validity
short_told f h = rw (take_all 512 f (omega arith)) (ap size_number (then_refused (first_validity f) _ BadLength (rw (short_length (length f) h))))

-- ---- whole blocks
pub whole_told : (f : List ℕ) → (length f ≡ 0 → ⊥) → length f % 512 ≡ 0 → size_number (size_of (take 512 f)) ≡ size_number (size_of f)
whole_told f some whole = ap size_number (first_block_tells_size f some whole)

-- where the first block is refused, so is the file, with the same number
pub refused_told : (f : List ℕ) {r : Refusal} → (length f ≡ 0 → ⊥) → length f % 512 ≡ 0 → size_of (take 512 f) ≡ Err r
    → outcome_number (file_outcome f) ≡ number_of r
unfolding size_of read_validity read_answer outcome_number
refused_told f {r} some whole e =
    let first : first_validity f ≡ Err r = given_refused (first_validity f) (demanded f) (sym (first_block_tells_size f some whole) ∙ e) in
    let room = length (replicate {A = ℕ} table_room 0) in
    let read : read_validity f room ≡ Err r =
    then_of _ _ (buffer_valid table_room room (omega (arith, length-replicate {A = ℕ} table_room 0))) ∙ then_refused _ _ r first in
    ap outcome_number (outcome_refused check_verdict f (then_refused _ _ r read))
