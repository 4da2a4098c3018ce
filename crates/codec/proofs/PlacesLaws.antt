-- Laws of damaged and misplaced blocks, each as Statements.antt states it. A block's test looks at its 512 bytes alone, so a block that stands at
-- another place than in the file that was taken has a check that holds there and its old place as its number.
use Rattle.std.specs.Prelude.{Bool, List, ◌≡◌, refl, ℕ, zero, suc, ◌+◌, ◌-◌, ◌*◌, ◌/◌, ◌%◌, ◌≤◌, ◌<◌, eqb, ltb, length, get_or, Err, Ok}
use Rattle.std.proofs.Common.{sym, ap, ◌∙◌, eq-eqb, ne_eqb}
use native.Mathlib.Omega.{arith}
use Rattle.mask.specs.Logic.{not}
use Rattle.mask.specs.TablesLaws.{table_length, table_at}
use Rattle.machine.specs.declared.Pair.{Pair}
use Rattle.machine.specs.declared.Refusal.{Refusal}
use Rattle.machine.specs.Refusals.{valid, number_of, and_then, each, buffer_validity}
use Rattle.machine.specs.RefusalsLaws.{then_of, then_refused, given_refused, each_valid, each_refused, RefusesOnly, refuses_none, refuses_at, refuses_cond, refuses_then, refuses_each}
use Rattle.machine.specs.Table.{table_room}
use Rattle.machine.specs.WellFormedLaws.{pair_refuses}
use Rattle.codec.specs.Reader.{taken, number_found, damaged, BlockHolds, block_validity, first_validity, demanded, later_blocks, padding_holds, blocks_validity, pair_of, read_validity, read_answer}
use Rattle.codec.specs.Statements.{Told, BlocksTold, FirstTold, LowestTold, AlikeBefore, MisplacedTold, DamagedTold, joined, JoinedTold, exchanged, ExchangedTold, overwritten, OverwrittenTold}
use Rattle.codec.proofs.ReaderLaws.{block_damaged, block_misplaced, block_valid, block_refuses, check_same, found_same, first_valid, first_refuses, blocks_then, later_hold, tests_refused}
use Rattle.codec.proofs.ReadWriteLaws.{Whole, whole, all_blocks}
use Rattle.codec.proofs.FileLaws.{Was, was_taken, ragged, not_ragged, first_same, demanded_same}
use Rattle.machine.specs.declared.Refusal.TheVariants.{ShortBuffer, BadLength, BadHeader, BadCounts, WrongLength, BadPadding, Misplaced}

-- ---- what 3, 7 and 19 mean
-- the other numbers tell nothing here
told_other : (f : List ℕ) (r : Refusal) → (number_of r ≡ 3 → ⊥) → (number_of r ≡ 7 → ⊥) → (number_of r ≡ 19 → ⊥) → Told f r
told_other f r a b c = record { first_damaged = λ e. absurd (a e); later_damaged = λ e. absurd (b e); found_misplaced = λ e. absurd (c e) }

first_block_told : (f : List ℕ) → 512 ≤ length f → RefusesOnly (Told f) (block_validity f 0)
unfolding damaged
first_block_told f long = block_refuses f 0 (Told f)
    (λ t. record { first_damaged = λ e. (refl, t); later_damaged = λ e. absurd (omega arith); found_misplaced = λ e. absurd (omega arith) })
    (λ t n. record {
      first_damaged = λ e. absurd (omega arith);
      later_damaged = λ e. absurd (omega arith);
      found_misplaced = λ e. (0, omega arith, refl, t, n, λ k l. absurd (omega arith));
    })

-- the blocks before a later one that is looked at hold
later_told : (f : List ℕ) → BlockHolds f 0 → RefusesOnly (Told f) (later_blocks f)
unfolding later_blocks damaged
later_told f first = refuses_each (Told f) _ _ (λ i l v. block_refuses f (suc i) (Told f)
    (λ t. record {
      first_damaged = λ e. absurd (omega arith);
      later_damaged = λ e. (suc i, omega arith, omega arith, refl, t, before i v);
      found_misplaced = λ e. absurd (omega arith);
    })
    (λ t n. record {
      first_damaged = λ e. absurd (omega arith);
      later_damaged = λ e. absurd (omega arith);
      found_misplaced = λ e. (suc i, omega arith, refl, t, n, before i v);
    }))
  where
    before : (i : ℕ) → each i (λ k. block_validity f (suc k)) ≡ valid → (k : ℕ) → k < suc i → BlockHolds f k
    before i v zero l = first
    before i v (suc k) l = later_hold f i v (suc k) (omega arith) l

later_blocks_told : (f : List ℕ) → BlockHolds f 0 → RefusesOnly (Told f) (blocks_validity f)
unfolding blocks_validity
later_blocks_told f first =
    refuses_cond (Told f) (not (eqb (length f) (demanded f))) _ _ (λ t. refuses_at (Told f) _ (told_other f WrongLength (λ e. omega arith) (λ e. omega arith) (λ e. omega arith)))
    (λ t. refuses_then (Told f) (later_blocks f) _ (later_told f first)
    (λ v. refuses_cond (Told f) (not (padding_holds f)) _ _ (λ u. refuses_at (Told f) _ (told_other f BadPadding (λ e. omega arith) (λ e. omega arith) (λ e. omega arith)))
    (λ u. refuses_none (Told f))))

pub blocks_told : BlocksTold
unfolding read_answer read_validity buffer_validity
blocks_told f lent r e =
    refuses_then (Told f) (buffer_validity table_room (length lent)) _
    (refuses_cond (Told f) (ltb (length lent) table_room) _ _ (λ t. refuses_at (Told f) _ (told_other f ShortBuffer (λ e. omega arith) (λ e. omega arith) (λ e. omega arith))) (λ t. refuses_none (Told f)))
    (λ t. refuses_then (Told f) (first_validity f) _
    (first_refuses (Told f) f (told_other f BadLength (λ e. omega arith) (λ e. omega arith) (λ e. omega arith)) (first_block_told f)
    (told_other f BadHeader (λ e. omega arith) (λ e. omega arith) (λ e. omega arith)) (told_other f BadCounts (λ e. omega arith) (λ e. omega arith) (λ e. omega arith)))
    (λ v. refuses_then (Told f) (blocks_validity f) _ (later_blocks_told f (first_valid f v).block)
    (λ u. pair_refuses (Told f) (λ r low high. told_other f r (λ e. omega arith) (λ e. omega arith) (λ e. omega arith)) (pair_of f)
    (λ w. told_other f BadCounts (λ e. omega arith) (λ e. omega arith) (λ e. omega arith)))))
    r (given_refused _ _ e)

-- ---- and back
reads : (f lent : List ℕ) {r : Refusal} → table_room ≤ length lent → and_then (first_validity f) (blocks_validity f) ≡ Err r → read_answer f lent ≡ Err r
unfolding read_answer
reads f lent {r} room e = then_refused _ _ r (tests_refused f (length lent) room r e)

pub first_told : FirstTold
unfolding first_validity
first_told f lent r room some whole stops = reads f lent room (then_refused _ _ r (rw (not_ragged f some whole) (then_refused _ _ r stops)))

pub lowest_told : LowestTold
unfolding later_blocks
lowest_told f lent zero r room first long some inside hold stops = absurd (omega arith)
lowest_told f lent (suc i) r room first long some inside hold stops =
    let passed = each_valid i _ (λ k l. block_valid f (suc k) (hold (suc k) (omega arith))) in
    reads f lent room (then_of _ _ first ∙ blocks_then f long ∙ then_refused _ _ r (each_refused (length f / 512 - 1) _ i (omega arith) passed stops))

-- ---- a file that is like one that was taken up to a place
refused_at : (f g lent : List ℕ) (p : Pair) (note : Bool) (i : ℕ) → read_answer f lent ≡ Ok (taken p note) → AlikeBefore i f g
    → (r : Refusal) → block_validity g i ≡ Err r → read_answer g lent ≡ Err r
refused_at f g lent p note i e alike r stops = cases i alike stops
  where
    w : Was f lent p note
    w = was_taken f lent p note e

    rest : Whole f
    rest = whole f w.start w.blocks

    some : length g ≡ length f → length g ≡ 0 → ⊥
    some long z = omega (arith, rest.start.long)

    full : length g ≡ length f → length g % 512 ≡ 0
    full long = ap (λ (n : ℕ). n % 512) long ∙ rest.start.whole

    -- the blocks before the place are those of f
    hold : (i : ℕ) → AlikeBefore i f g → (k : ℕ) → k < i → BlockHolds g k
    hold i alike k l =
        let at : (j : ℕ) → j < 512 → get_or g (512 * k + j) 0 ≡ get_or f (512 * k + j) 0 = λ j q. alike.before (512 * k + j) (omega arith) in
        let b = all_blocks f rest k (omega (arith, alike.inside)) in
        (check_same g f k k at ∙ b.0, found_same g f k k at ∙ b.1)

    cases : (i : ℕ) → AlikeBefore i f g → block_validity g i ≡ Err r → read_answer g lent ≡ Err r
    cases zero alike stops = first_told g lent r w.room (some alike.long) (full alike.long) stops
    cases (suc i) alike stops =
        let start : (k : ℕ) → k < 512 → get_or g k 0 ≡ get_or f k 0 = λ k l. alike.before k (omega arith) in
        let long = alike.long in
        let same : ragged g ≡ ragged f = not_ragged g (some long) (full long) ∙ sym (not_ragged f (λ z. omega (arith, rest.start.long)) rest.start.whole) in
        let demand : length g ≡ demanded g = long ∙ rest.rest.long ∙ sym (demanded_same g f start) in
        lowest_told g lent (suc i) r w.room (first_same g f start same ∙ w.start) demand (omega arith) (omega (arith, long, alike.inside)) (hold (suc i) alike) stops

pub misplaced_told : MisplacedTold
misplaced_told f g lent p note i e alike t n = refused_at f g lent p note i e alike _ (block_misplaced g i t n)

pub damaged_told : DamagedTold
damaged_told f g lent p note i e alike t = refused_at f g lent p note i e alike _ (block_damaged g i t)

-- ---- blocks joined anew
module _ (f : List ℕ) (from : ℕ → ℕ) where
  joined_length : length (joined from f) ≡ length f
  unfolding joined
  joined_length = table_length (length f) _

  -- place k has the bytes of block `from k`
  joined_at : (k j : ℕ) → k < length f / 512 → j < 512 → get_or (joined from f) (512 * k + j) 0 ≡ get_or f (512 * from k + j) 0
  unfolding joined
  joined_at k j h l =
      let block : (512 * k + j) / 512 ≡ k = omega arith in
      let byte : (512 * k + j) % 512 ≡ j = omega arith in
      table_at (length f) _ (512 * k + j) 0 (omega arith) ∙ rw (block, byte)

pub joined_told : JoinedTold
joined_told f lent p note from i e h in_file same other =
    let w = was_taken f lent p note e in
    let b = all_blocks f (whole f w.start w.blocks) (from i) in_file in
    let g = joined from f in
    let at : (j : ℕ) → j < 512 → get_or g (512 * i + j) 0 ≡ get_or f (512 * from i + j) 0 = λ j l. joined_at f from i j h l in
    let found : number_found g i ≡ from i = found_same g f i (from i) at ∙ b.1 in
    misplaced_told f g lent p note i e (record { long = joined_length f from; inside = h; before = before }) (check_same g f i (from i) at ∙ b.0) (λ z. other (sym found ∙ z))
    ∙ ap (λ (n : ℕ). Err (Misplaced i n)) found
  where
    before : (k : ℕ) → k < 512 * i → get_or (joined from f) k 0 ≡ get_or f k 0
    before k l =
        let split : 512 * (k / 512) + k % 512 ≡ k = omega arith in
        let stays : from (k / 512) ≡ k / 512 = same (k / 512) (omega arith) in
        ap (λ (x : ℕ). get_or (joined from f) x 0) (sym split) ∙ joined_at f from (k / 512) (k % 512) (omega arith) (omega arith)
        ∙ ap (λ (x : ℕ). get_or f (512 * x + k % 512) 0) stays ∙ ap (λ (x : ℕ). get_or f x 0) split

pub exchanged_told : ExchangedTold
exchanged_told f lent p note i k e h l =
    let at : exchanged i k i ≡ k = rw (eq-eqb i i refl) in
    joined_told f lent p note (exchanged i k) i e (omega arith) (omega arith) (λ j q. rw (ne_eqb j i (λ z. omega arith), ne_eqb j k (λ z. omega arith))) (λ z. omega arith)
    ∙ ap (λ (n : ℕ). Err (Misplaced i n)) at

pub overwritten_told : OverwrittenTold
overwritten_told f lent p note i k e h l other =
    let at : overwritten i k i ≡ k = rw (eq-eqb i i refl) in
    joined_told f lent p note (overwritten i k) i e h (omega arith) (λ j q. rw (ne_eqb j i (λ z. omega arith))) (λ z. other (sym at ∙ z))
    ∙ ap (λ (n : ℕ). Err (Misplaced i n)) at
