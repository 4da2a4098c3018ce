-- Laws of blocks: the check as a loop sums it.
use Rattle.std.specs.Prelude.{List, ◌++◌, ◌≡◌, refl, ℕ, suc, ◌+◌, ◌*◌, ◌/◌, ◌%◌, ◌≤◌, ◌<◌, length, get_or, take, drop}
use Rattle.std.proofs.Common.{sym, ap, ◌∙◌, le_trans, mul-le-mul_left, mul-le-mul_right, add-one, zero-add, arith, take_at, drop_at, drop-drop, length-drop, length-append, get_or-take, get_or-drop}
use borrow.Rule.Slice.PartMut.{put_mid}
use Rattle.mask.specs.Bounded.{sum}
use Rattle.mask.specs.BoundedLaws.{sum_cong}
use Rattle.codec.specs.Format.{check_at}
use Rattle.codec.specs.Reader.{payload_byte}
use Rattle.mask.specs.Tables.{front}
use Rattle.codec.specs.ListLaws.{part_table}
use Rattle.codec.specs.FrontLaws.{front_part}

-- ---- the check, one byte a turn
-- the sum over the first n bytes
unfoldable pub weighed : List ℕ → ℕ → ℕ
weighed s n = sum n (λ i. suc i * get_or s i 0)

pub weighed_none : (s : List ℕ) → weighed s 0 ≡ 0
unfolding weighed sum
weighed_none s = refl

pub weighed_turn : (s : List ℕ) (i : ℕ) → weighed s (i + 1) ≡ weighed s i + (i + 1) * get_or s i 0
unfolding weighed sum
weighed_turn s i = rw (add-one i)

pub weighed_all : (s : List ℕ) → weighed s 510 % 65521 ≡ check_at s 0
unfolding weighed check_at
weighed_all s = ap (λ (x : ℕ). x % 65521) (sum_cong 510 _ _ (λ i l. ap (λ (k : ℕ). suc i * get_or s k 0) (sym (zero-add i))))

-- the weight of one byte
pub weight_le : (i b : ℕ) → i < 510 → b < 256 → (i + 1) * b ≤ 130050
weight_le i b h l = le_trans (mul-le-mul_right b (omega arith)) (mul-le-mul_left {n = 255} 510 (omega arith))

-- ---- the payloads joined, one block a turn
-- the block that comes off the rest of a file, and what is left
pub chunk_turn : (f rest block next : List ℕ) (i : ℕ) → rest ≡ drop (512 * i) f → rest ≡ block ++ next → length block ≡ 512
    → (block ≡ take 512 (drop (512 * i) f)) × (next ≡ drop (512 * (i + 1)) f) × (512 * (i + 1) ≤ length f)
chunk_turn f rest block next i e h l =
    let more : 512 * i + 512 ≡ 512 * (i + 1) = omega arith in
    let off = sym e ∙ h in (
      sym (ap (take 512) off ∙ take_at block next 512 l),
      sym (ap (λ (n : ℕ). drop n f) (sym more) ∙ sym (drop-drop 512 (512 * i) f) ∙ ap (drop 512) off ∙ drop_at block next 512 l),
      omega (arith, ap length off, length-drop (512 * i) f, length-append block next, l),
    )

pub join_turn : (f P l ys block : List ℕ) (i m k : ℕ) → l ≡ front (508 * i) (payload_byte f) P → ys ≡ take m (drop 2 block) → block ≡ take 512 (drop (512 * i) f)
    → length block ≡ 512 → m ≡ 508 → k ≡ 508 → put_mid (508 * i) k l ys ≡ front (508 * (i + 1)) (payload_byte f) P
join_turn f P l ys block i m k e q b long p r =
    let more : 508 * i + k ≡ 508 * (i + 1) = omega arith in
    front_part (payload_byte f) P l ys (508 * i) k e
    (q ∙ ap (λ (n : ℕ). take n (drop 2 block)) (p ∙ sym r)
    ∙ part_table block 2 k _ (omega (arith, long)) (λ j l. ap (λ (x : List ℕ). get_or x (2 + j) 0) b
    ∙ get_or-take 512 (drop (512 * i) f) (2 + j) 0 (omega arith) ∙ get_or-drop (512 * i) f (2 + j) 0 ∙ ap (λ (x : ℕ). get_or f x 0) (place j (omega arith))))
    ∙ ap (λ (n : ℕ). front n (payload_byte f) P) more
  where
    place : (k : ℕ) → k < 508 → 512 * i + (2 + k) ≡ 512 * ((508 * i + k) / 508) + 2 + (508 * i + k) % 508
    place k l = omega arith
