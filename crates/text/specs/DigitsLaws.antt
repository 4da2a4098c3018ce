-- Laws of a loop that stores a number's digits from the last one on.
use mathlib.Core.List.{List, [], ◌∷◌, ◌++◌, append_assoc, append-nil}
use Rattle.std.specs.Prelude.{◌≡◌, refl, ℕ, zero, suc, ◌+◌, ◌-◌, ◌/◌, ◌%◌, ◌^◌, ◌≤◌, ◌<◌, drop}
use Rattle.std.proofs.Common.{sym, ◌∙◌, arith, length-append, drop_at}
use Rattle.std.proofs.Math.Path.{ap}
use Rattle.std.proofs.Math.ListN.{length, take, replicate, set}
use Rattle.std.proofs.lemmas.List.{length-replicate}
use Rattle.std.proofs.Math.Seq.{take_all}
use Rattle.text.specs.declared.Digits.{Digits}
use Rattle.text.specs.Decimal.{decimal}
use Rattle.text.specs.DecimalLaws.{decimal_one, decimal_more, decimal_some, decimal_most}
use Rattle.text.specs.Answers.{digits_for}

-- the digits after those of `rest` are stored behind `start`
pub record Partly (n : ℕ) (bytes : List ℕ) (start rest : ℕ) : Type 0 where
  pub stored : List ℕ
  pub bytes_are : bytes ≡ replicate (suc start) 0 ++ stored
  pub digits_are : decimal n ≡ decimal rest ++ stored
  pub room : suc start + length stored ≡ 20
  pub small : rest < 10 ^ 20

set_zero : (s d : ℕ) (ds : List ℕ) → set (replicate (suc s) 0 ++ ds) s d ≡ replicate s 0 ++ (d ∷ ds)
set_zero zero d ds = refl
set_zero (suc s) d ds = ap (λ (l : List ℕ). 0 ∷ l) (set_zero s d ds)

pub partly_start : (n : ℕ) → n < 10 ^ 20 → Partly n (replicate 20 0) 19 n
partly_start n h = record { stored = []; bytes_are = refl; digits_are = sym (append-nil (decimal n)); room = refl; small = h }

module _ {n : ℕ} {bytes : List ℕ} {start rest : ℕ} (p : Partly n bytes start rest) where
  -- a number of two digits or more leaves a place before `start`
  pub partly_room : 10 ≤ rest → 1 ≤ start
  partly_room l =
      omega
      (arith, p.room, decimal_most n, decimal_some (rest / 10), simp length-append at (ap length p.digits_are), simp length-append at (ap length (decimal_more rest l p.small)))

  pub partly_more : 10 ≤ rest → Partly n (set bytes start (48 + rest % 10)) (start - 1) (rest / 10)
  partly_more l =
      let next : start ≡ suc (start - 1) = omega (arith, partly_room l) in
      record {
        stored = (48 + rest % 10) ∷ p.stored;
        bytes_are =
            ap (λ (b : List ℕ). set b start (48 + rest % 10)) p.bytes_are
            ∙ set_zero start (48 + rest % 10) p.stored
            ∙ ap (λ (s : ℕ). replicate s 0 ++ ((48 + rest % 10) ∷ p.stored)) next;
        digits_are =
            p.digits_are
            ∙ ap (λ (ds : List ℕ). ds ++ p.stored) (decimal_more rest l p.small)
            ∙ append_assoc (decimal (rest / 10)) ((48 + rest % 10) ∷ []) p.stored;
        room = omega (arith, partly_room l, p.room);
        small = omega (arith, p.small);
      }

  pub partly_done : rest < 10 → ◌≡◌ {A = Digits} (record { bytes = set bytes start (48 + rest); start = start }) (digits_for n)
  unfolding digits_for
  partly_done l =
      let all : decimal n ≡ (48 + rest) ∷ p.stored = p.digits_are ∙ ap (λ (ds : List ℕ). ds ++ p.stored) (decimal_one rest l) in
      let left : start ≡ 20 - length (decimal n) = omega (arith, p.room, ap length all) in
      let bytes_end : set bytes start (48 + rest) ≡ replicate (20 - length (decimal n)) 0 ++ decimal n =
      ap (λ (b : List ℕ). set b start (48 + rest)) p.bytes_are
      ∙ set_zero start (48 + rest) p.stored
      ∙ ap (λ (ds : List ℕ). replicate start 0 ++ ds) (sym all)
      ∙ ap (λ (s : ℕ). replicate s 0 ++ decimal n) left in
      λ i. record { bytes = bytes_end i; start = left i }

-- ---- the digits that were made
module _ (n : ℕ) (d : Digits) (made : d ≡ digits_for n) where
  pub digits_place : d.start + length (decimal n) ≡ 20
  unfolding digits_for
  digits_place = omega (arith, ap (λ (x : Digits). x.start) made, decimal_most n)

  pub digits_start : d.start ≤ 20
  digits_start = omega (arith, digits_place)

  -- they are what stands from `start` on
  pub digits_word : take (20 - d.start) (drop d.start d.bytes) ≡ decimal n
  unfolding digits_for
  digits_word =
      let before = 20 - length (decimal n) in
      ap (λ (x : Digits). take (20 - x.start) (drop x.start x.bytes)) made
      ∙ ap (take (20 - before)) (drop_at (replicate before 0) (decimal n) before (length-replicate {A = ℕ} before 0))
      ∙ take_all (20 - before) (decimal n) (omega (arith, decimal_most n))
