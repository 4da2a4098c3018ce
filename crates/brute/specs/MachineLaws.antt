-- Laws of machines as the plain reading meets them.
use Rattle.std.specs.Prelude.{List, true, false, ◌≡◌, ◌<◌, ◌≤◌, ◌^◌, ℕ, eqb, get_or, leb, min, is_err, is_ok, refl, Ok, Err}
use Rattle.std.proofs.Common.{sym, ap, ◌∙◌, arith, eq-eqb, ne_eqb, ⊎_elim}
use Rattle.std.proofs.Math.Decide.{dec_lt}
use Rattle.std.proofs.Math.Nat.{min-eq_left}
use Rattle.std.proofs.Math.Logic.{by_cases}
use borrow.Author.Tests.{le-leb, le-ltb, lt-leb, lt-ltb}
use Rattle.mask.specs.Bits.{full_mask, has_bit}
use Rattle.mask.specs.BitsLaws.{full_lt, has_beyond, has_none, no_bits_zero}
use Rattle.mask.specs.Bounded.{some, some_in}
use Rattle.mask.specs.BoundedLaws.{some_none, some_at, none_at}
use Rattle.mask.specs.Logic.{and, not, or}
use Rattle.mask.specs.LogicLaws.{and_false_l, and_false_r, both, clash, dec, not_f, not_i}
use Rattle.machine.specs.WellFormed.{beyond, set_beyond, state_beyond}
use Rattle.machine.specs.Refusals.{Tested, valid}
use Rattle.machine.specs.declared.Refusal.{Refusal}

-- what is beyond at state s: its observation where there is no such state, or its successors, as a mask
pub state_parts : (n : ℕ) (observations successors : List ℕ) (s : ℕ)
    → state_beyond n observations successors s ≡ or (and (leb n s) (not (eqb (get_or observations s 0) 0))) (set_beyond n n successors s)
unfolding state_beyond set_beyond and or
state_parts n observations successors s =
    by_cases (dec_lt s n) (λ l. rw (lt-ltb s n l, lt-leb n s l)) (λ l. rw (le-ltb s n (omega arith), le-leb n s (omega arith)))

-- a number up to the mask of the states below n has no state at or past n
pub full_not_beyond : (n m : ℕ) → m ≤ full_mask (min n 64) → beyond n m ≡ false
unfolding beyond some_in
full_not_beyond n m h = some_none 64 _ (λ k l. go k l (dec_lt k n))
  where
    go : (k : ℕ) → k < 64 → Dec (k < n) → and (has_bit m k) (leb n k) ≡ false
    go k l (yes b) = and_false_r _ (lt-leb n k b)
    go k l (no b) =
        let e : min n 64 ≡ n = min-eq_left (omega arith) in
        let small : m ≤ full_mask n = rw e at h in
        and_false_l _ (has_beyond n m k (omega (arith, full_lt n)) (omega arith))

-- ---- sets with a state and without
pub state_nonzero : (members s : ℕ) → has_bit members s ≡ true → members ≡ 0 → ⊥
state_nonzero members s t e = clash (has_none s) (ap (λ (x : ℕ). has_bit x s) (sym e) ∙ t)

-- a set of 64 bits of which none is one is 0
pub some_member : (members : ℕ) → members < 2 ^ 64 → some 64 (has_bit members) ≡ not (eqb members 0)
some_member members h = both _ _
    (λ t. let q = some_at 64 _ t in not_i (ne_eqb members 0 (state_nonzero members q.0 q.2)))
    (λ t. ⊎_elim (λ u. u) (λ u. absurd (clash (not_f (eq-eqb members 0 (no_bits_zero 64 members h (none_at 64 _ u)))) t)) (dec (some 64 (has_bit members))))

-- ---- what a test says, asked whether it refuses
pub none_refused : (v : Tested) → is_err v ≡ false → v ≡ valid
none_refused (Ok t) e = refl
none_refused (Err r) e = absurd (clash e refl)

pub some_refused : (v : Tested) → is_err v ≡ true → (r : Refusal) × (v ≡ Err r)
some_refused (Ok t) e = absurd (clash refl e)
some_refused (Err r) e = (r, refl)

pub ok_passed : (v : Tested) → is_ok v ≡ true → v ≡ valid
ok_passed (Ok t) e = refl
ok_passed (Err r) e = absurd (clash refl e)

pub ok_failed : (v : Tested) → is_ok v ≡ false → (r : Refusal) × (v ≡ Err r)
ok_failed (Ok t) e = absurd (clash e refl)
ok_failed (Err r) e = (r, refl)
