-- Laws of a line: what it is made of, and what it tells.
use Rattle.std.specs.Prelude.{List, ◌++◌, ◌≡◌, ℕ, zero, suc, ◌-◌, ◌≤◌, length, take, drop, replicate}
use Rattle.std.proofs.Common.{sym, ap, ap₂, ◌∙◌, arith, length-append}
use Rattle.std.proofs.Math.Nat.{sub-zero, zero-sub}
use Rattle.std.proofs.Math.Seq.{take-append_seam}
use Rattle.report.specs.declared.Line.{Line}
use Rattle.report.specs.Answers.{line_of}

drop_replicate : (k n a : ℕ) → drop k (replicate n a) ≡ replicate (n - k) a
drop_replicate zero n a = ap (λ (m : ℕ). replicate m a) (sym (sub-zero n))
drop_replicate (suc k) zero a = ap (λ (m : ℕ). replicate m a) (sym (zero-sub (suc k)))
drop_replicate (suc k) (suc n) a = let e : n - k ≡ suc n - suc k = omega arith in drop_replicate k n a ∙ ap (λ (m : ℕ). replicate m a) e

-- a text that is copied to the front of zeros
pub copied_line : (s t : List ℕ) {n k a : ℕ} → n ≡ length s → k ≡ length s → a ≡ 0 → t ≡ s
    → ◌≡◌ {A = Line} (record { text = t ++ drop n (replicate 128 a); length = k }) (line_of s)
unfolding line_of
copied_line s t {n} {a = a} e l z f =
    let bytes : t ++ drop n (replicate 128 a) ≡ s ++ replicate (128 - length s) 0 =
    ap₂ (λ (u : List ℕ) (m : ℕ). u ++ drop m (replicate 128 a)) f e
    ∙ ap (λ (b : ℕ). s ++ drop (length s) (replicate 128 b)) z
    ∙ ap (λ (u : List ℕ). s ++ u) (drop_replicate (length s) 128 0) in
    λ i. record { text = bytes i; length = l i }

-- a line lies within its array
pub line_within : (s : List ℕ) (l : Line) → l ≡ line_of s → l.length ≤ length l.text
unfolding line_of
line_within s l e = rw e (omega (arith, length-append s (replicate (128 - length s) 0)))

-- what a line's first `length` bytes are: its text
pub line_text : (s : List ℕ) → take (line_of s).length (line_of s).text ≡ s
unfolding line_of
line_text s = take-append_seam s (replicate (128 - length s) 0)

-- and of a line that is known to have a text
pub text_of : {l : Line} (s : List ℕ) → l ≡ line_of s → take l.length l.text ≡ s
text_of s e = ap (λ (l : Line). take l.length l.text) e ∙ line_text s
