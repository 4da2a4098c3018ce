-- In each case m is one number, and the definition computes to the number that stands there.
use mathlib.Core.Path.{◌≡◌, ap}
use Prim.Native.Nat.{ℕ, ◌%◌, ◌≤◌}
use native.Mathlib.Omega.{arith}
use borrow.Author.Rules.{rules}
use Rattle.linecheck.specs.Reciprocal.{reciprocal_of}
use Rattle.linecheck.proofs.reciprocal_of.Goals as goal

at : (k m : ℕ) → k ≡ m → reciprocal_of k ≡ reciprocal_of m
at k m e = ap reciprocal_of e

-- of the last case seven inequalities are known; omega splits at most six
from_3 : (r : ℕ) → (r ≡ 0 → ⊥) → (r ≡ 1 → ⊥) → (r ≡ 2 → ⊥) → 3 ≤ r
from_3 r n0 n1 n2 = omega arith

is_7 : (m : ℕ) → m ≤ 8 → 3 ≤ m % 8 → (m % 8 ≡ 3 → ⊥) → (m % 8 ≡ 4 → ⊥) → (m % 8 ≡ 5 → ⊥) → (m % 8 ≡ 6 → ⊥) → 7 ≡ m
is_7 m h l n3 n4 n5 n6 = omega arith

pub returns-in-0 : goal.returns-in-0
unfolding reciprocal_of
returns-in-0 c = at 8 c.args.m (omega arith)

pub returns-in-1 : goal.returns-in-1
unfolding reciprocal_of
returns-in-1 c = at 1 c.args.m (omega arith)

pub returns-in-2 : goal.returns-in-2
unfolding reciprocal_of
returns-in-2 c = at 2 c.args.m (omega arith)

pub returns-in-3 : goal.returns-in-3
unfolding reciprocal_of
returns-in-3 c = at 3 c.args.m (omega arith)

pub returns-in-4 : goal.returns-in-4
unfolding reciprocal_of
returns-in-4 c = at 4 c.args.m (omega arith)

pub returns-in-5 : goal.returns-in-5
unfolding reciprocal_of
returns-in-5 c = at 5 c.args.m (omega arith)

pub returns-in-6 : goal.returns-in-6
unfolding reciprocal_of
returns-in-6 c = at 6 c.args.m (omega arith)

pub returns-in_default : goal.returns-in_default
unfolding reciprocal_of
returns-in_default c = at 7 c.args.m (search (rules, is_7, from_3))
