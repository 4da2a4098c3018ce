-- What a list becomes whose first n elements are filled one by one.
use Rattle.std.specs.Prelude.{List, ◌++◌, ◌≡◌, ◌≤◌, ℕ, length, drop, take}
use Rattle.std.proofs.Common.{◌∙◌, ap}
use Rattle.std.proofs.lemmas.List.{length-take-le}
use Rattle.mask.specs.Tables.{front, table}
use Rattle.mask.specs.FrontLaws.{front_all}

pub part_filled : (g : ℕ → ℕ) (L : List ℕ) (n : ℕ) {i : ℕ} {l : List ℕ} → n ≤ length L → l ≡ front i g (take n L) → i ≡ length (take n L) → l ++ drop n L ≡ front n g L
part_filled g L n h d e = ap (λ (z : List ℕ). z ++ drop n L) (front_all g (take n L) d e ∙ ap (λ (k : ℕ). table k g) (length-take-le n L h))
