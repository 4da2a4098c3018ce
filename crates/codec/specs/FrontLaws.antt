-- The law of a list that is filled from the front, one part a turn, for any length.
use Rattle.std.specs.Prelude.{List, ◌++◌, ◌≡◌, ℕ, ◌+◌, take, drop}
use Rattle.std.proofs.Common.{sym, ap, ap₂, ◌∙◌, append_assoc, take_at, drop_at, drop-drop}
use borrow.Rule.Slice.PartMut.{put_mid}
use Rattle.mask.specs.Tables.{table, front}
use Rattle.mask.specs.TablesLaws.{table_length, table_append}

-- a part of m elements more
pub front_part : (g : ℕ → ℕ) (l₀ l ys : List ℕ) (n m : ℕ) → l ≡ front n g l₀ → ys ≡ table m (λ k. g (n + k)) → put_mid n m l ys ≡ front (n + m) g l₀
front_part g l₀ l ys n m e q =
    let long = table_length n g in
    ap₂ (λ (r s : List ℕ). take n r ++ (s ++ drop m (drop n r))) e q
    ∙ ap₂ (λ (a b : List ℕ). a ++ (table m (λ k. g (n + k)) ++ drop m b)) (take_at (table n g) (drop n l₀) n long) (drop_at (table n g) (drop n l₀) n long)
    ∙ ap (λ (r : List ℕ). table n g ++ (table m (λ k. g (n + k)) ++ r)) (drop-drop m n l₀)
    ∙ sym (append_assoc (table n g) (table m (λ k. g (n + k))) (drop (n + m) l₀)) ∙ ap (λ (r : List ℕ). r ++ drop (n + m) l₀) (sym (table_append n m g))
