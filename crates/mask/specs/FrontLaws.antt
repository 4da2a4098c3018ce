-- Laws of a list that a loop fills from the front, for any length: l is what the list l₀ has become.
use Rattle.std.specs.Prelude.{cond, List, ◌∷◌, ◌++◌, ◌≡◌, ℕ, suc, ◌+◌, ◌-◌, ◌≤◌, ◌<◌, min, ltb, length, get_or, set, drop, replicate}
use Rattle.std.proofs.Math.Logic.{by_cases}
use Rattle.std.proofs.Math.Path.{refl}
use Rattle.std.proofs.Common.{sym, ap, ap₂, ◌∙◌, add-sub_of_le, add-one, arith, length-append, length-drop, drop-cons, get_or-append-add, get_or-drop, lt-ltb, le-ltb}
use Rattle.std.proofs.Math.Decide.{dec_lt}
use Rattle.std.proofs.lemmas.List.{length-replicate, get_or-replicate, set_at}
use Rattle.std.proofs.Math.ListN.{get_or-append, get_or-eq_default}
use Rattle.std.proofs.Math.Seq.{append_snoc}
use Rattle.mask.specs.Tables.{table, front}
use Rattle.mask.specs.TablesLaws.{table_length, table_at, table_past, table_snoc, fill_done}

module _ (g : ℕ → ℕ) (l₀ : List ℕ) where
  pub front_none : l₀ ≡ front 0 g l₀
  unfolding table
  front_none = refl

  one_more : (n : ℕ) → table n g ++ (g n ∷ drop (suc n) l₀) ≡ front (n + 1) g l₀
  one_more n = sym (append_snoc (table n g) (g n) (drop (suc n) l₀)) ∙ ap₂ ◌++◌ (sym (table_snoc n g)) (ap (λ (k : ℕ). drop k l₀) (sym (add-one n)))

  module _ {n : ℕ} {l : List ℕ} (e : l ≡ front n g l₀) where
    pub front_length : n ≤ length l₀ → length l ≡ length l₀
    front_length h = rw e (simp (length-append, length-drop, table_length) (add-sub_of_le h))

    pub front_at : (k : ℕ) → k < n → get_or l k 0 ≡ g k
    front_at k h = rw e (get_or-append (table n g) (drop n l₀) 0 k (rw (table_length n g) h) ∙ table_at n g k 0 h)

    pub front_past : (k : ℕ) → n ≤ k → get_or l k 0 ≡ get_or l₀ k 0
    front_past k h =
        let here : length (table n g) + (k - n) ≡ k = rw (table_length n g) (add-sub_of_le h) in
        ap₂ (λ (s : List ℕ) (j : ℕ). get_or s j 0) e (sym here) ∙ get_or-append-add (table n g) (drop n l₀) (k - n) 0 ∙ get_or-drop n l₀ (k - n) 0
        ∙ ap (λ (j : ℕ). get_or l₀ j 0) (add-sub_of_le h)

    -- one store
    pub front_turn : {v : ℕ} → n < length l₀ → v ≡ g n → set l n v ≡ front (n + 1) g l₀
    front_turn {v} h q =
        ap₂ (λ (s : List ℕ) (x : ℕ). set s n x) (e ∙ ap (λ (r : List ℕ). table n g ++ r) (drop-cons l₀ n 0 h)) q
        ∙ set_at (table n g) (get_or l₀ n 0) (drop (suc n) l₀) (g n) n (table_length n g) ∙ one_more n

    -- a turn that stores nothing, where the element is there already
    pub front_skip : n < length l₀ → get_or l₀ n 0 ≡ g n → l ≡ front (n + 1) g l₀
    front_skip h q = e ∙ ap (λ (r : List ℕ). table n g ++ r) (drop-cons l₀ n 0 h ∙ ap (λ (x : ℕ). x ∷ drop (suc n) l₀) q) ∙ one_more n

    -- the last turn is over
    pub front_end : {m : ℕ} → n ≡ m → l ≡ front m g l₀
    front_end z = e ∙ ap (λ (k : ℕ). front k g l₀) z

    -- the first m elements, where the list has so many
    pub front_over : (m : ℕ) → n ≡ min m (length l₀) → l ≡ table (length l₀) (λ k. cond (ltb k m) (g k) (get_or l₀ k 0))
    front_over m z = fill_done 0 (length l₀) l _ (front_length (omega arith)) (λ k h. by_cases (dec_lt k m)
        (λ q. rw (lt-ltb k m q) (front_at k (omega arith)))
        (λ q. let p : m ≤ k = omega arith in rw (le-ltb k m p) (front_past k (omega arith))))

    -- all of them
    pub front_all : n ≡ length l₀ → l ≡ table (length l₀) g
    front_all z = fill_done 0 (length l₀) l g (front_length (omega arith)) (λ k h. front_at k (omega arith))

-- ---- a list of zeros
pub zeros_at : (w k : ℕ) → get_or (replicate {A = ℕ} w 0) k 0 ≡ 0
zeros_at w k =
    by_cases (dec_lt k w) (λ h. get_or-replicate w k 0 0 h)
    (λ h. get_or-eq_default (replicate w 0) 0 (rw (length-replicate {A = ℕ} w 0) (omega arith)))

pub front_zeros : (g : ℕ → ℕ) {w n m : ℕ} {l : List ℕ} → l ≡ front n g (replicate w 0) → n ≡ m → m ≤ w → l ≡ table w (λ k. cond (ltb k m) (g k) 0)
front_zeros g {w} {n} {m} {l} e z h =
    fill_done 0 w l _ (front_length g _ e (rw (length-replicate {A = ℕ} w 0) (omega arith)) ∙ length-replicate {A = ℕ} w 0)
    (λ k q. by_cases (dec_lt k m)
    (λ p. rw (lt-ltb k m p) (front_at g _ e k (omega arith)))
    (λ p. rw (le-ltb k m (omega arith)) (front_past g _ e k (omega arith) ∙ zeros_at w k)))

-- at every place it has what the filled part alone has: past that, both read as 0
pub front_padded : (g : ℕ → ℕ) (w n : ℕ) {l : List ℕ} → l ≡ front n g (replicate w 0) → (k : ℕ) → get_or l k 0 ≡ get_or (table n g) k 0
front_padded g w n e k = by_cases (dec_lt k n)
    (λ q. front_at g _ e k q ∙ sym (table_at n g k 0 q))
    (λ q. let p : n ≤ k = omega arith in front_past g _ e k p ∙ zeros_at w k ∙ sym (table_past n g k 0 p))
