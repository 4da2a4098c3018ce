-- Laws of lines with what stands behind them, and what the whole text is: the lines before those of the states, those of the states, and the last.
use mathlib.Core.List.{List, [], ◌∷◌, ◌++◌, map, flat_map, flatten, append_assoc, append-nil}
use Rattle.std.specs.Prelude.{◌≡◌, refl, ℕ}
use Rattle.std.proofs.Math.Path.{ap}
use Rattle.text.specs.Decimal.{decimal, digits_up_to}
use Rattle.machine.specs.declared.Machine.{Machine}
use Rattle.machine.specs.Machines.{observation, successors}
use Rattle.hanoi.specs.Words.{ascii, numbers, below, states_of, spread, joined}
use Rattle.hanoi.specs.Text.{line, start_line, name, names_line, acceptance, label, sets_with, in_braces, state_lines, hoa_text}
use Rattle.hanoi.specs.Parts.{start_lines, names_word, count_word, body_word, head_text}

-- ---- items that stand one blank apart
module _ (w : List ℕ) (ws : List (List ℕ)) (x : List ℕ) where
  pub spread_next : spread (ascii " ") (w ∷ ws) ++ x ≡ 32 ∷ (w ++ (spread (ascii " ") ws ++ x))
  unfolding spread flat_map
  spread_next = ap (λ (t : List ℕ). 32 ∷ t) (append_assoc w (spread (ascii " ") ws) x)

  pub joined_next : joined (ascii " ") (w ∷ ws) ++ x ≡ w ++ (spread (ascii " ") ws ++ x)
  unfolding joined
  joined_next = append_assoc w (spread (ascii " ") ws) x

pub spread_end : (x : List ℕ) → spread (ascii " ") [] ++ x ≡ x
unfolding spread flat_map
spread_end x = refl

pub joined_end : (x : List ℕ) → joined (ascii " ") [] ++ x ≡ x
unfolding joined
joined_end x = refl

-- ---- a line
line_is : (ws : List (List ℕ)) (x : List ℕ) → line ws ++ x ≡ joined (ascii " ") ws ++ (10 ∷ x)
unfolding line
line_is ws x = append_assoc (joined (ascii " ") ws) (ascii "\n") x

pub start_next : (n : ℕ) (l x : List ℕ) → flat_map start_line (n ∷ l) ++ x ≡ ascii "Start: " ++ (decimal n ++ (10 ∷ (flat_map start_line l ++ x)))
unfolding start_line flat_map
start_next n l x = simp (append_assoc, line_is, joined_next, spread_next, spread_end)

-- ---- the sets of a state, in braces
pub braces_next : (n : ℕ) (l x : List ℕ) → spread (ascii " ") (in_braces (n ∷ l)) ++ x ≡ ascii " {" ++ (joined (ascii " ") (map decimal (n ∷ l)) ++ (125 ∷ x))
unfolding in_braces
braces_next n l x = simp (spread_next, spread_end, append_assoc)

pub braces_end : (x : List ℕ) → spread (ascii " ") (in_braces []) ++ x ≡ x
unfolding in_braces
braces_end x = spread_end x

-- ---- the lines of a state
module _ (m : Machine) (s : ℕ) where
  pub state_lines_lem : (x : List ℕ) → state_lines m s ++ x ≡ ascii "State: [" ++ (label (observation m s) ++ (ascii "] " ++ (decimal s ++ (spread (ascii " ") (in_braces (sets_with m s))
      ++ (10 ∷ (joined (ascii " ") (map decimal (states_of (successors m s))) ++ (10 ∷ x)))))))
  unfolding state_lines
  state_lines_lem x = simp (append_assoc, line_is, joined_next, spread_next)

-- ---- the whole text
names_line_lem : names_line ≡ names_word
unfolding names_line line joined spread flat_map name numbers decimal digits_up_to
names_line_lem = refl

-- words, numbers and lists of lines, grouped by lines and grouped as the code puts them
regroup : (hoa states feed names acc condition blank body end n starts k infs lines : List ℕ)
    → hoa ++ (((states ++ (n ++ [])) ++ feed) ++ (starts ++ (names ++ (((acc ++ (k ++ [])) ++ feed) ++ (((condition ++ (k ++ (blank ++ (infs ++ [])))) ++ feed) ++ (body ++ (lines ++ (end ++ []))))))))
    ≡ (((hoa ++ states) ++ n) ++ (feed ++ (starts ++ ((names ++ acc ++ k) ++ (((feed ++ condition) ++ k) ++ (blank ++ (infs ++ ((feed ++ body) ++ [])))))))) ++ (lines ++ end)
regroup hoa states feed names acc condition blank body end n starts k infs lines = simp (append_assoc, append-nil)

pub text_lines : (m : Machine) → hoa_text m ≡ head_text m.states m.sets m.start ++ (flat_map (state_lines m) (below m.states) ++ ascii "--END--\n")
unfolding hoa_text head_text start_lines flatten line joined spread flat_map
text_lines m =
    rw names_line_lem
    (regroup (ascii "HOA: v1\n") (ascii "States: ") (ascii "\n") names_word count_word (ascii "Acceptance: ") (ascii " ") body_word (ascii "--END--\n")
    (decimal m.states) (flat_map start_line (states_of m.start)) (decimal m.sets) (acceptance m.sets) (flat_map (state_lines m) (below m.states)))

-- the lines before those of the states, with what stands behind them; `middle` goes from the second number of sets to the states
unfoldable pub middle : ℕ → List ℕ
middle k = decimal k ++ (ascii " " ++ (acceptance k ++ (ascii "\n" ++ body_word)))

pub head_behind : (n k start : ℕ) (x : List ℕ) → head_text n k start ++ x
    ≡ ascii "HOA: v1\nStates: " ++ (decimal n ++ (ascii "\n" ++ (start_lines start ++ (names_word ++ count_word ++ (decimal k ++ (ascii "\nAcceptance: " ++ (middle k ++ x)))))))
unfolding head_text flatten middle
head_behind n k start x =
    assoc (ascii "HOA: v1\nStates: ") (ascii "\n") (names_word ++ count_word) (ascii "\nAcceptance: ") (ascii " ") (ascii "\n" ++ body_word) (decimal n) (start_lines start) (decimal k) (acceptance k)
  where
    assoc : (hoa feed names condition blank body d starts e infs : List ℕ)
        → ((hoa ++ d) ++ (feed ++ (starts ++ ((names ++ e) ++ ((condition ++ e) ++ (blank ++ (infs ++ (body ++ [])))))))) ++ x
        ≡ hoa ++ (d ++ (feed ++ (starts ++ (names ++ (e ++ (condition ++ ((e ++ (blank ++ (infs ++ body))) ++ x)))))))
    assoc hoa feed names condition blank body d starts e infs = simp (append_assoc, append-nil)
