-- Laws of the lines' texts, as words, numbers and the bytes after them.
use mathlib.Core.List.{List, [], ◌∷◌, ◌++◌, flatten}
use Rattle.std.specs.Prelude.{◌≡◌, refl, ℕ, ◌≤◌, get_or, min, length, take, Err, None, Ok, Option, Some}
use Rattle.std.proofs.Common.{append_assoc, append-nil, length-append, sym, ap, ◌∙◌, arith, take_all}
use Rattle.std.proofs.Math.Logic.{by_cases}
use Rattle.std.proofs.Math.Decide.{dec_lt}
use Rattle.text.specs.Decimal.{decimal}
use Rattle.text.specs.DecimalLaws.{decimal_most}
use Rattle.machine.specs.declared.Refusal.{Refusal}
use Rattle.machine.specs.declared.Verdict.{Verdict}
use Rattle.machine.specs.declared.Verdict.TheVariants.{Carried, NotCarried}
use Rattle.machine.specs.Refusals.{Answer, number_of, spot_of, four_numbers}
use Rattle.codec.specs.Reader.{input_room}
use Rattle.report.specs.Text.{blank_space, line_feed, carried_text, not_carried_text, refused_text, numbers_line, refusal_line, verdict_line, told_line, outcome_line}

-- a line has room for each: of n, and of each other number, at most 20 digits
-- what is put for a refusal, by its numbers
abbrev pub refusal_parts : ℕ → ℕ → ℕ → ℕ → List (List ℕ)
refusal_parts n a b c = refused_text ∷ (decimal n ++ blank_space) ∷ (decimal a ++ blank_space) ∷ (decimal b ++ blank_space) ∷ (decimal c ++ line_feed) ∷ []

pub numbers_text : (four : List ℕ) (n a b c : ℕ) → n ≡ get_or four 0 0 → a ≡ get_or four 1 0 → b ≡ get_or four 2 0 → c ≡ get_or four 3 0
    → take 128 (flatten (refusal_parts n a b c)) ≡ numbers_line four
unfolding numbers_line flatten
numbers_text four n a b c en ea eb ec =
    let line = flatten (refusal_parts n a b c) in
    let short : length line ≤ 128 = simp length-append (omega (arith, decimal_most n, decimal_most a, decimal_most b, decimal_most c)) in
    let same : line ≡ refused_text ++ (decimal n ++ (blank_space ++ (decimal a ++ (blank_space ++ (decimal b ++ (blank_space ++ (decimal c ++ line_feed))))))) = simp (append_assoc, append-nil) in
    take_all 128 line short ∙ same ∙ rw (en, ea, eb, ec) refl

pub refusal_text : (r : Refusal) (n a b c : ℕ) → n ≡ number_of r → a ≡ get_or (spot_of r) 0 0 → b ≡ get_or (spot_of r) 1 0 → c ≡ get_or (spot_of r) 2 0
    → take 128 (flatten (refusal_parts n a b c)) ≡ refusal_line r
unfolding refusal_line four_numbers
refusal_text r n a b c en ea eb ec = numbers_text (four_numbers r) n a b c en ea eb ec

pub carried_line : (n : ℕ) → take 128 (flatten (carried_text ∷ (decimal n ++ line_feed) ∷ [])) ≡ verdict_line (Carried n)
unfolding verdict_line flatten
carried_line n =
    let line = flatten (carried_text ∷ (decimal n ++ line_feed) ∷ []) in
    let short : length line ≤ 128 = simp length-append (omega (arith, decimal_most n)) in
    let same : line ≡ carried_text ++ (decimal n ++ line_feed) = simp append-nil in
    take_all 128 line short ∙ same

pub not_carried_line : (c n : ℕ) → take 128 (flatten (not_carried_text ∷ (decimal c ++ blank_space) ∷ (decimal n ++ line_feed) ∷ [])) ≡ verdict_line (NotCarried c n)
unfolding verdict_line flatten
not_carried_line c n =
    let line = flatten (not_carried_text ∷ (decimal c ++ blank_space) ∷ (decimal n ++ line_feed) ∷ []) in
    let short : length line ≤ 128 = simp length-append (omega (arith, decimal_most c, decimal_most n)) in
    let same : line ≡ not_carried_text ++ (decimal c ++ (blank_space ++ (decimal n ++ line_feed))) = simp (append_assoc, append-nil) in
    take_all 128 line short ∙ same

-- of a refusal it is what document 01 says
pub told_outcome : (said : Answer (Option Verdict)) → told_line four_numbers said ≡ outcome_line said
unfolding told_line outcome_line refusal_line
told_outcome (Ok (Some v)) = refl
told_outcome (Ok None) = refl
told_outcome (Err r) = refl

-- longer input is cut, and shorter input is taken whole
pub input_cut : (input : List ℕ) {n : ℕ} → n ≡ min (length input) input_room → take n input ≡ take input_room input
input_cut input {n} e =
    by_cases (dec_lt (length input) input_room) (λ h. let z : n ≡ length input = omega arith in ap (λ (k : ℕ). take k input) z ∙ take_all (length input) input (omega arith) ∙ sym (take_all input_room input (omega arith)))
    (λ h. let z : n ≡ input_room = omega arith in ap (λ (k : ℕ). take k input) z)
