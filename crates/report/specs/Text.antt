-- Document 01, "Console and program": the line that `shelf` writes, as ASCII.
use Rattle.std.specs.Prelude.{List, [], ◌∷◌, ◌++◌, ℕ, take, get_or, Err, None, Ok, Option, Result, Some}
use Rattle.text.specs.Decimal.{decimal}
use Rattle.machine.specs.declared.Refusal.{Refusal}
use Rattle.machine.specs.Refusals.{Answer, four_numbers}
use Rattle.codec.specs.Reader.{input_room}
use Rattle.verdict.specs.Outcomes.{file_outcome}
use Rattle.machine.specs.declared.Verdict.{Verdict}
use Rattle.machine.specs.declared.Verdict.TheVariants.{Carried, NotCarried}

abbrev pub blank_space : List ℕ
blank_space = 32 ∷ []

abbrev pub line_feed : List ℕ
line_feed = 10 ∷ []

-- "carried "
abbrev pub carried_text : List ℕ
carried_text = 99 ∷ 97 ∷ 114 ∷ 114 ∷ 105 ∷ 101 ∷ 100 ∷ 32 ∷ []

-- "not carried "
abbrev pub not_carried_text : List ℕ
not_carried_text = 110 ∷ 111 ∷ 116 ∷ 32 ∷ 99 ∷ 97 ∷ 114 ∷ 114 ∷ 105 ∷ 101 ∷ 100 ∷ 32 ∷ []

-- "no table" and a line feed
abbrev pub no_table_text : List ℕ
no_table_text = 110 ∷ 111 ∷ 32 ∷ 116 ∷ 97 ∷ 98 ∷ 108 ∷ 101 ∷ 10 ∷ []

-- "refused "
abbrev pub refused_text : List ℕ
refused_text = 114 ∷ 101 ∷ 102 ∷ 117 ∷ 115 ∷ 101 ∷ 100 ∷ 32 ∷ []

-- "refused NUMBER P Q R", of these four
unfoldable pub numbers_line : List ℕ → List ℕ
numbers_line four =
    let told : ℕ → List ℕ = λ i. decimal (get_or four i 0) in
    refused_text ++ (told 0 ++ (blank_space ++ (told 1 ++ (blank_space ++ (told 2 ++ (blank_space ++ (told 3 ++ line_feed)))))))

-- a refusal's
unfoldable pub refusal_line : Refusal → List ℕ
refusal_line r = numbers_line (four_numbers r)

-- "carried COUNT", "not carried C COUNT"
unfoldable pub verdict_line : Verdict → List ℕ
verdict_line (Carried n) = carried_text ++ (decimal n ++ line_feed)
verdict_line (NotCarried c n) = not_carried_text ++ (decimal c ++ (blank_space ++ (decimal n ++ line_feed)))

-- one of these, "no table", or the line of what is told by four numbers
unfoldable pub told_line : {R : Type 0} → (R → List ℕ) → Result (Option Verdict) R → List ℕ
told_line four (Ok (Some v)) = verdict_line v
told_line four (Ok None) = no_table_text
told_line four (Err r) = numbers_line (four r)

-- one of these, "no table", or a refusal's line
unfoldable pub outcome_line : Answer (Option Verdict) → List ℕ
outcome_line (Ok (Some v)) = verdict_line v
outcome_line (Ok None) = no_table_text
outcome_line (Err r) = refusal_line r

-- "It takes the first 59,904 bytes of longer input as the file."
unfoldable pub shelf_line : List ℕ → List ℕ
shelf_line input = outcome_line (file_outcome (take input_room input))
