-- Document 01: "Without a table and m = n = 1, 26 and 25 states fill 507 payload bytes, one block; 26 and 26 need 516, two." And "at most
-- 58,648, or 116 blocks".
use Rattle.std.specs.Prelude.{true, false, [], ◌∷◌, ◌≡◌, refl}
use Rattle.codec.specs.Format.{payload_length, blocks_for}

sizes : (payload_length 26 25 1 1 false ∷ blocks_for 507 ∷ payload_length 26 26 1 1 false ∷ blocks_for 516 ∷ payload_length 64 64 8 7 true ∷ blocks_for 58648 ∷ [])
    ≡ (507 ∷ 1 ∷ 516 ∷ 2 ∷ 58648 ∷ 116 ∷ [])
unfolding payload_length blocks_for
sizes = refl
