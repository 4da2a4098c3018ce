-- Four bytes are compared with the letters.
use Rattle.std.proofs.Common.{◌≡◌, ℕ, length, get_or, take, drop, refl, ap, ◌∙◌, arith, length-drop, length-take-le, get_or-take, get_or-drop}
use Rattle.std.proofs.Math.Dec.{eqb}
use Rattle.mask.specs.BoundedLaws.{every_cong}
use Rattle.mask.proofs.RangeLaws.{pointwise_every}
use Rattle.codec.specs.Format.{letters}
use Rattle.codec.specs.Reader.{header_byte}
use Rattle.codec.proofs.reader.Head.has_letters.Goals as goal

pub returns : goal.returns
unfolding header_byte
returns c =
    let f = c.args.self.now.bytes.now in
    let long : length (take 4 (drop 2 f)) ≡ 4 = length-take-le 4 (drop 2 f) (rw (length-drop 2 f) (omega arith)) in
    c.eq.ensures ∙ pointwise_every (take 4 (drop 2 f)) letters long refl
    ∙ every_cong 4 _ _ (λ i l. ap (λ (x : ℕ). eqb x (get_or letters i 0)) (get_or-take 4 (drop 2 f) i 0 l ∙ get_or-drop 2 f i 0))
