-- Nothing for the empty mask, and else the parts one behind the other.
use mathlib.Core.List.{List, ◌++◌}
use mathlib.Core.Path.{sym, ap, ◌∙◌}
use Prim.Native.Nat.{ℕ}
use lib.ListN.{take}
use native.Mathlib.Omega.{arith}
use Rattle.text.specs.AppendLaws.{appended, last, next, put_none}
use Rattle.hanoi.specs.Parts.{braces_parts, braces}
use Rattle.hanoi.specs.PartsLaws.{braces_none, braces_some}
use Rattle.hanoi.proofs.append_braces.Goals as goal

pub returns-then-members-eq0 : goal.returns-then-members-eq0
returns-then-members-eq0 c = put_none 20000 c.args.text.now.items _ (omega (arith, c.len.ensures.fits, c.len.ensures.value)) (ap braces c.if-members-eq0.true ∙ braces_none)

pub returns : goal.returns
returns c =
    let x = c.args in
    appended 20000 x.text.now.items (braces_parts x.members) (next c.append.ensures (next c.append_items.ensures (last c.append_byte.ensures)))
    ∙ ap (λ (w : List ℕ). take 20000 (x.text.now.items ++ w)) (sym (braces_some x.members c.if-members-eq0.false))
