-- The invariant: what is left of the word, put at `to`, gives the answer.
use mathlib.Core.Path.{refl}
use native.Mathlib.Omega.{arith}
use Rattle.text.specs.PutLaws.{put_more, put_full, put_done}
use Rattle.text.proofs.put.Goals as goal

pub loop-i-init : goal.loop-i-init
loop-i-init c = record { answer = refl; same = refl }

pub shape_of-out-then-out-to : goal.shape_of-out-then-out-to
shape_of-out-then-out-to c = c.loop-i.invariant.same

pub returns-then-out-to : goal.returns-then-out-to
returns-then-out-to c = put_full c.loop-i.invariant c.if-out-to.true

pub overflow_add-to : goal.overflow_add-to
overflow_add-to c = omega (arith, c.loop-i.invariant.same)

pub loop-i-preserved : goal.loop-i-preserved
loop-i-preserved c = put_more c.loop-i.invariant (omega arith)

pub shape_of-out : goal.shape_of-out
shape_of-out c = c.loop-i.invariant.same

pub returns : goal.returns
returns c = put_done c.loop-i.invariant (omega arith)
