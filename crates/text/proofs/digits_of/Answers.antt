-- The invariant: the digits behind those of `rest` are stored behind `start`.
use native.Mathlib.Omega.{arith}
use Rattle.text.specs.DigitsLaws.{partly_start, partly_room, partly_more, partly_done}
use Rattle.text.proofs.digits_of.Goals as goal

pub loop-rest-init : goal.loop-rest-init
loop-rest-init c = partly_start c.args.n (omega arith)

pub bounds-bytes-start : goal.bounds-bytes-start
bounds-bytes-start c = omega (arith, c.loop-rest.invariant.room)

pub overflow_sub-start : goal.overflow_sub-start
overflow_sub-start c = partly_room c.loop-rest.invariant (omega arith)

pub loop-rest-preserved : goal.loop-rest-preserved
loop-rest-preserved c = partly_more c.loop-rest.invariant (omega arith)

pub bounds-bytes-start-2 : goal.bounds-bytes-start-2
bounds-bytes-start-2 c = omega (arith, c.loop-rest.invariant.room)

pub returns : goal.returns
returns c = partly_done c.loop-rest.invariant (omega arith)
