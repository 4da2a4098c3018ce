-- The line of what is said of the lasso, or how to call it.
use mathlib.Core.Path.{◌≡◌, sym, ap, ◌∙◌}
use native.Mathlib.Omega.{arith}
use Prim.Native.Nat.{ℕ}
use lib.ListN.{length, length-replicate}
use Rattle.std.proofs.Common.{rules}
use Rattle.machine.specs.Player.{run_room}
use Rattle.playback.specs.PlayingLaws.{run_small}
use Rattle.playline.specs.Lasso.{numbers_in}
use Rattle.playline.specs.Line.{usage_line}
use Rattle.playline.specs.LineLaws.{put_as, alone, play_usage, play_said}
use Rattle.playline.proofs.append_play_line.Goals as goal

pub append_outcome-requires : goal.append_outcome-requires
append_outcome-requires c =
    let play = c.play_bytes-said in
    let long : length play.new.run ≡ run_room = play.auto.run ∙ length-replicate {A = ℕ} run_room 0 in
    (omega arith, λ r e. omega (arith, run_small _ _ _ (sym play.ensures.answer ∙ e)))

pub returns-in-Some : goal.returns-in-Some
returns-in-Some c =
    let play = c.play_bytes-said in
    let p = c.in-Some.ensures in
    let text =
    play_said c.args.bytes.now c.args.text.now (search rules) play.result c.deref.result.now c.deref-in-Some.result.now play.new.run p.0
    (c.deref.ensures.0 ∙ c.numbers_in.ensures ∙ ap numbers_in p.1) (c.deref-in-Some.ensures.0 ∙ c.numbers_in-in-Some.ensures ∙ ap numbers_in p.2)
    play.ensures.answer play.ensures.content in
    record { behind = put_as c.args.line.now.items text c.append_outcome.ensures.behind; alone = λ e. c.append_outcome.ensures.alone e ∙ text }

pub returns-in-None : goal.returns-in-None
returns-in-None c =
    let text = play_usage c.args.bytes.now c.args.text.now c.in-None.ensures in
    record { behind = put_as c.args.line.now.items text c.append.ensures; alone = λ e. alone usage_line e c.append.ensures (omega arith) ∙ text }
