-- Each case of what is said has its own line, and an empty line has room for each.
use mathlib.Core.Path.{◌≡◌, ap, ◌∙◌}
use Prim.Native.Nat.{ℕ, ◌+◌, ◌-◌}
use lib.ListN.{take, drop}
use native.Mathlib.Omega.{arith}
use Rattle.std.specs.Prelude.{Ok}
use Rattle.report.specs.Text.{refusal_line}
use Rattle.playline.specs.Line.{run_line}
use Rattle.playline.specs.LineLaws.{put_as, outcome_alone, line_run, line_none, line_refused}
use Rattle.playline.proofs.append_outcome.Goals as goal

pub returns-in-Some : goal.returns-in-Some
returns-in-Some c =
    let said = c.args.said in
    let run = c.args.run.now in
    let r = c.in-Some.lengths in
    let cut : r.stem + r.cycle - r.stem ≡ r.cycle = omega arith in
    let text = ap (λ (k : ℕ). run_line (take r.stem run) (take k (drop r.stem run))) cut ∙ line_run said run r (c.in-Ok.is ∙ ap Ok c.in-Some.is) in
    record {
      behind = put_as c.args.line.now.items text c.append_run.ensures;
      alone = λ e. outcome_alone said run (λ i. (c.type_inv.run i).fits) c.requires.0 c.requires.1 text e c.append_run.ensures;
    }

pub returns-in-None : goal.returns-in-None
returns-in-None c =
    let said = c.args.said in
    let run = c.args.run.now in
    let text = line_none said run (c.in-Ok.is ∙ ap Ok c.in-None.is) in
    record {
      behind = put_as c.args.line.now.items text c.append.ensures;
      alone = λ e. outcome_alone said run (λ i. (c.type_inv.run i).fits) c.requires.0 c.requires.1 text e c.append.ensures;
    }

pub returns-in-Err : goal.returns-in-Err
unfolding refusal_line
returns-in-Err c =
    let said = c.args.said in
    let run = c.args.run.now in
    let text = c.refusal_line-told.ensures.text ∙ line_refused said run c.in-Err.refusal c.in-Err.is in
    record {
      behind = put_as c.args.line.now.items text c.append-in-Err.ensures;
      alone = λ e. outcome_alone said run (λ i. (c.type_inv.run i).fits) c.requires.0 c.requires.1 text e c.append-in-Err.ensures;
    }
