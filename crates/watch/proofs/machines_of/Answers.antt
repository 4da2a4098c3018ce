-- What the reader says of the file is what its tests say, and beside a file that is taken the machines are those in it.
use mathlib.Core.Path.{sym, ◌∙◌}
use Rattle.machine.proofs.Passing.{passed_on}
use Rattle.codec.proofs.FileLaws.{machines_taken, machines_pair, machines_refused}
use Rattle.watch.specs.WatchingLaws.{read_refused_lem, read_taken_lem}
use Rattle.watch.proofs.machines_of.Goals as goal

pub returns-in_err-show : goal.returns-in_err-show
returns-in_err-show c =
    passed_on c.from_residual.ensures ∙ sym (read_refused_lem c.args.bytes.now (machines_refused _ _ c.read_file-show.ensures.answer c.in_err-show.was))

pub returns : goal.returns
returns c =
    let read = c.read_file-show.ensures.answer in
    let told = c.in_ok-show.was in
    read_taken_lem c.args.bytes.now (machines_taken _ _ read told) (machines_pair _ _ read told)
