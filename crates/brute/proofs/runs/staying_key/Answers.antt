use Rattle.brute.specs.ScanLaws.{key_told}
use Rattle.brute.proofs.runs.staying_key.Goals as goal

pub returns : goal.returns
returns c =
    let x = c.args in
    rw (c.from.ensures, c.from-2.ensures) (key_told x.present x.a x.e c.ne.result c.requires c.ne.ensures)
