-- The line is put behind an empty one.
use Rattle.playline.proofs.play_line.Goals as goal

pub returns : goal.returns
returns c = c.append_play_line.ensures.alone c.new-line.ensures
