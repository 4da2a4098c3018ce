-- The statements' proofs.
use Rattle.machine.specs.Lassos.{moment}
use Rattle.machine.specs.WellFormedLaws.{well_pair, valid_is_well}
use Rattle.machine.specs.VerdictLaws.{carried_at}
use Rattle.machine.specs.EntriesLaws.{check_same}
use Rattle.soundness.specs.Statements.{PassingIsSound, CarriedIsSound, PlayerIsRight, PlayerFollows, CheckUnread, PlayerUnread}
use Rattle.soundness.specs.PlayLaws.{play_at}
use Rattle.soundness.specs.AnswerLaws.{start_found}
use Rattle.soundness.specs.SoundLaws.{returns, closes, agrees, follows, starts_lowest}
use Rattle.soundness.specs.PlayerLaws.{good_play, playable, run_states, player_run}
use Rattle.soundness.specs.UnreadLaws.{answer_same, buffer_same}

pub passing_is_sound : PassingIsSound
passing_is_sound p T well passing start l play =
    let w = well_pair p well in
    let y = play_at p.concrete l play in
    let s = start_found p T w passing (moment l 0) (y.bound 0) (start (moment l 0) (y.bound 0) y.start) in
    let r = returns p T w passing l y s in
    (_, closes p T w passing l y s r.0 r.1 r.2 r.4, agrees p T w passing l y s r.0 r.1 r.2 r.4)

pub carried_is_sound : CarriedIsSound
carried_is_sound p T n e = let c = carried_at p T n e in passing_is_sound p T (valid_is_well p c.well) c.passing c.start

pub player_is_right : PlayerIsRight
player_is_right p T l e = player_run p T l (playable p T l e)

pub player_follows : PlayerFollows
player_follows p T l e =
    let k = playable p T l e in
    let y = play_at p.concrete l (good_play p.concrete l k.good) in
    record { states = run_states p T l; first = starts_lowest p T k.well k.passing l y k.partnered; later = follows p T k.well k.passing l y k.partnered }

pub check_unread : CheckUnread
check_unread p T U long long' same = check_same p T U same long long'

pub player_unread : PlayerUnread
player_unread p T U long long' same l buffer = (answer_same p T U same l buffer long long', buffer_same p T U same l buffer long long')
