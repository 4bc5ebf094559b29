use Rattle.rad_progress.proofs.RightReply.{is_heard}
use Rattle.rad_progress.proofs.hearing.a_right_reply_is_heard.Goals as goal

pub returns : goal.returns
returns c = is_heard
