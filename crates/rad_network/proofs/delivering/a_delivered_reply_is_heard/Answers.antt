use Rattle.rad_network.proofs.Delivered.{reply_heard}
use Rattle.rad_network.proofs.InLife.{stands_in_life}
use Rattle.rad_network.proofs.delivering.a_delivered_reply_is_heard.Goals as goal

pub returns : goal.returns
returns c = λ world slot entry r moment datagram result next life. reply_heard world slot entry r moment datagram result next (stands_in_life world life)
