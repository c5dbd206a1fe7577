use Rattle.std.proofs.Common.{refl}
use Rattle.ctf_protocol.specs.lines.Ask.{ask}
use Rattle.ctf_protocol.specs.lines.ReplyLines.{fitting_line}
use Rattle.ctf_protocol.specs.sessions.Charges.{charge}
use Rattle.ctf_protocol.proofs.rows.limits_hold.Goals as goal

pub returns : goal.returns
unfolding ask fitting_line charge
returns c = record { longest_list = λ bytes e. rw e refl; longer_list = λ bytes state e. rw e refl; greatest_charge = λ outcome state e. rw e refl; greater_charge = λ outcome state e. rw e refl; last_slot = λ state e f. rw (e, f) refl; no_slot_more = λ state e. rw e refl; no_number_more = λ state e f. rw (e, f) refl; longest_reply = λ s line e. rw e refl; longer_reply = λ s line e. rw e refl; longer_line = λ line e. rw e refl; longest_name = refl; longer_name = refl }
