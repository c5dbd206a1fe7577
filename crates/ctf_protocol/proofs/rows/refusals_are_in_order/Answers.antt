use Rattle.std.proofs.Common.{refl}
use Rattle.ctf_protocol.proofs.rows.refusals_are_in_order.Goals as goal

pub returns : goal.returns
returns c = record { open_full = λ model state e. rw e refl; create_full = λ asked state e f. rw (e, f) refl; create_full_over = λ asked p slot state e f g. rw (e, f, g) refl; take_full = λ found state e. rw e refl; take_nothing = λ state e. rw e refl; name_taken = λ kept state. refl }
