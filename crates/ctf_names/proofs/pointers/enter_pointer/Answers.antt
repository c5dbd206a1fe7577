use Rattle.std.proofs.Common.{refl, sym, ◌∙◌}
use Rattle.ctf_names.proofs.Pointing.{put_outside}
use Rattle.ctf_names.proofs.pointers.enter_pointer.Goals as goal

pub returns : goal.returns
returns c = λ terms brief from.
    rw c.in_ok-push.ensures.items (put_outside terms c.args.base c.args.place c.args.firsts.now c.args.outside.now.items c.args.of c.in-Some.target (record { target = c.in-Some.target.0; place = c.args.place }) brief c.in-Some.is (sym c.slot_of.ensures.is ∙ c.in_default-slot_of.is) refl refl from)
