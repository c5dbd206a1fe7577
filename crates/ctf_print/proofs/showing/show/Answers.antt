use Rattle.std.proofs.Common.{◌≡◌, ◌∙◌, Ok, refl, sym}
use Rattle.ctf_model.specs.values.Values.{value_text}
use Rattle.ctf_space.specs.SpaceView.{space_of}
use Rattle.ctf_print.proofs.Writes.{alone_is, alone_refused}
use Rattle.ctf_print.proofs.showing.show.Goals as goal

pub returns-in-Err-clause-exact_err : goal.returns-in-Err-clause-exact_err
returns-in-Err-clause-exact_err c =
    let refused = rw (c.new-2.ensures, c.from.ensures) at c.in-Err.ensures.err in
    alone_refused (space_of c.args.space.now) c.args.memory.now c.args.number.0 c.args.offset _ refused

pub returns-clause-exact_ok : goal.returns-clause-exact_ok
returns-clause-exact_ok c =
    let alone = rw (c.new-2.ensures, c.from.ensures) at c.in-Ok.ensures.ok in
    let same : value_text (space_of c.args.space.now) c.args.memory.now c.args.number.0 c.args.offset ≡ Ok c.show_value.new.pen.out = sym (alone_is (space_of c.args.space.now) c.args.memory.now c.args.number.0 c.args.offset) ∙ alone in
    let all = c.in_ok-extend_from_slice.ensures.items in
    rw (same, all, c.as_slice.ensures) refl
