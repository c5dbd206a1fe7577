use Rattle.std.proofs.Common.{◌≡◌, true, Ok, Err, arith, inr, refl, sym, ap, ◌∙◌}
use Rattle.ctf_model.specs.names.TypeNames.{spelled_name, too_long}
use Rattle.ctf_names.specs.Marks.{marks, marked_text}
use Rattle.ctf_names.specs.Bases.{base_text}
use Rattle.ctf_space.specs.SpaceView.{space_of}
use Rattle.ctf_names.proofs.SpelledBy.{short_text, long_text}
use Rattle.ctf_names.proofs.spelling.spell.Goals as goal

pub returns-then-len-gt-LONGEST_TEXT-clause-exact_err : goal.returns-then-len-gt-LONGEST_TEXT-clause-exact_err
returns-then-len-gt-LONGEST_TEXT-clause-exact_err c =
    let same : c.as_slice-2.result.now ≡ marks true c.in_ok-unrolled.unrolled.layers.items = c.as_slice-2.ensures.value ∙ (c.in_ok-marks.ensures ∙ ap (marks true) c.as_slice.ensures.value) in
    let long : spelled_name (space_of c.args.space.now) c.args.number.0 ≡ Err too_long =
    long_text (space_of c.args.space.now) c.args.number.0 c.in_ok-unrolled.unrolled.layers.items c.as_slice-2.result.now (base_text c.in_ok-unrolled.unrolled.base) c.in_ok-unrolled.ensures.ok same (omega (arith, c.text_len-len.ensures)) in
    rw c.placeless.ensures (inr long)

pub returns-clause-exact_ok : goal.returns-clause-exact_ok
returns-clause-exact_ok c =
    let same : c.as_slice-3.result.now ≡ marks true c.in_ok-unrolled.unrolled.layers.items = c.as_slice-3.ensures.value ∙ (c.in_ok-marks.ensures ∙ ap (marks true) c.as_slice.ensures.value) in
    let again : c.as_slice-2.result.now ≡ c.as_slice-3.result.now = c.as_slice-2.ensures.value ∙ sym c.as_slice-3.ensures.value in
    let fits = rw again at c.text_len-len.ensures in
    let short : spelled_name (space_of c.args.space.now) c.args.number.0 ≡ Ok (marked_text c.as_slice-3.result.now (base_text c.in_ok-unrolled.unrolled.base)) =
    short_text (space_of c.args.space.now) c.args.number.0 c.in_ok-unrolled.unrolled.layers.items c.as_slice-3.result.now (base_text c.in_ok-unrolled.unrolled.base) c.in_ok-unrolled.ensures.ok same (omega (arith, fits)) in
    rw short (rw (c.put_text.ensures, c.reserve_exact.ensures.items) refl)
