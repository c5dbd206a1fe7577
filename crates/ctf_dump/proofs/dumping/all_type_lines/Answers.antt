use Rattle.std.proofs.Common.{ℕ, ◌<◌, ◌≤◌, arith, ap, ◌∙◌, subst, length}
use Rattle.std.proofs.lemmas.Result.{err_from_is_err_and}
use Rattle.std.specs.Io.KnownBytes.{Appends}
use Rattle.ctf_model.specs.format.Dictionary.{Dictionary}
use Rattle.ctf_model.specs.dumps.Dump.{types_from}
use Rattle.ctf_model.specs.spaces.Space.{space_type}
use Rattle.ctf_model.specs.spaces.TypePlaces.{own_number}
use Rattle.ctf_space.proofs.Few.{few_terms}
use Rattle.ctf_space.specs.SpaceView.{own_lists, space_of}
use Rattle.ctf_dump.specs.Progress.{HasBegun}
use Rattle.ctf_dump.specs.Words.{lines_of_type}
use Rattle.ctf_dump.proofs.AllLines.{all_types, own_at, own_found, type_more, types_begun}
use Rattle.ctf_dump.proofs.dumping.all_type_lines.Goals as goal

pub number_of-number-requires : goal.number_of-number-requires
number_of-number-requires g c =
    let few = few_terms (own_lists c.args.space.now) c.args.space.now.own.faultless in
    let count = c.count-place-end.ensures ∙ ap (λ (d : Dictionary). length d.terms) c.dictionary-dictionary.ensures.own in
    let test = c.loop-place-test.true in
    omega (arith, few, count, test)

pub loop-place-preserved : goal.loop-place-preserved
loop-place-preserved g c =
    let s = space_of c.args.space.now in
    let i = c.loop-place.place in
    let before = g.W.Write.contents c.args.out.now in
    let now = g.W.Write.contents c.loop-place.out in
    let after = g.W.Write.contents c.type_lines.new.out in
    let count = c.count-place-end.ensures ∙ ap (λ (d : Dictionary). length d.terms) c.dictionary-dictionary.ensures.own in
    let test = c.loop-place-test.true in
    let below : i < length s.own.terms = omega (arith, count, test) in
    let number = c.number_of-number.ensures ∙ ap (λ b. own_number b i) (c.child.ensures ∙ ap (λ (d : Dictionary). d.child) c.dictionary-dictionary.ensures.own) in
    let found = ap (space_type s) number ∙ own_found s i below in
    record {
      known = c.type_lines.ensures.kept ∙ c.loop-place.invariant.known;
      bare = c.in_ok-type_lines.ensures.empty;
      written = λ fits. type_more s i before now after (types_from s 0 s.own.terms) below (c.loop-place.invariant.written fits) (subst (λ (n : ℕ). Appends now after (lines_of_type s n (own_at s i))) number (c.in_ok-type_lines.ensures.written fits (own_at s i) found));
    }

pub returns-clause-written : goal.returns-clause-written
returns-clause-written g c fits =
    let s = space_of c.args.space.now in
    let i = c.loop-place.place in
    let count = c.count-place-end.ensures ∙ ap (λ (d : Dictionary). length d.terms) c.dictionary-dictionary.ensures.own in
    let end = c.loop-place-test.false in
    let past : length s.own.terms ≤ i = omega (arith, count, end) in
    all_types s i (g.W.Write.contents c.args.out.now) (g.W.Write.contents c.loop-place.out) (types_from s 0 s.own.terms) past (c.loop-place.invariant.written fits)

pub returns-in_err-type_lines-clause-begun : goal.returns-in_err-type_lines-clause-begun
returns-in_err-type_lines-clause-begun g c fits =
    let p = err_from_is_err_and c.from_residual.result c.from_residual.ensures.1 in
    let s = space_of c.args.space.now in
    let i = c.loop-place.place in
    let before = g.W.Write.contents c.args.out.now in
    let now = g.W.Write.contents c.loop-place.out in
    let after = g.W.Write.contents c.type_lines.new.out in
    let count = c.count-place-end.ensures ∙ ap (λ (d : Dictionary). length d.terms) c.dictionary-dictionary.ensures.own in
    let test = c.loop-place-test.true in
    let below : i < length s.own.terms = omega (arith, count, test) in
    let number = c.number_of-number.ensures ∙ ap (λ b. own_number b i) (c.child.ensures ∙ ap (λ (d : Dictionary). d.child) c.dictionary-dictionary.ensures.own) in
    let found = ap (space_type s) number ∙ own_found s i below in
    rw (p.1, p.2) (λ memory. types_begun s i before now after (types_from s 0 s.own.terms) below (c.loop-place.invariant.written fits) (subst (λ (n : ℕ). HasBegun now after (lines_of_type s n (own_at s i))) number (c.in_err-type_lines.ensures.begun fits (own_at s i) found memory)))
