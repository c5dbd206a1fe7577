use Rattle.std.proofs.Common.{◌≡◌, ◌^◌, ◌*◌, ◌+◌, ◌-◌, map, eqb, false, codes, refl, sym, ap, ◌∙◌, arith}
use Rattle.std.proofs.lemmas.Bool.{ne_eqb}
use Rattle.std.proofs.lemmas.Result.{err_from_is_err_and}
use Rattle.ctf_model.specs.figures.Figures.{size as size_of}
use Rattle.ctf_model.specs.values.Pieces.{piece, separate}
use Rattle.ctf_model.specs.values.Values.{each_element, elements_shown, label, member_shown}
use Rattle.ctf_print.specs.ImageView.{memory_of, shows, types_of}
use Rattle.ctf_print.specs.Written.{written}
use Rattle.ctf_print.proofs.Alike.{counted}
use Rattle.ctf_print.proofs.Writes.{at_element, first_refused, later_ended, member_refused, member_turn, next_ok, no_more, no_more_members, refused_first, second_refused, separated_is, some_at, some_member, two_ok}
use Rattle.ctf_print.proofs.values.+values.Goals as goal

-- ---- arrays

pub show_array-returns-in_err-put_short-clause-err : goal.show_array-returns-in_err-put_short-clause-err
show_array-returns-in_err-put_short-clause-err t c =
    let p = err_from_is_err_and c.from_residual.result c.from_residual.ensures.1 in
    rw p.1 (refused_first c.args.pen.now.out _ _ _ c.in_err-put_short.ensures.err)

pub show_array-returns-in_err-show_elements-clause-err : goal.show_array-returns-in_err-show_elements-clause-err
show_array-returns-in_err-show_elements-clause-err t c =
    let p = err_from_is_err_and c.from_residual-in_err-show_elements.result c.from_residual-in_err-show_elements.ensures.1 in
    rw p.1 (second_refused c.args.pen.now.out c.args.pen.now.out _ (piece (codes "[")) _ (piece (codes "]")) _ refl c.put_short.new.self.out c.in_ok-put_short.ensures.ok c.in_err-show_elements.ensures.err)

pub show_array-returns-clause-ok : goal.show_array-returns-clause-ok
show_array-returns-clause-ok t c =
    let inside = elements_shown (shows c.args.image.now c.args.nesting) c.args.at c.args.array.contents.0 c.args.array.count (size_of (types_of c.args.image.now) c.args.array.contents.0) in
    let all = two_ok c.args.pen.now.out c.args.pen.now.out _ (piece (codes "[")) inside (piece (codes "]")) refl c.put_short.new.self.out c.in_ok-put_short.ensures.ok c.show_elements.new.pen.out c.in_ok-show_elements.ensures.ok in
    rw all c.put_short-2.ensures.ok

pub show_array-returns-clause-err : goal.show_array-returns-clause-err
show_array-returns-clause-err t c =
    let inside = elements_shown (shows c.args.image.now c.args.nesting) c.args.at c.args.array.contents.0 c.args.array.count (size_of (types_of c.args.image.now) c.args.array.contents.0) in
    let all = two_ok c.args.pen.now.out c.args.pen.now.out _ (piece (codes "[")) inside (piece (codes "]")) refl c.put_short.new.self.out c.in_ok-put_short.ensures.ok c.show_elements.new.pen.out c.in_ok-show_elements.ensures.ok in
    later_ended c.put_short-2.result _ _ _ _ _ all c.put_short-2.ensures.err

pub show_elements-returns-in_err-size-clause-err : goal.show_elements-returns-in_err-size-clause-err
show_elements-returns-in_err-size-clause-err t c =
    let p = err_from_is_err_and c.from_residual.result c.from_residual.ensures.1 in
    let some : eqb c.args.array.count 0 ≡ false = ne_eqb c.args.array.count 0 c.if-array-eq0.false in
    rw p.1 (rw some (c.in_err-size.ensures.refused c.args.at c.args.array.count (omega (arith, c.if-array-eq0.false))))

pub show_elements-loop-i-init : goal.show_elements-loop-i-init
show_elements-loop-i-init t c =
    let some : eqb c.args.array.count 0 ≡ false = ne_eqb c.args.array.count 0 c.if-array-eq0.false in
    record {
      rest = rw some (rw c.begin_elements.ensures.text (ap (written c.args.pen.now.out) (separated_is (each_element (shows c.args.image.now c.args.nesting) c.args.at c.args.array.contents.0 c.args.array.count (size_of (types_of c.args.image.now) c.args.array.contents.0)))));
      place = omega arith;
      known = c.begin_elements.ensures.kept;
    }

pub show_elements-returns-in_err-put_comma-clause-err : goal.show_elements-returns-in_err-put_comma-clause-err
show_elements-returns-in_err-put_comma-clause-err t c =
    let p = err_from_is_err_and c.from_residual-in_err-put_comma.result c.from_residual-in_err-put_comma.ensures.1 in
    let next = at_element (shows c.args.image.now c.args.nesting) c.args.at c.args.array.contents.0 c.args.array.count c.in_ok-size.size c.loop-i.i (size_of (types_of c.args.image.now) c.args.array.contents.0) c.in_ok-size.ensures.found.0 c.loop-i-test.true in
    rw p.1 (first_refused c.args.pen.now.out c.loop-i.pen.out _ _ _ _ (c.loop-i.invariant.rest ∙ ap (written c.loop-i.pen.out) next) c.in_err-put_comma.ensures.err)

pub show_elements-show_by_rule-requires : goal.show_elements-show_by_rule-requires
show_elements-show_by_rule-requires t c = (omega (arith, c.decreases, c.in_ok-size.ensures.found.1.fewer), (c.put_comma.ensures.kept ∙ c.loop-i.invariant.known ∙ c.requires.known, c.in_ok-size.ensures.found.1.rule))

pub show_elements-returns-in_err-show_by_rule-clause-err : goal.show_elements-returns-in_err-show_by_rule-clause-err
show_elements-returns-in_err-show_by_rule-clause-err t c =
    let p = err_from_is_err_and c.from_residual-in_err-show_by_rule.result c.from_residual-in_err-show_by_rule.ensures.1 in
    let next = at_element (shows c.args.image.now c.args.nesting) c.args.at c.args.array.contents.0 c.args.array.count c.in_ok-size.size c.loop-i.i (size_of (types_of c.args.image.now) c.args.array.contents.0) c.in_ok-size.ensures.found.0 c.loop-i-test.true in
    let here = counted (types_of c.args.image.now) (memory_of c.args.image.now) c.args.nesting c.args.array.contents.0 (c.args.at + 8 * c.in_ok-size.size * c.loop-i.i) (2 ^ 128 - 1) c.loop-i.place (omega arith) (omega (arith, c.loop-i.invariant.place)) in
    rw p.1 (second_refused c.args.pen.now.out c.loop-i.pen.out _ _ _ _ _ (c.loop-i.invariant.rest ∙ ap (written c.loop-i.pen.out) next) c.put_comma.new.self.out c.in_ok-put_comma.ensures.ok (rw (sym here ∙ c.in_ok-size.ensures.found.1.shown c.loop-i.place) c.in_err-show_by_rule.ensures.err))

pub show_elements-loop-i-preserved : goal.show_elements-loop-i-preserved
show_elements-loop-i-preserved t c =
    let next = at_element (shows c.args.image.now c.args.nesting) c.args.at c.args.array.contents.0 c.args.array.count c.in_ok-size.size c.loop-i.i (size_of (types_of c.args.image.now) c.args.array.contents.0) c.in_ok-size.ensures.found.0 c.loop-i-test.true in
    let here = counted (types_of c.args.image.now) (memory_of c.args.image.now) c.args.nesting c.args.array.contents.0 (c.args.at + 8 * c.in_ok-size.size * c.loop-i.i) (2 ^ 128 - 1) c.loop-i.place (omega arith) (omega (arith, c.loop-i.invariant.place)) in
    record {
      rest = two_ok c.args.pen.now.out c.loop-i.pen.out _ _ _ _ (c.loop-i.invariant.rest ∙ ap (written c.loop-i.pen.out) next) c.put_comma.new.self.out c.in_ok-put_comma.ensures.ok c.show_by_rule.new.pen.out (rw (sym here ∙ c.in_ok-size.ensures.found.1.shown c.loop-i.place) c.in_ok-show_by_rule.ensures.ok);
      place = omega (arith, c.saturating_add-place.ensures, c.from.ensures, c.loop-i.invariant.place);
      known = c.show_by_rule.ensures.kept ∙ c.put_comma.ensures.kept ∙ c.loop-i.invariant.known;
    }

pub show_elements-returns-clause-ok : goal.show_elements-returns-clause-ok
show_elements-returns-clause-ok t c =
    let none = no_more (shows c.args.image.now c.args.nesting) c.args.at c.args.array.contents.0 c.args.array.count c.in_ok-size.size c.loop-i.i (size_of (types_of c.args.image.now) c.args.array.contents.0) c.in_ok-size.ensures.found.0 c.loop-i-test.false in
    rw (c.loop-i.invariant.rest ∙ ap (written c.loop-i.pen.out) none) c.put_nothing-2.ensures.ok

pub show_elements-returns-clause-err : goal.show_elements-returns-clause-err
show_elements-returns-clause-err t c =
    let none = no_more (shows c.args.image.now c.args.nesting) c.args.at c.args.array.contents.0 c.args.array.count c.in_ok-size.size c.loop-i.i (size_of (types_of c.args.image.now) c.args.array.contents.0) c.in_ok-size.ensures.found.0 c.loop-i-test.false in
    later_ended c.put_nothing-2.result _ _ _ _ _ (c.loop-i.invariant.rest ∙ ap (written c.loop-i.pen.out) none) c.put_nothing-2.ensures.err

-- ---- members

pub show_member-returns-in_err-offset-clause-err : goal.show_member-returns-in_err-offset-clause-err
show_member-returns-in_err-offset-clause-err t c m here =
    let p = err_from_is_err_and c.from_residual.result c.from_residual.ensures.1 in
    rw p.1 (c.in_err-offset.ensures.refused m here c.args.at)

pub show_member-show_by_rule-requires : goal.show_member-show_by_rule-requires
show_member-show_by_rule-requires t c =
    let there = some_at c.args.members.now c.args.i c.requires.inside in
    let begun = c.in_ok-offset.ensures.begun there.0 there.1 in
    (omega (arith, c.decreases, begun.found.fewer), (c.begin_member.ensures.kept ∙ c.requires.known, begun.found.rule))

pub show_member-returns-clause-ok : goal.show_member-returns-clause-ok
show_member-returns-clause-ok t c m here =
    let begun = c.in_ok-offset.ensures.begun m here in
    let there = counted (types_of c.args.image.now) (memory_of c.args.image.now) c.args.nesting m.tnum (c.args.at + m.offset) (2 ^ 128 - 1) c.saturating_add-place.result (omega arith) (omega (arith, c.saturating_add-place.ensures, c.from.ensures, begun.place)) in
    let all = next_ok c.args.pen.now.out c.begin_member.new.self.out (label m.name) (shows c.args.image.now c.args.nesting m.tnum (c.args.at + m.offset)) begun.named in
    rw all (rw (sym there ∙ begun.found.shown c.saturating_add-place.result) c.show_by_rule.ensures.ok)

pub show_member-returns-clause-err : goal.show_member-returns-clause-err
show_member-returns-clause-err t c m here =
    let begun = c.in_ok-offset.ensures.begun m here in
    let there = counted (types_of c.args.image.now) (memory_of c.args.image.now) c.args.nesting m.tnum (c.args.at + m.offset) (2 ^ 128 - 1) c.saturating_add-place.result (omega arith) (omega (arith, c.saturating_add-place.ensures, c.from.ensures, begun.place)) in
    let all = next_ok c.args.pen.now.out c.begin_member.new.self.out (label m.name) (shows c.args.image.now c.args.nesting m.tnum (c.args.at + m.offset)) begun.named in
    later_ended c.show_by_rule.result _ _ _ _ _ all (rw (sym there ∙ begun.found.shown c.saturating_add-place.result) c.show_by_rule.ensures.err)

pub show_each_member-loop-i-init : goal.show_each_member-loop-i-init
show_each_member-loop-i-init t c = record {
  rest = ap (written c.args.pen.now.out) (separated_is (map (member_shown (shows c.args.image.now c.args.nesting) c.args.at) c.args.members.now));
  known = refl;
}

pub show_each_member-returns-in_err-put_comma-clause-err : goal.show_each_member-returns-in_err-put_comma-clause-err
show_each_member-returns-in_err-put_comma-clause-err t c =
    let p = err_from_is_err_and c.from_residual.result c.from_residual.ensures.1 in
    let inside = rw c.len.ensures.value at c.loop-i-test.true in
    let next = some_member (member_shown (shows c.args.image.now c.args.nesting) c.args.at) c.args.members.now c.loop-i.i inside in
    rw p.1 (first_refused c.args.pen.now.out c.loop-i.pen.out _ _ _ _ (c.loop-i.invariant.rest ∙ ap (written c.loop-i.pen.out) next.1) c.in_err-put_comma.ensures.err)

pub show_each_member-returns-in_err-show_member-clause-err : goal.show_each_member-returns-in_err-show_member-clause-err
show_each_member-returns-in_err-show_member-clause-err t c =
    let p = err_from_is_err_and c.from_residual-in_err-show_member.result c.from_residual-in_err-show_member.ensures.1 in
    let there = some_at c.args.members.now c.loop-i.i (rw c.len.ensures.value at c.loop-i-test.true) in
    rw p.1 (member_refused (member_shown (shows c.args.image.now c.args.nesting) c.args.at) c.args.members.now c.loop-i.i there.0 c.args.pen.now.out c.loop-i.pen.out c.put_comma.new.self.out _ _ there.1 c.loop-i.invariant.rest c.in_ok-put_comma.ensures.ok (c.in_err-show_member.ensures.err there.0 there.1))

pub show_each_member-loop-i-preserved : goal.show_each_member-loop-i-preserved
show_each_member-loop-i-preserved t c =
    let there = some_at c.args.members.now c.loop-i.i (rw c.len.ensures.value at c.loop-i-test.true) in
    record {
      rest = member_turn (member_shown (shows c.args.image.now c.args.nesting) c.args.at) c.args.members.now c.loop-i.i there.0 c.args.pen.now.out c.loop-i.pen.out c.put_comma.new.self.out c.show_member.new.pen.out _ there.1 c.loop-i.invariant.rest c.in_ok-put_comma.ensures.ok (c.in_ok-show_member.ensures.ok there.0 there.1);
      known = c.show_member.ensures.kept ∙ c.put_comma.ensures.kept ∙ c.loop-i.invariant.known;
    }

pub show_each_member-returns-clause-ok : goal.show_each_member-returns-clause-ok
show_each_member-returns-clause-ok t c =
    let none = no_more_members (member_shown (shows c.args.image.now c.args.nesting) c.args.at) c.args.members.now c.loop-i.i (rw c.len.ensures.value at c.loop-i-test.false) in
    rw (c.loop-i.invariant.rest ∙ ap (written c.loop-i.pen.out) none) c.put_nothing.ensures.ok

pub show_each_member-returns-clause-err : goal.show_each_member-returns-clause-err
show_each_member-returns-clause-err t c =
    let none = no_more_members (member_shown (shows c.args.image.now c.args.nesting) c.args.at) c.args.members.now c.loop-i.i (rw c.len.ensures.value at c.loop-i-test.false) in
    later_ended c.put_nothing.result _ _ _ _ _ (c.loop-i.invariant.rest ∙ ap (written c.loop-i.pen.out) none) c.put_nothing.ensures.err

pub show_members-returns-in_err-put_short-clause-err : goal.show_members-returns-in_err-put_short-clause-err
show_members-returns-in_err-put_short-clause-err t c =
    let p = err_from_is_err_and c.from_residual.result c.from_residual.ensures.1 in
    rw p.1 (refused_first c.args.pen.now.out _ _ _ c.in_err-put_short.ensures.err)

pub show_members-returns-in_err-show_each_member-clause-err : goal.show_members-returns-in_err-show_each_member-clause-err
show_members-returns-in_err-show_each_member-clause-err t c =
    let p = err_from_is_err_and c.from_residual-in_err-show_each_member.result c.from_residual-in_err-show_each_member.ensures.1 in
    rw p.1 (second_refused c.args.pen.now.out c.args.pen.now.out _ (piece (codes "{")) _ (piece (codes "}")) _ refl c.put_short.new.self.out c.in_ok-put_short.ensures.ok c.in_err-show_each_member.ensures.err)

pub show_members-returns-clause-ok : goal.show_members-returns-clause-ok
show_members-returns-clause-ok t c =
    let all = two_ok c.args.pen.now.out c.args.pen.now.out _ (piece (codes "{")) (separate (map (member_shown (shows c.args.image.now c.args.nesting) c.args.at) c.args.members.now)) (piece (codes "}")) refl c.put_short.new.self.out c.in_ok-put_short.ensures.ok c.show_each_member.new.pen.out c.in_ok-show_each_member.ensures.ok in
    rw all c.put_short-2.ensures.ok

pub show_members-returns-clause-err : goal.show_members-returns-clause-err
show_members-returns-clause-err t c =
    let all = two_ok c.args.pen.now.out c.args.pen.now.out _ (piece (codes "{")) (separate (map (member_shown (shows c.args.image.now c.args.nesting) c.args.at) c.args.members.now)) (piece (codes "}")) refl c.put_short.new.self.out c.in_ok-put_short.ensures.ok c.show_each_member.new.pen.out c.in_ok-show_each_member.ensures.ok in
    later_ended c.put_short-2.result _ _ _ _ _ all c.put_short-2.ensures.err
