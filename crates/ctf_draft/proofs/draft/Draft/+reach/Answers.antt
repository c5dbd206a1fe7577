use Rattle.std.proofs.Common.{◌≡◌, ℕ, ◌+◌, ◌-◌, ◌<◌, ◌≤◌, length, take, is_some, sym, ap, refl, subst, ◌∙◌, arith}
use Rattle.std.specs.List.{AllByRecursion}
use Rattle.std.proofs.lemmas.List.{take_all}
use Rattle.std.specs.Prelude.{max}
use Rattle.ctf_chains.specs.Places.{steps_between}
use Rattle.ctf_chains.proofs.Depths.{none_yet}
use Rattle.ctf_model.specs.rules.Chains.{by_value}
use Rattle.ctf_model.specs.drafts.Drafts.{count_of, content, space_of}
use Rattle.ctf_model.specs.figures.FigureLaws.{own_body}
use Rattle.ctf_model.specs.figures.Figures.{align}
use Rattle.ctf_draft.specs.Reaching.{IsKnown, IsKnownAt, IsReach, Knows, value_places}
use Rattle.ctf_draft.specs.Sizing.{aligned_by, own_align}
use Rattle.ctf_draft.specs.TypeView.{body_of}
use Rattle.ctf_draft.proofs.Reaches.{aligned_more, base_is, below_grows, below_named, below_unnamed, elsewhere_is, known_answers, known_grows, known_here, longer_by, longer_none, named_is, none_read, one_kept, reach_is, read_count, too_deep}
use Rattle.ctf_draft.proofs.draft.Draft.+reach.Goals as goal
use Rattle.ctf_draft.proofs.draft.Draft.+reach.Goals.{in-Some-own_index+else-budget-eq0+else-found-budget, in-Some-get, in-None-get+in_ok-found-in-None-get, in-None}

pub returns-in-Some-clause-answer : goal.returns-in-Some-clause-answer
returns-in-Some-clause-answer t c =
    known_answers c.args.self.now.draft c.args.i c.args.budget c.in-Some.known c.within.result
    (c.requires.knows.right c.args.i c.in-Some.known (c.get.ensures ∙ c.in-Some.is)) c.within.ensures

pub loop-k-init : goal.loop-k-init
loop-k-init t c =
    let d = c.args.self.now.draft in
    let body = own_body (content d) c.args.i in
    record {
      room = c.requires.room;
      knows = c.requires.knows;
      grows = λ j k. k;
      below = tt;
      longest = none_yet (steps_between (value_places (content d)));
      affordable = omega arith;
      aligned =
          base_is d c.args.i (body_of c.own_body-body.result.now) c.own_body-body.ensures c.self.inside.model c.own_align-align.result (ap (λ o. o.draft.model) c.self.view_is) c.own_align-align.ensures
          ∙ none_read (align (space_of d)) (own_align d.model body) (by_value body) (aligned_by body);
    }

pub returns-then-budget-eq0-clause-answer : goal.returns-then-budget-eq0-clause-answer
returns-then-budget-eq0-clause-answer t c =
    too_deep c.args.self.now.draft c.args.i (body_of c.own_body-body.result.now) c.own_body-body.ensures c.loop-k.k c.value_type-number.result.0 (omega (arith, c.value_count-k-end.ensures)) c.value_type-number.ensures c.own_index.result c.own_index.ensures
    c.args.budget c.in-Some-own_index.j c.in-Some-own_index.is (λ le w. omega arith)

pub returns-clause-knows : goal.returns-clause-knows
returns-clause-knows t c =
    let d = c.args.self.now.draft in
    let end = read_count d c.args.i (body_of c.own_body-body.result.now) c.own_body-body.ensures c.value_count-k-end.result c.value_count-k-end.ensures in
    let is : IsReach d c.args.i (record { depth = c.loop-k.depth; align = c.loop-k.align }) = reach_is d c.args.i c.loop-k.k c.loop-k.depth c.loop-k.align (record { depth = c.loop-k.depth; align = c.loop-k.align }) c.requires.own (omega (arith, c.loop-k.invariant.affordable)) (omega (arith, end)) c.loop-k.invariant.longest c.loop-k.invariant.aligned refl refl in
    let body = own_body (content d) c.args.i in
    let below = subst (AllByRecursion (IsKnownAt d c.loop-k.marks)) (take_all c.loop-k.k (by_value body) (omega (arith, end))) c.loop-k.invariant.below in
    rw c.set.ensures (one_kept d c.loop-k.marks c.args.i (record { depth = c.loop-k.depth; align = c.loop-k.align }) (omega (arith, c.requires.own, c.loop-k.invariant.room)) c.loop-k.invariant.knows is below)

pub returns-clause-grows : goal.returns-clause-grows
returns-clause-grows t c = rw c.set.ensures (λ j k. known_grows c.loop-k.marks c.args.i (record { depth = c.loop-k.depth; align = c.loop-k.align }) (omega (arith, c.requires.own, c.loop-k.invariant.room)) j (c.loop-k.invariant.grows j k))

pub returns-clause-known : goal.returns-clause-known
returns-clause-known t c = rw c.set.ensures (known_here c.loop-k.marks c.args.i (record { depth = c.loop-k.depth; align = c.loop-k.align }) (omega (arith, c.requires.own, c.loop-k.invariant.room)))

pub returns-clause-answer : goal.returns-clause-answer
returns-clause-answer t c =
    let d = c.args.self.now.draft in
    let end = read_count d c.args.i (body_of c.own_body-body.result.now) c.own_body-body.ensures c.value_count-k-end.result c.value_count-k-end.ensures in
    record {
      reach = reach_is d c.args.i c.loop-k.k c.loop-k.depth c.loop-k.align (record { depth = c.loop-k.depth; align = c.loop-k.align }) c.requires.own (omega (arith, c.loop-k.invariant.affordable)) (omega (arith, end)) c.loop-k.invariant.longest c.loop-k.invariant.aligned refl refl;
      affordable = c.loop-k.invariant.affordable;
    }

pub returns-in_err-found-in-None-get-clause-answer : goal.returns-in_err-found-in-None-get-clause-answer
returns-in_err-found-in-None-get-clause-answer t c =
    let d = c.args.self.now.draft in
    let none = rw (c.in_err-found-in-None-get.was) at c.reach.ensures.answer in
    rw c.from_residual.ensures
    (too_deep d c.args.i (body_of c.own_body-body.result.now) c.own_body-body.ensures c.loop-k.k c.value_type-number.result.0 (omega (arith, c.value_count-k-end.ensures)) c.value_type-number.ensures c.own_index.result c.own_index.ensures
    c.args.budget c.in-Some-own_index.j c.in-Some-own_index.is (λ le. none))

pub returns-then-found-budget-clause-answer : goal.returns-then-found-budget-clause-answer
returns-then-found-budget-clause-answer t c =
    let d = c.args.self.now.draft in
    let j = c.in-Some-own_index.j in
    let is : IsReach d j c.match-get-2.found =
    elim c.match-get-2.branch [
      | in-Some-get w ↦ rw w.found-is (c.loop-k.invariant.knows.right j w.in-Some-get.known (c.get-in-Some-own_index.ensures ∙ w.in-Some-get.is))
      | in-None-get+in_ok-found-in-None-get w ↦ rw w.found-is (rw (w.in_ok-found-in-None-get.was) at w.reach.ensures.answer).reach
    ] in
    let deep = c.if-found-budget.true in
    too_deep d c.args.i (body_of c.own_body-body.result.now) c.own_body-body.ensures c.loop-k.k c.value_type-number.result.0 (omega (arith, c.value_count-k-end.ensures)) c.value_type-number.ensures c.own_index.result c.own_index.ensures
    c.args.budget j c.in-Some-own_index.is (λ le w. let least = is.depth.least (c.args.budget - 1) w in omega (arith, least, deep, le))

pub loop-k-preserved : goal.loop-k-preserved
loop-k-preserved t c =
    let d = c.args.self.now.draft in
    let lt : c.loop-k.k < length (by_value (body_of c.own_body-body.result.now)) = omega (arith, c.value_count-k-end.ensures) in
    elim c.match-own_index.branch [
      | in-Some-own_index+else-budget-eq0+else-found-budget w ↦
          let j = w.in-Some-own_index.j in
          let found = w.match-get-2.found in
          let marks = w.match-get-2.marks in
          let is : IsReach d j found =
          elim w.match-get-2.branch [
            | in-Some-get v ↦ rw v.found-is (c.loop-k.invariant.knows.right j v.in-Some-get.known (w.get-in-Some-own_index.ensures ∙ v.in-Some-get.is))
            | in-None-get+in_ok-found-in-None-get v ↦ rw v.found-is (rw (v.in_ok-found-in-None-get.was) at v.reach.ensures.answer).reach
          ] in
          let room : count_of d ≤ length marks =
          elim w.match-get-2.branch [
            | in-Some-get v ↦ rw v.marks-is c.loop-k.invariant.room
            | in-None-get+in_ok-found-in-None-get v ↦ rw v.marks-is v.reach.ensures.room
          ] in
          let knows : Knows d marks =
          elim w.match-get-2.branch [
            | in-Some-get v ↦ rw v.marks-is c.loop-k.invariant.knows
            | in-None-get+in_ok-found-in-None-get v ↦ rw v.marks-is v.reach.ensures.knows
          ] in
          let grows : (k : ℕ) → IsKnown c.loop-k.marks k → IsKnown marks k =
          elim w.match-get-2.branch [
            | in-Some-get v ↦ rw v.marks-is (λ k h. h)
            | in-None-get+in_ok-found-in-None-get v ↦ rw v.marks-is v.reach.ensures.grows
          ] in
          let known : IsKnown marks j =
          elim w.match-get-2.branch [
            | in-Some-get v ↦ rw v.marks-is (ap is_some (w.get-in-Some-own_index.ensures ∙ v.in-Some-get.is))
            | in-None-get+in_ok-found-in-None-get v ↦ rw v.marks-is (rw (v.in_ok-found-in-None-get.was) at v.reach.ensures.known)
          ] in
          let short = w.if-found-budget.false in
          let deeper : c.longer-depth.result ≡ max c.loop-k.depth (found.depth + 1) = c.longer-depth.ensures ∙ ap (λ r. max c.loop-k.depth r.depth) w.below-is in
          record {
            room = rw w.marks-is room;
            knows = rw w.marks-is knows;
            grows = rw w.marks-is (λ k h. grows k (c.loop-k.invariant.grows k h));
            below = rw w.marks-is (below_named d c.args.i (body_of c.own_body-body.result.now) c.own_body-body.ensures c.loop-k.k c.value_type-number.result.0 lt c.value_type-number.ensures c.own_index.result c.own_index.ensures j marks w.in-Some-own_index.is known (below_grows d c.loop-k.marks marks grows (take c.loop-k.k (by_value (own_body (content d) c.args.i))) c.loop-k.invariant.below));
            longest = longer_by d c.args.i (body_of c.own_body-body.result.now) c.own_body-body.ensures c.loop-k.k c.value_type-number.result.0 lt c.value_type-number.ensures c.own_index.result c.own_index.ensures c.loop-k.depth c.longer-depth.result j found w.in-Some-own_index.is is deeper c.loop-k.invariant.longest;
            affordable = omega (arith, short, deeper, c.loop-k.invariant.affordable);
            aligned = aligned_more d c.args.i (body_of c.own_body-body.result.now) c.own_body-body.ensures c.loop-k.k c.value_type-number.result.0 lt c.value_type-number.ensures c.own_index.result c.own_index.ensures c.loop-k.align c.match-own_index.below.align c.beside-align.result c.aligned_by-counting.result c.aligned_by-counting.ensures c.loop-k.invariant.aligned
                (ap (λ r. r.align) w.below-is ∙ named_is d c.value_type-number.result.0 j found (sym c.own_index.ensures ∙ w.in-Some-own_index.is) is) c.beside-align.ensures;
          }
      | in-None w ↦
          let deeper : c.longer-depth.result ≡ max c.loop-k.depth 0 = c.longer-depth.ensures ∙ ap (λ r. max c.loop-k.depth r.depth) w.below-is in
          record {
            room = rw w.marks-is c.loop-k.invariant.room;
            knows = rw w.marks-is c.loop-k.invariant.knows;
            grows = rw w.marks-is c.loop-k.invariant.grows;
            below = rw w.marks-is (below_unnamed d c.args.i (body_of c.own_body-body.result.now) c.own_body-body.ensures c.loop-k.k c.value_type-number.result.0 lt c.value_type-number.ensures c.own_index.result c.own_index.ensures c.loop-k.marks w.in-None.is c.loop-k.invariant.below);
            longest = longer_none d c.args.i (body_of c.own_body-body.result.now) c.own_body-body.ensures c.loop-k.k c.value_type-number.result.0 lt c.value_type-number.ensures c.own_index.result c.own_index.ensures c.loop-k.depth c.longer-depth.result w.in-None.is deeper c.loop-k.invariant.longest;
            affordable = omega (arith, deeper, c.loop-k.invariant.affordable);
            aligned = aligned_more d c.args.i (body_of c.own_body-body.result.now) c.own_body-body.ensures c.loop-k.k c.value_type-number.result.0 lt c.value_type-number.ensures c.own_index.result c.own_index.ensures c.loop-k.align c.match-own_index.below.align c.beside-align.result c.aligned_by-counting.result c.aligned_by-counting.ensures c.loop-k.invariant.aligned
                (ap (λ r. r.align) w.below-is ∙ elsewhere_is d c.value_type-number.result.0 w.align_elsewhere.result w.align_elsewhere.ensures) c.beside-align.ensures;
          }
    ]
