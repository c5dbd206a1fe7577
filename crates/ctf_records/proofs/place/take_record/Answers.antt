use Rattle.std.proofs.Common.{◌≡◌, List, ℕ, Some, length, arith, subst, sym}
use Rattle.ctf_model.proofs.Walk.{front_len_range}
use Rattle.ctf_model.specs.format.Section.{front_len}
use Rattle.ctf_records.proofs.Whole.{taken_whole, whole_facts}
use Rattle.ctf_records.proofs.place.take_record.Goals as goal

pub split_at-requires : goal.split_at-requires
split_at-requires c = (front_len_range c.args.rest.now c.args.len c.requires.whole).1

pub invariant_of-result : goal.invariant_of-result
invariant_of-result c =
    let cut = subst (λ (b : List ℕ). front_len b ≡ Some (length b)) (sym c.split_at.ensures.front) (taken_whole c.args.rest.now c.args.len c.requires.whole) in
    let w = whole_facts c.split_at.result.0.now cut in
    let more = (front_len_range c.args.rest.now c.args.len c.requires.whole).0 in
    record {
      is_whole = cut;
      has_head = w.has_head;
      head_inside = w.head_inside;
      is_known = w.is_known;
      is_near = omega (arith, more, c.requires.near);
    }
