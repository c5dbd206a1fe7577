use Rattle.std.proofs.Common.{◌≡◌, ◌-◌, length, Some, None, sym, ap, ◌∙◌, arith}
use Rattle.json.specs.Json.{member, no_members, object, read_key, members, value, parse_map}
use Rattle.json.proofs.Grammar.{read_key-shorter, members_end, members_no_key, members_more}
use Rattle.serde_json.specs.Find.{get}
use Rattle.ctf_json.specs.Keys.{place_in, wanted_at}
use Rattle.ctf_json.specs.Kept.{kept_data}
use Rattle.ctf_json.specs.Passed.{tokens_behind}
use Rattle.ctf_json.specs.PlainReader.{IsMember}
use Rattle.ctf_json.specs.TreeData.{in_range, members_in_range, tree_data}
use Rattle.ctf_json.specs.Values.{keys, line_data}
use Rattle.ctf_json.proofs.Alone.{some_read}
use Rattle.ctf_json.proofs.Fronts.{mapped, none_before, one_member_more, then_last, unmoved}
use Rattle.ctf_json.proofs.Kept.{last_kept, not_one, other_kept}
use Rattle.ctf_json.proofs.Left.{all_left, left_key}
use Rattle.ctf_json.proofs.Telling.{get-tree_data}
use Rattle.ctf_json.proofs.Turns.{passed-some, refuse_member, refused_behind}
use Rattle.ctf_json.proofs.reading.members_at.Goals as goal
use Rattle.std.specs.Prelude.{option_map}

pub loop-member-init : goal.loop-member-init
loop-member-init c =
    let old = c.args.reader.now in
    (length old, omega arith, (λ ms. ms), (λ q. None), unmoved (members (value c.args.depth) (length old) old), none_before, omega arith, all_left old, λ new q one. new q)

pub returns-in_err-member-clause-refused : goal.returns-in_err-member-clause-refused
returns-in_err-member-clause-refused c is =
    let p = value c.args.depth in
    let l = c.loop-member in
    let s = l.invariant in
    let old = c.args.reader.now in
    refused_behind members_in_range s.2 s.5.good (members p (length old) old) (members p s.0 l.reader) s.4 (ap (tokens_behind members_in_range) (members_no_key p s.0 l.reader c.in_err-member.ensures.value))

pub returns-in_err-keep_next-clause-refused : goal.returns-in_err-keep_next-clause-refused
returns-in_err-keep_next-clause-refused c is =
    let p = value c.args.depth in
    let l = c.loop-member in
    let s = l.invariant in
    let old = c.args.reader.now in
    let k = c.in-Some.member.0.now in
    let read : IsMember l.reader k c.in-Some.member.1 c.next_member.new.self = some_read _ _ c.in_ok-member.field-0 c.in-Some.member c.in-Some.is c.in_ok-member.ensures.value in
    let ts = read.0 in
    let key = read.1 in
    let refused = c.in_err-keep_next.ensures.refused ts read.2 in
    refused_behind members_in_range s.2 s.5.good (members p (length old) old) (members p s.0 l.reader) s.4 (refuse_member p s.0 k l.reader ts key (grind (arith, refused)))

pub returns-in_err-keep_next-clause-memory : goal.returns-in_err-keep_next-clause-memory
returns-in_err-keep_next-clause-memory c is =
    let l = c.loop-member in
    let k = c.in-Some.member.0.now in
    let read : IsMember l.reader k c.in-Some.member.1 c.next_member.new.self = some_read _ _ c.in_ok-member.field-0 c.in-Some.member c.in-Some.is c.in_ok-member.ensures.value in
    let ts = read.0 in
    let key = read.1 in
    let needed = c.in_err-keep_next.ensures.memory ts read.2 in
    l.invariant.7 (left_key l.reader (Some k) ts key (grind (arith, needed)))

pub returns-in_err-pass_next-clause-refused : goal.returns-in_err-pass_next-clause-refused
returns-in_err-pass_next-clause-refused c is =
    let p = value c.args.depth in
    let l = c.loop-member in
    let s = l.invariant in
    let old = c.args.reader.now in
    let k = c.in-Some.member.0.now in
    let read : IsMember l.reader k c.in-Some.member.1 c.next_member.new.self = some_read _ _ c.in_ok-member.field-0 c.in-Some.member c.in-Some.is c.in_ok-member.ensures.value in
    let ts = read.0 in
    let key = read.1 in
    refused_behind members_in_range s.2 s.5.good (members p (length old) old) (members p s.0 l.reader) s.4 (refuse_member p s.0 k l.reader ts key (c.in_err-pass_next.ensures.passed ts read.2))

pub loop-member-smaller-in-Continue-branch-3 : goal.loop-member-smaller-in-Continue-branch-3
loop-member-smaller-in-Continue-branch-3 c =
    let l = c.loop-member in
    let k = c.in-Some.member.0.now in
    let read : IsMember l.reader k c.in-Some.member.1 c.next_member.new.self = some_read _ _ c.in_ok-member.field-0 c.in-Some.member c.in-Some.is c.in_ok-member.ensures.value in
    let ts = read.0 in
    let key = read.1 in
    let less = read_key-shorter l.reader (Some k) ts key in
    let lesser = c.in_ok-keep_next.ensures.shorter ts read.2 in
    omega (arith, less, lesser)

pub loop-member-preserved-in-Continue-branch-3 : goal.loop-member-preserved-in-Continue-branch-3
loop-member-preserved-in-Continue-branch-3 c =
    let p = value c.args.depth in
    let l = c.loop-member in
    let s = l.invariant in
    let n = s.0 in
    let k = c.in-Some.member.0.now in
    let read : IsMember l.reader k c.in-Some.member.1 c.next_member.new.self = some_read _ _ c.in_ok-member.field-0 c.in-Some.member c.in-Some.is c.in_ok-member.ensures.value in
    let ts = read.0 in
    let key = read.1 in
    let done = c.in_ok-keep_next.ensures in
    let r = c.keep_next.new.reader in
    let less = read_key-shorter l.reader (Some k) ts key in
    let lesser = done.shorter ts read.2 in
    let kept = done.ok ts read.2 in
    let d = kept.0 in
    let j = kept.1 in (
      n - 1,
      omega (arith, s.1, less, lesser),
      (λ ms. s.2 (member k j.0 ms)),
      then_last k j.0 s.3,
      s.4 ∙ ap (parse_map s.2) (members_more p n k l.reader ts r j.0 (omega (arith, s.1, less)) key j.1) ∙ mapped s.2 (member k j.0) (members p (n - 1) r),
      one_member_more s.2 s.3 k j.0 s.5 j.2,
      omega (arith, s.6, less, lesser),
      (λ h. s.7 (left_key l.reader (Some k) ts key (done.left ts read.2 h))),
      λ new q one. kept.2 q ∙ last_kept k q j.0 s.3 d (get q (line_data l.line)) j.3 (s.8 new q one),
    )

pub loop-member-preserved : goal.loop-member-preserved
loop-member-preserved c =
    let p = value c.args.depth in
    let l = c.loop-member in
    let s = l.invariant in
    let n = s.0 in
    let k = c.in-Some.member.0.now in
    let read : IsMember l.reader k c.in-Some.member.1 c.next_member.new.self = some_read _ _ c.in_ok-member.field-0 c.in-Some.member c.in-Some.is c.in_ok-member.ensures.value in
    let ts = read.0 in
    let key = read.1 in
    let r = c.pass_next.new.reader in
    let j = passed-some in_range (p ts) r (c.in_ok-pass_next.ensures.passed ts read.2) in
    let less = read_key-shorter l.reader (Some k) ts key in
    let lesser = c.in_ok-pass_next.ensures.shorter ts read.2 in
    let nowhere : place_in k keys ≡ None = sym c.place_of.ensures.place ∙ grind arith in (
      n - 1,
      omega (arith, s.1, less, lesser),
      (λ ms. s.2 (member k j.0 ms)),
      then_last k j.0 s.3,
      s.4 ∙ ap (parse_map s.2) (members_more p n k l.reader ts r j.0 (omega (arith, s.1, less)) key j.1) ∙ mapped s.2 (member k j.0) (members p (n - 1) r),
      one_member_more s.2 s.3 k j.0 s.5 j.2,
      omega (arith, s.6, less, lesser),
      (λ h. s.7 (left_key l.reader (Some k) ts key (c.in_ok-pass_next.ensures.left ts read.2 h))),
      λ new q one. other_kept k q j.0 s.3 (get q (line_data l.line)) (not_one k keys nowhere) one (s.8 new q one),
    )

pub returns-clause-ok : goal.returns-clause-ok
returns-clause-ok c =
    let p = value c.args.depth in
    let l = c.loop-member in
    let s = l.invariant in
    let r = c.next_member.new.self in
    let ms = s.2 no_members in (
      object ms,
      ap (parse_map object) (s.4 ∙ ap (parse_map s.2) (members_end p s.0 l.reader r s.1 (grind arith))),
      s.5.good no_members,
      λ new q one. s.8 new q one ∙ ap (option_map (kept_data (wanted_at q))) (ap (option_map tree_data) (sym (s.5.last q no_members)) ∙ get-tree_data q (object ms)),
    )
