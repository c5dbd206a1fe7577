use Rattle.std.proofs.Common.{◌≡◌, ◌+◌, ◌++◌, ◌<◌, ◌∷◌, length, arith, append_assoc}
use Rattle.std.specs.List.{flat_map}
use Rattle.ctf_names.specs.Marks.{front, text_before, right, declarator, marked_text}
use Rattle.ctf_names.specs.Bases.{base_text}
use Rattle.ctf_names.proofs.MarkedText.{with_length, text_bare, text_with, lefts_length}
use Rattle.ctf_names.proofs.spelling.put_text.Goals as goal

pub put-requires : goal.put-requires
put-requires c =
    let some : 0 < length (flat_map text_before c.args.marks.now) + length (flat_map right c.args.marks.now) = omega (arith, c.if-plus_rights-ne0.true) in
    let all = with_length c.args.marks.now (base_text c.args.base) some in
    omega (arith, all)

pub put_lefts-requires : goal.put_lefts-requires
put_lefts-requires c =
    let some : 0 < length (flat_map text_before c.args.marks.now) + length (flat_map right c.args.marks.now) = omega (arith, c.if-plus_rights-ne0.true) in
    let all = with_length c.args.marks.now (base_text c.args.base) some in
    let back = lefts_length c.args.marks.now in
    omega (arith, all, back)

pub put_rights-requires : goal.put_rights-requires
put_rights-requires c =
    let some : 0 < length (flat_map text_before c.args.marks.now) + length (flat_map right c.args.marks.now) = omega (arith, c.if-plus_rights-ne0.true) in
    let all = with_length c.args.marks.now (base_text c.args.base) some in
    let back = lefts_length c.args.marks.now in
    omega (arith, all, back)

pub returns-then-plus_rights-ne0 : goal.returns-then-plus_rights-ne0
returns-then-plus_rights-ne0 c =
    let some : 0 < length (flat_map text_before c.args.marks.now) + length (flat_map right c.args.marks.now) = omega (arith, c.if-plus_rights-ne0.true) in
    let all : marked_text c.args.marks.now (base_text c.args.base) ≡ flat_map front c.args.marks.now ++ (base_text c.args.base ++ 32 ∷ declarator c.args.marks.now) = text_with c.args.marks.now (base_text c.args.base) some in
    rw all (rw (c.put_rights.ensures.items, c.put_lefts.ensures.items, c.put.ensures.items, c.put_base.ensures.items, c.put_fronts.ensures.items) (simp append_assoc))

pub returns-else-plus_rights-ne0 : goal.returns-else-plus_rights-ne0
returns-else-plus_rights-ne0 c =
    let none : length (flat_map text_before c.args.marks.now) + length (flat_map right c.args.marks.now) ≡ 0 = omega (arith, c.if-plus_rights-ne0.false) in
    let all : marked_text c.args.marks.now (base_text c.args.base) ≡ flat_map front c.args.marks.now ++ base_text c.args.base = text_bare c.args.marks.now (base_text c.args.base) none in
    rw all (rw (c.put_base.ensures.items, c.put_fronts.ensures.items) (simp append_assoc))
