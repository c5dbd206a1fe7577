use Rattle.std.proofs.Common.{ℕ, List, ap, subst, arith}
use Rattle.std.specs.Prelude.{Vec, vec_capacity, vec_len}
use Rattle.std.specs.declared.alloc.Global.{Global}
use Rattle.ctf_answers.specs.Counts.{counts_view}
use Rattle.ctf_protocol.specs.lines.ReplyLines.{answer_line}
use Rattle.ctf_lines.specs.Appending.{Appended}
use Rattle.ctf_lines.proofs.CountTexts.{counts_text, row_short}
use Rattle.ctf_lines.proofs.Walks.{as_text}
use Rattle.ctf_lines.proofs.room.put_counts.Goals as goal

pub with_counts-requires : goal.with_counts-requires
with_counts-requires c =
    let text = counts_text c.from.result c.args.session c.args.counts c.from.ensures in
    let short = row_short _ c.args.session c.args.counts text c.ranges.session.fits in
    let room = c.requires in
    let len = ap (λ (v : Vec ℕ Global). vec_len v) c.replace.ensures.value in
    let capacity = ap (λ (v : Vec ℕ Global). vec_capacity v) c.replace.ensures.value in
    omega (arith, short, room, len, capacity)

pub returns : goal.returns
returns c =
    subst (λ (v : Vec ℕ Global). Appended v c.with_counts.result (answer_line c.args.session (counts_view c.args.counts))) c.replace.ensures.value
    (as_text (λ (old : Vec ℕ Global) (text : List ℕ) (new : Vec ℕ Global). Appended old new text)
    (counts_text c.from.result c.args.session c.args.counts c.from.ensures) c.with_counts.ensures)
