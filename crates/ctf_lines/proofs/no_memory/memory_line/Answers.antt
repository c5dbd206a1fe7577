use Rattle.std.proofs.Common.{◌++◌, take, codes, decimal, List, ℕ, ap, ◌∙◌, arith}
use Rattle.ctf_lines.proofs.MemoryLine.{memory_text, same_later}
use Rattle.ctf_lines.proofs.no_memory.memory_line.Goals as goal

pub returns-clause-line : goal.returns-clause-line
returns-clause-line c =
    let digits = c.as_bytes.ensures.value ∙ c.format.ensures.text in
    let front = c.put_at-end-2.ensures.front ∙ ap (λ (x : List ℕ). take c.put_at-end.result c.put_at-end.new.buffer ++ x) digits in
    c.put_at.ensures.front ∙ ap (λ (x : List ℕ). x ++ codes "}\n") (front ∙ ap (λ (x : List ℕ). x ++ decimal c.args.session) c.put_at-end.ensures.front) ∙ memory_text c.args.session

pub returns-clause-rest : goal.returns-clause-rest
returns-clause-rest c =
    let b = c.put_at-end-2.ensures.end in
    let d = c.put_at.ensures.end in
    c.put_at.ensures.rest
    ∙ same_later c.put_at-end-2.result c.put_at.result _ _ (omega (arith, d)) c.put_at-end-2.ensures.rest
    ∙ same_later c.put_at-end.result c.put_at.result _ _ (omega (arith, b, d)) c.put_at-end.ensures.rest
