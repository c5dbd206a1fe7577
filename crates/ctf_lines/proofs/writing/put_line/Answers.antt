use Rattle.std.specs.Prelude.{decimal}
use Rattle.std.proofs.Common.{ℕ, List, ◌++◌, ap, codes, map, append_assoc}
use Rattle.ctf_model.specs.dumps.Texts.{with_commas}
use Rattle.ctf_protocol.specs.lines.ReplyLines.{field_text}
use Rattle.ctf_lines.proofs.Walks.{as_text}
use Rattle.ctf_lines.proofs.writing.put_line.Goals as goal

pub returns : goal.returns
returns g c =
    let join = g.met.P.TextSink.joined in
    let Took = g.P.TextSink.Took in
    let under = as_text Took (ap (λ (t : List ℕ). codes "{\"" ++ (t ++ codes "\":{")) c.as_bytes.ensures.value) c.put_between.ensures in
    let session = as_text Took (ap (λ (n : ℕ). codes "},\"s\":" ++ (decimal n ++ codes "}\n")) c.from.ensures) c.put_numbered.ensures in
    let fields = with_commas (map field_text c.args.fields.now) in
    let end = codes "},\"s\":" ++ (decimal c.args.session ++ codes "}\n") in
    let text = append_assoc c.args.under.now (codes "\":{") (fields ++ end) in
    as_text Took (ap (λ (t : List ℕ). codes "{\"" ++ t) text)
    (join _ _ _ _ _ under (join _ _ _ _ _ c.put_fields.ensures session))
