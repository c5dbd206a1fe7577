use Rattle.std.proofs.Common.{◌+◌, ◌++◌, List, drop, take, ap, sym, ◌∙◌, Some}
use Rattle.std.proofs.lemmas.List.{take_all, take_more}
use Rattle.std.specs.Option.{option_map}
use Rattle.ctf_json.specs.Values.{number_data, numbers_data}
use Rattle.ctf_protocol.specs.lines.AskAdditions.{type_listed, types_listed}
use Rattle.ctf_model.specs.declared.numbers.TypeNum.{TypeNum}
use Rattle.ctf_lines.proofs.SaidItems.{next_said, all_said}
use Rattle.ctf_lines.proofs.additions.are_listed.Goals as goal

pub loop-number-preserved : goal.loop-number-preserved
loop-number-preserved c =
    let l = c.loop-number in
    let all = c.args.numbers.now in
    next_said number_data type_listed all l.number-index _ (take l.number-index all) _ c.loop-number-test.true c.is_listed.ensures l.invariant
    ∙ ap (λ (types : List TypeNum). option_map (λ more. types ++ more) (types_listed (numbers_data (drop (l.number-index + 1) all)))) (sym (take_more all l.number-index _ c.loop-number-test.true))

pub returns : goal.returns
returns c =
    let l = c.loop-number in
    let all = c.args.numbers.now in
    all_said number_data type_listed all l.number-index (take l.number-index all) c.loop-number-test.false l.invariant
    ∙ ap (λ (types : List TypeNum). Some types) (take_all l.number-index all c.loop-number-test.false)
