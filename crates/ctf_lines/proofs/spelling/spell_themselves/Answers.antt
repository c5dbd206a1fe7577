use Rattle.std.proofs.Common.{◌≡◌, ◌+◌, ◌≤◌, ◌++◌, [], ◌∷◌, List, ℕ, Some, get_or, length, true, drop, take, arith, ap, sym, ◌∙◌}
use Rattle.std.proofs.lemmas.List.{take_all, take_more}
use Rattle.std.specs.Prelude.{option_and_then}
use Rattle.std.specs.Option.{option_map}
use Rattle.ctf_joined.specs.Joined.{texts}
use Rattle.ctf_json.specs.Values.{text_data, texts_data}
use Rattle.ctf_protocol.specs.lines.LineFields.{name_spelled, names_spelled, not_too_many}
use Rattle.ctf_protocol.specs.lines.Text.{bytes_spelled_by}
use Rattle.ctf_lines.proofs.Pushed.{short_more, short_of, spelled_short}
use Rattle.ctf_lines.proofs.SaidItems.{next_said, all_said}
use Rattle.ctf_lines.proofs.spelling.spell_themselves.Goals as goal

pub loop-place-preserved : goal.loop-place-preserved
loop-place-preserved c =
    let l = c.loop-place in
    let all = texts c.args.names.now in
    let one = get_or all l.place [] in
    let yes : c.spells_itself.result ≡ true = grind arith in
    let said : Some one ≡ option_and_then not_too_many (bytes_spelled_by one) = ap Some (sym c.text.ensures) ∙ c.spells_itself.ensures yes ∙ ap (λ t. option_and_then not_too_many (bytes_spelled_by t)) c.text.ensures in
    let next = next_said text_data name_spelled all l.place [] (take l.place all) one (grind arith) said l.invariant.spelled in
    let more = take_more all l.place [] (grind arith) in
    record {
      spelled = next ∙ ap (λ (names : List (List ℕ)). option_map (λ more. names ++ more) (names_spelled (texts_data (drop (l.place + 1) all)))) (sym more);
      short = short_of (take (l.place + 1) all) (take l.place all ++ one ∷ []) more (short_more (take l.place all) one l.invariant.short (spelled_short one (bytes_spelled_by one) said));
    }

pub returns : goal.returns
returns c =
    let l = c.loop-place in
    let all = texts c.args.names.now in
    let end : length all ≤ l.place = grind arith in
    let whole = take_all l.place all end in
    record {
      spelled = λ _. all_said text_data name_spelled all l.place (take l.place all) end l.invariant.spelled ∙ ap Some whole;
      short = λ _. short_of all (take l.place all) (sym whole) l.invariant.short;
    }
