use Rattle.std.proofs.Common.{◌≡◌, ◌+◌, ◌++◌, List, [], ◌∷◌, ℕ, None, Some, cond, true, false, drop, arith, ap, sym, ◌∙◌}
use Rattle.std.specs.Prelude.{option_and_then}
use Rattle.std.specs.Option.{option_map}
use Rattle.ctf_joined.specs.Joined.{texts}
use Rattle.ctf_json.specs.Values.{text_data, texts_data}
use Rattle.ctf_protocol.specs.lines.LineFields.{name_spelled, names_spelled, not_too_many, not_too_many_names}
use Rattle.ctf_protocol.specs.lines.Text.{bytes_spelled_by}
use Rattle.ctf_lines.proofs.Pushed.{none_pushed, pushed, short_more, short_of}
use Rattle.ctf_lines.proofs.SaidItems.{next_said, none_said, all_said}
use Rattle.ctf_lines.proofs.spelling.escaped_names.Goals as goal

pub returns-then-not-branch : goal.returns-then-not-branch
returns-then-not-branch c =
    let l = c.loop-place in
    let old = texts l.names in
    let bad : c.in_ok-push_spelled.field-0 ≡ false = grind (arith, c.if-not-branch.true) in
    let said = sym (ap (λ b. cond b (Some (texts c.push_spelled.new.names)) None) bad) ∙ c.in_ok-push_spelled.ensures in
    let none = none_pushed old (option_and_then not_too_many (bytes_spelled_by c.text.result.now)) said in
    ap (option_and_then not_too_many_names) (none_said text_data name_spelled (texts c.args.spelled.now) l.place [] old (grind arith) (none ∙ ap (λ t. option_and_then not_too_many (bytes_spelled_by t)) c.text.ensures) l.invariant.spelled)

pub loop-place-preserved : goal.loop-place-preserved
loop-place-preserved c =
    let l = c.loop-place in
    let old = texts l.names in
    let good : c.in_ok-push_spelled.field-0 ≡ true = grind (arith, c.if-not-branch.false) in
    let said = sym (ap (λ b. cond b (Some (texts c.push_spelled.new.names)) None) good) ∙ c.in_ok-push_spelled.ensures in
    let p = pushed old (texts c.push_spelled.new.names) (bytes_spelled_by c.text.result.now) said in
    let next = next_said text_data name_spelled (texts c.args.spelled.now) l.place [] old p.0 (grind arith) (p.1 ∙ ap (λ t. option_and_then not_too_many (bytes_spelled_by t)) c.text.ensures) l.invariant.spelled in
    record {
      spelled = next ∙ ap (λ (names : List (List ℕ)). option_map (λ more. names ++ more) (names_spelled (texts_data (drop (l.place + 1) (texts c.args.spelled.now))))) (sym p.2);
      short = short_of (texts c.push_spelled.new.names) (old ++ p.0 ∷ []) p.2 (short_more old p.0 l.invariant.short p.3);
    }

pub returns : goal.returns
returns c =
    let l = c.loop-place in
    let all = all_said text_data name_spelled (texts c.args.spelled.now) l.place (texts l.names) (grind arith) l.invariant.spelled in
    c.short_list.ensures ∙ sym (ap (option_and_then not_too_many_names) all)
