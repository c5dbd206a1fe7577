use Rattle.std.proofs.Common.{◌≡◌, ◌-◌, ◌∷◌, length, None, refl, sym, ap, ◌∙◌, arith}
use Rattle.json.specs.Json.{array, items, parse_map, value}
use Rattle.json.specs.Token.{Token}
use Rattle.json.proofs.Grammar.{value_is, value-begin_array}
use Rattle.ctf_json.specs.Kept.{list_data}
use Rattle.ctf_json.specs.Passed.{tokens_behind, passed_items, passed_value}
use Rattle.ctf_json.specs.TreeData.{in_range, items_data}
use Rattle.ctf_json.specs.Values.{read_data}
use Rattle.ctf_json.proofs.Turns.{passed-array}
use Rattle.ctf_json.proofs.reading.keep_list.Goals as goal

pub returns-then-depth-eq0-clause-refused : goal.returns-then-depth-eq0-clause-refused
unfolding value
returns-then-depth-eq0-clause-refused c is =
    let none : c.args.depth ≡ 0 = omega arith in
    ap (λ d. passed_value d (Token.begin_array ∷ c.args.reader.now)) none

pub returns-in_err-value-clause-refused : goal.returns-in_err-value-clause-refused
returns-in_err-value-clause-refused c is =
    let d = c.args.depth in
    let ts = c.args.reader.now in
    let failed : passed_items (d - 1) ts ≡ None = grind arith in
    ap (tokens_behind in_range) (value-begin_array d ts (omega arith)) ∙ passed-array (items (value (d - 1)) (length ts) ts) ∙ failed

pub returns-clause-ok : goal.returns-clause-ok
returns-clause-ok c =
    let d = c.args.depth in
    let ts = c.args.reader.now in
    let opened = value-begin_array d ts (omega arith) in
    let found = c.in_ok-value.ensures.ok in (
      read_data c.in_ok-value.value,
      (array found.0, opened ∙ ap (parse_map array) found.1, found.2, ap (λ w. list_data w (items_data found.0)) (sym c.wanted_list.ensures) ∙ found.3),
      λ q. c.keep.ensures q,
    )
