use Rattle.std.proofs.Common.{◌≡◌, ◌∷◌, ◌++◌, [], None, is_some, false, cond, sym, ap, ◌∙◌, subst, arith, rules}
use Rattle.json.specs.Json.{after_end_array}
use Rattle.json.specs.Reads.{token_of}
use Rattle.json.proofs.Grammar.{value_is}
use Rattle.serde_json.specs.Data.{array, null}
use Rattle.ctf_json.specs.Passed.{begun, tokens_behind, passed_value}
use Rattle.ctf_json.specs.TreeData.{in_range, tree_data, items_data}
use Rattle.ctf_json.specs.Values.{is_small, number_data}
use Rattle.ctf_json.proofs.Listed.{SoFar, number_is, small_test, all_read, nothing_yet, one_more_read, other, refused_here, refused_later}
use Rattle.ctf_json.proofs.lists.numbers_at.Goals as goal

pub loop-reader-init : goal.loop-reader-init
loop-reader-init c = nothing_yet is_small small_test number_data c.args.depth c.args.reader.now c.new-numbers.result.items c.new-numbers.ensures.items

pub returns-in_err-token-clause-refused : goal.returns-in_err-token-clause-refused
returns-in_err-token-clause-refused c is =
    let l = c.loop-reader in
    let going : (after_end_array l.reader ≡ None) × (c.take_end_array.new.self ≡ l.reader) = grind arith in
    let empty : c.take_end_array.new.self ≡ [] = grind arith in
    let none : passed_value c.args.depth l.reader ≡ None = ap (passed_value c.args.depth) (sym going.1 ∙ empty) ∙ ap (tokens_behind in_range) (value_is c.args.depth []) in
    refused_here is_small small_test number_data c.args.depth c.args.reader.now l.reader l.numbers.items l.invariant going.0 none

pub returns-in_err-pass_from-clause-refused : goal.returns-in_err-pass_from-clause-refused
returns-in_err-pass_from-clause-refused c is =
    let l = c.loop-reader in
    let going : (after_end_array l.reader ≡ None) × (c.take_end_array.new.self ≡ l.reader) = grind arith in
    let first : c.take_end_array.new.self ≡ token_of c.in_ok-token.token ∷ c.next_item.new.self = grind arith in
    let failed : passed_value c.args.depth (token_of c.in_ok-token.token ∷ c.next_item.new.self) ≡ None = c.in_err-pass_from.ensures.passed in
    refused_here is_small small_test number_data c.args.depth c.args.reader.now l.reader l.numbers.items l.invariant going.0 (ap (passed_value c.args.depth) (sym going.1 ∙ first) ∙ failed)

pub returns-in_err-pass_items-clause-refused : goal.returns-in_err-pass_items-clause-refused
returns-in_err-pass_items-clause-refused c is =
    let l = c.loop-reader in
    let going : (after_end_array l.reader ≡ None) × (c.take_end_array.new.self ≡ l.reader) = grind arith in
    let first : c.take_end_array.new.self ≡ token_of c.in_ok-token.token ∷ c.next_item.new.self = grind arith in
    refused_later is_small small_test number_data c.args.depth c.args.reader.now l.reader l.numbers.items (token_of c.in_ok-token.token) c.next_item.new.self c.pass_from.new.reader l.invariant going.0 (sym going.1 ∙ first) c.in_ok-pass_from.ensures.passed c.in_err-pass_items.ensures.passed

pub returns-in_default-clause-ok : goal.returns-in_default-clause-ok
returns-in_default-clause-ok c =
    let l = c.loop-reader in
    let t = token_of c.in_ok-token.token in
    let going : (after_end_array l.reader ≡ None) × (c.take_end_array.new.self ≡ l.reader) = grind arith in
    let first : c.take_end_array.new.self ≡ t ∷ c.next_item.new.self = grind arith in
    let not : is_small (tree_data (begun t)) ≡ false = ap is_some (sym c.in_default.ensures) in
    let o = other is_small small_test number_data c.args.depth c.args.reader.now l.reader l.numbers.items t c.next_item.new.self c.pass_from.new.reader c.pass_items.new.reader l.invariant going.0 (sym going.1 ∙ first) c.in_ok-pass_from.ensures.passed not c.in_ok-pass_items.ensures.passed in
    (o.0, o.1, o.2, ap (λ b. cond b (array (items_data o.0)) null) o.3)

pub loop-reader-preserved : goal.loop-reader-preserved
loop-reader-preserved c =
    let l = c.loop-reader in
    let t = token_of c.in_ok-token.token in
    let going : (after_end_array l.reader ≡ None) × (c.take_end_array.new.self ≡ l.reader) = grind arith in
    let first : c.take_end_array.new.self ≡ t ∷ c.next_item.new.self = grind arith in
    let x = c.in-Some.number in
    let is = number_is (tree_data (begun t)) c.in-Some.number c.in-Some.ensures in
    let pushed : c.push.new.self.items ≡ l.numbers.items ++ x ∷ [] = search rules in
    subst (λ xs. SoFar is_small small_test number_data c.args.depth c.args.reader.now xs c.next_item.new.self) (sym pushed)
    (one_more_read is_small small_test number_data c.args.depth c.args.reader.now l.reader l.numbers.items x t c.next_item.new.self l.invariant going.0 (sym going.1 ∙ first) is.0 is.1)

pub returns-clause-ok : goal.returns-clause-ok
returns-clause-ok c =
    let l = c.loop-reader in
    let a = all_read is_small small_test number_data c.args.depth c.args.reader.now l.reader c.take_end_array.new.self l.numbers.items l.invariant (grind arith) in
    (a.0, a.1, a.2, ap (λ b. cond b (array (items_data a.0)) null) a.3 ∙ ap array a.4)
