use Rattle.std.proofs.Common.{◌≡◌, ◌-◌, ◌<◌, [], ◌∷◌, length, cond, true, false, is_some, Some, None, sym, ap, ap₂, ◌∙◌, arith}
use Rattle.json.specs.Json.{after_end_array, read_key, items, members, value}
use Rattle.json.specs.Token.{Token}
use Rattle.json.specs.Reads.{token_of}
use Rattle.json.proofs.Grammar.{value_is, value-begin_array, value-begin_object, read_key-shorter, items_end, members_end, members_no_key}
use Rattle.serde_json.specs.Read.{number_of}
use Rattle.ctf_json.specs.TreeData.{in_range, items_in_range, members_in_range}
use Rattle.ctf_json.specs.Passed.{tokens_behind, passed_items, passed_members, passed_value}
use Rattle.ctf_json.proofs.Left.{left_key}
use Rattle.ctf_json.proofs.Turns.{passed-array, passed-object, pass_item, pass_member, refuse_item, refuse_member}
use Rattle.ctf_json.proofs.passing.+pass.Goals as goal

pub pass_items-loop-reader-preserved : goal.pass_items-loop-reader-preserved
pass_items-loop-reader-preserved t c =
    let p = value c.args.depth in
    let l = c.loop-reader in
    let n = l.invariant.0 in
    let going : (after_end_array l.reader ≡ None) × (c.take_end_array.new.self ≡ l.reader) = grind arith in
    let less : length c.pass.new.reader < length l.reader = rw (← going.1) c.in_ok-pass.ensures.shorter in
    (n - 1, omega (arith, l.invariant.1), l.invariant.2 ∙ pass_item p n l.reader _ (omega (arith, l.invariant.1)) going.0 (rw (← going.1) c.in_ok-pass.ensures.passed), omega (arith, l.invariant.3))

pub pass_items-returns-in_err-pass-clause-passed : goal.pass_items-returns-in_err-pass-clause-passed
pass_items-returns-in_err-pass-clause-passed t c =
    let p = value c.args.depth in
    let l = c.loop-reader in
    let n = l.invariant.0 in
    let going : (after_end_array l.reader ≡ None) × (c.take_end_array.new.self ≡ l.reader) = grind arith in
    let none = l.invariant.2 ∙ refuse_item p n l.reader going.0 (rw (← going.1) c.in_err-pass.ensures.passed) in
    grind (arith, none)

pub pass_items-returns-clause-passed : goal.pass_items-returns-clause-passed
pass_items-returns-clause-passed t c =
    let p = value c.args.depth in
    let l = c.loop-reader in
    l.invariant.2 ∙ ap (tokens_behind items_in_range) (items_end p l.invariant.0 l.reader c.take_end_array.new.self l.invariant.1 (grind arith))

pub pass_members-returns-in_err-next_key-clause-passed : goal.pass_members-returns-in_err-next_key-clause-passed
pass_members-returns-in_err-next_key-clause-passed t c =
    let p = value c.args.depth in
    let l = c.loop-reader in
    let none = l.invariant.2 ∙ ap (tokens_behind members_in_range) (members_no_key p l.invariant.0 l.reader c.in_err-next_key.ensures.value) in
    grind (arith, none)

pub pass_members-loop-reader-preserved : goal.pass_members-loop-reader-preserved
pass_members-loop-reader-preserved t c =
    let p = value c.args.depth in
    let l = c.loop-reader in
    let n = l.invariant.0 in
    let k = c.in-Some.field-0.now in
    let s = c.next_key.new.self in
    let key : read_key l.reader ≡ Some (Some k, s) = grind arith in
    let less = read_key-shorter l.reader (Some k) s key in
    let lesser = c.in_ok-pass.ensures.shorter in (
      n - 1,
      omega (arith, l.invariant.1),
      l.invariant.2 ∙ pass_member p n k l.reader s _ (omega (arith, l.invariant.1)) key c.in_ok-pass.ensures.passed,
      omega (arith, l.invariant.3),
      λ h. l.invariant.4 (left_key l.reader (Some k) s key (c.in_ok-pass.ensures.left h)),
    )

pub pass_members-returns-in_err-pass-clause-passed : goal.pass_members-returns-in_err-pass-clause-passed
pass_members-returns-in_err-pass-clause-passed t c =
    let p = value c.args.depth in
    let l = c.loop-reader in
    let k = c.in-Some.field-0.now in
    let s = c.next_key.new.self in
    let key : read_key l.reader ≡ Some (Some k, s) = grind arith in
    let none = l.invariant.2 ∙ refuse_member p l.invariant.0 k l.reader s key c.in_err-pass.ensures.passed in
    grind (arith, none)

pub pass_members-returns-clause-passed : goal.pass_members-returns-clause-passed
pass_members-returns-clause-passed t c =
    let p = value c.args.depth in
    let l = c.loop-reader in
    l.invariant.2 ∙ ap (tokens_behind members_in_range) (members_end p l.invariant.0 l.reader c.next_key.new.self l.invariant.1 (grind arith))

pub pass-returns-then-take_array-clause-passed : goal.pass-returns-then-take_array-clause-passed
pass-returns-then-take_array-clause-passed t c =
    let same = ap (passed_value c.args.depth) c.if-take_array.ensures in
    rw same c.pass_from.ensures.passed

pub pass-returns-in_err-token-clause-passed : goal.pass-returns-in_err-token-clause-passed
pass-returns-in_err-token-clause-passed t c =
    let empty : c.args.reader.now ≡ [] = grind arith in
    let none : passed_value c.args.depth c.args.reader.now ≡ None = ap (passed_value c.args.depth) empty ∙ ap (tokens_behind in_range) (value_is c.args.depth []) in
    grind (arith, none)

pub pass_from-returns-in-Null-clause-passed : goal.pass_from-returns-in-Null-clause-passed
pass_from-returns-in-Null-clause-passed t c = rw (value_is c.args.depth (token_of c.args.token ∷ c.args.reader.now)) (grind arith)

pub pass_from-returns-then-has_value-clause-passed : goal.pass_from-returns-then-has_value-clause-passed
pass_from-returns-then-has_value-clause-passed t c =
    let r = c.args.reader.now in
    let has : is_some (number_of c.in-Number.text.now) ≡ true = sym c.has_value.ensures ∙ c.if-has_value.true in
    ap (λ k. passed_value c.args.depth (token_of k ∷ r)) c.in-Number.is ∙ ap (tokens_behind in_range) (value_is c.args.depth (Token.number c.in-Number.text.now ∷ r)) ∙ ap (λ b. cond b (Some r) None) has

pub pass_from-returns-else-has_value-clause-passed : goal.pass_from-returns-else-has_value-clause-passed
pass_from-returns-else-has_value-clause-passed t c =
    let r = c.args.reader.now in
    let has : is_some (number_of c.in-Number.text.now) ≡ false = sym c.has_value.ensures ∙ c.if-has_value.false in
    ap (λ k. passed_value c.args.depth (token_of k ∷ r)) c.in-Number.is ∙ ap (tokens_behind in_range) (value_is c.args.depth (Token.number c.in-Number.text.now ∷ r)) ∙ ap (λ b. cond b (Some r) None) has

pub pass_from-returns-then-depth-eq0-clause-passed : goal.pass_from-returns-then-depth-eq0-clause-passed
unfolding value
pass_from-returns-then-depth-eq0-clause-passed t c =
    let none : c.args.depth ≡ 0 = omega arith in
    ap₂ passed_value none (ap (λ k. token_of k ∷ c.args.reader.now) c.in-BeginArray.is)

pub pass_from-returns-else-depth-eq0-clause-passed : goal.pass_from-returns-else-depth-eq0-clause-passed
pass_from-returns-else-depth-eq0-clause-passed t c =
    let r = c.args.reader.now in
    let same : passed_value c.args.depth (token_of c.args.token ∷ r) ≡ passed_items (c.args.depth - 1) r =
    ap (λ k. passed_value c.args.depth (token_of k ∷ r)) c.in-BeginArray.is ∙ ap (tokens_behind in_range) (value-begin_array c.args.depth r (omega arith)) ∙ passed-array (items (value (c.args.depth - 1)) (length r) r) in
    rw same c.pass_items.ensures.passed

pub pass_from-returns-then-depth-eq0-2-clause-passed : goal.pass_from-returns-then-depth-eq0-2-clause-passed
unfolding value
pass_from-returns-then-depth-eq0-2-clause-passed t c =
    let none : c.args.depth ≡ 0 = omega arith in
    ap₂ passed_value none (ap (λ k. token_of k ∷ c.args.reader.now) c.in-BeginObject.is)

pub pass_from-returns-else-depth-eq0-2-clause-passed : goal.pass_from-returns-else-depth-eq0-2-clause-passed
pass_from-returns-else-depth-eq0-2-clause-passed t c =
    let r = c.args.reader.now in
    let same : passed_value c.args.depth (token_of c.args.token ∷ r) ≡ passed_members (c.args.depth - 1) r =
    ap (λ k. passed_value c.args.depth (token_of k ∷ r)) c.in-BeginObject.is ∙ ap (tokens_behind in_range) (value-begin_object c.args.depth r (omega arith)) ∙ passed-object (members (value (c.args.depth - 1)) (length r) r) in
    rw same c.pass_members.ensures.passed

pub pass_from-returns-in-EndObject-clause-passed : goal.pass_from-returns-in-EndObject-clause-passed
pass_from-returns-in-EndObject-clause-passed t c = rw (value_is c.args.depth (token_of c.args.token ∷ c.args.reader.now)) (grind arith)
