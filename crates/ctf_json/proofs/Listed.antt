-- Lists of wanted items, one item at a time.
use Rattle.std.proofs.Common.{◌≡◌, ℕ, zero, suc, ◌-◌, ◌<◌, ◌≤◌, List, [], ◌∷◌, ◌++◌, length, nat_le, Bool, true, false, ◌&&◌, cond, is_some, Option, Some, None, option_map, option_and_then, refl, sym, ap, ◌∙◌, subst, arith}
use Rattle.std.specs.Prelude.{if◌then◌else◌}
use Rattle.json.specs.Token.{Token}
use Rattle.json.specs.Json as json
use Rattle.json.specs.Json.{Json, Items, item, items, items_step, value, Parse, parse_map, after_end_array}
use Rattle.json.proofs.Grammar.{items_end, items_more, value_is, skip_value-shorter}
use Rattle.serde_json.specs.Data as tree
use Rattle.serde_json.specs.Data.{Num, Data, unsigned}
use Rattle.serde_json.specs.Find.{as_str}
use Rattle.ctf_model.specs.declared.numbers.TypeNum.{TypeNum}
use Rattle.ctf_json.specs.TreeData.{tree_data, items_data, in_range, items_in_range}
use Rattle.ctf_json.specs.Passed.{begun, tokens_behind, passed_items, passed_value}
use Rattle.ctf_json.specs.Values.{are, front, is_small, is_text, number_data, small}
use Rattle.ctf_json.proofs.Begun.{IsPlainTest, passed-plain, single, test-plain}
use Rattle.ctf_json.proofs.Fronts.{Fronts, mapped, no_front, one_more, unmoved}
use Rattle.ctf_json.proofs.Turns.{IsNone, passed-some, refuse_item, refused_behind}

-- ---- more turns than needed

module _ (p : Parse Json) (empty : p [] ≡ None) (shorter : (ts : List Token) (q : Json × List Token) → p ts ≡ Some q → length q.1 < length ts) where
  no_items_left : (n : ℕ) (ts : List Token) → length ts ≤ 0 → items p n ts ≡ None
  unfolding items
  no_items_left zero ts h = refl
  no_items_left (suc n) [] h = ap (option_and_then (λ q. parse_map (item q.0) (items p n q.1))) empty
  no_items_left (suc n) (t ∷ ts) h = absurd (omega arith)

  step_same : (f g : Parse Items) (ts : List Token) (o : Option (List Token)) (r : Option (Json × List Token)) → p ts ≡ r → ((q : Json × List Token) → p ts ≡ Some q → f q.1 ≡ g q.1) → items_step p f ts o ≡ items_step p g ts o
  step_same f g ts (Some rest) r is same = refl
  step_same f g ts None None is same = ap (option_and_then (λ q. parse_map (item q.0) (f q.1))) is ∙ sym (ap (option_and_then (λ q. parse_map (item q.0) (g q.1))) is)
  step_same f g ts None (Some q) is same =
      ap (option_and_then (λ q. parse_map (item q.0) (f q.1))) is ∙ ap (parse_map (item q.0)) (same q is) ∙ sym (ap (option_and_then (λ q. parse_map (item q.0) (g q.1))) is)

  pub enough : (n m : ℕ) (ts : List Token) → length ts ≤ n → length ts ≤ m → items p n ts ≡ items p m ts
  unfolding items
  enough zero m ts h k = sym (no_items_left m ts h)
  enough (suc n) zero ts h k = no_items_left (suc n) ts k
  enough (suc n) (suc m) ts h k =
      step_same (items p n) (items p m) ts (after_end_array ts) (p ts) refl (λ q e. let less = shorter ts q e in enough n m q.1 (omega (arith, less, h)) (omega (arith, less, k)))

pub enough_items : (depth n : ℕ) (ts : List Token) → length ts ≤ n → items (value depth) n ts ≡ items (value depth) (length ts) ts
enough_items depth n ts h =
    enough (value depth) (value_is depth []) (λ ts q e. skip_value-shorter depth ts q.1 (ap (option_map (λ r. r.1)) e)) n (length ts) ts h (omega arith)

-- ---- the two tests

pub text_test : IsPlainTest is_text
text_test = record {
  null_not = refl;
  boolean_not = λ b. refl;
  array_not = λ ds. refl;
  object_not = λ ms. refl;
}

pub small_test : IsPlainTest is_small
small_test = record {
  null_not = refl;
  boolean_not = λ b. refl;
  array_not = λ ds. refl;
  object_not = λ ms. refl;
}

abbrev text_or : Option (List ℕ) → List ℕ
text_or None = []
text_or (Some s) = s

abbrev number_or : Option TypeNum → ℕ
number_or None = 0
number_or (Some t) = t.0

pub text_is : (d : Data) (s : List ℕ) → Some s ≡ as_str d → (is_text d ≡ true) × (d ≡ tree.string s)
text_is tree.null s e = absurd (subst IsNone (sym e) tt)
text_is (tree.boolean b) s e = absurd (subst IsNone (sym e) tt)
text_is (tree.number n) s e = absurd (subst IsNone (sym e) tt)
text_is (tree.string r) s e = (refl, ap (λ o. tree.string (text_or o)) (sym e))
text_is (tree.array ds) s e = absurd (subst IsNone (sym e) tt)
text_is (tree.object ms) s e = absurd (subst IsNone (sym e) tt)

small_by : (b : Bool) (m : ℕ) (t : TypeNum) → Some t ≡ (if b then Some (record { 0 = m }) else None) → (b ≡ true) × (m ≡ t.0)
small_by true m n e = (refl, ap number_or (sym e))
small_by false m n e = absurd (subst IsNone (sym e) tt)

pub number_is : (d : Data) (n : TypeNum) → Some n ≡ small d → (is_small d ≡ true) × (d ≡ number_data n)
number_is tree.null n e = absurd (subst IsNone (sym e) tt)
number_is (tree.boolean b) n e = absurd (subst IsNone (sym e) tt)
number_is (tree.number (unsigned m)) n e =
    let is = small_by (nat_le m 65535) m n e in
    (ap is_some (sym e), ap (λ k. tree.number (unsigned k)) is.1)
number_is (tree.number (tree.negative z)) n e = absurd (subst IsNone (sym e) tt)
number_is (tree.number (tree.float x)) n e = absurd (subst IsNone (sym e) tt)
number_is (tree.string r) n e = absurd (subst IsNone (sym e) tt)
number_is (tree.array ds) n e = absurd (subst IsNone (sym e) tt)
number_is (tree.object ms) n e = absurd (subst IsNone (sym e) tt)

refused_by : (a b : Bool) (ts : List Token) → cond b (Some ts) None ≡ None → cond (a && b) (Some ts) None ≡ None
refused_by true b ts e = e
refused_by false b ts e = refl

-- ---- turns

module _ {A : Type 0} (test : Data → Bool) (plain_test : IsPlainTest test) (says : A → Data) (depth : ℕ) where
  -- the items parsed so far, and the remaining tokens
  abbrev pub SoFar : List Token → List A → List Token → Type 0
  SoFar old xs left =
      (n : ℕ) × (length left ≤ n) × (f : Items → Items) × (items (value depth) (length old) old ≡ parse_map f (items (value depth) n left)) × Fronts test says xs f × (length left ≤ length old)

  pub nothing_yet : (old : List Token) (xs : List A) → xs ≡ [] → SoFar old xs old
  nothing_yet old xs e = (length old, omega arith, (λ js. js), unmoved (items (value depth) (length old) old), subst (λ l. Fronts test says l (λ js. js)) (sym e) (no_front test says), omega arith)

  refused : (old left : List Token) (xs : List A) → SoFar old xs left → ((n : ℕ) → length left ≤ n → tokens_behind items_in_range (items (value depth) n left) ≡ None) → passed_items depth old ≡ None
  refused old left xs s none = refused_behind items_in_range s.2 s.4.good (items (value depth) (length old) old) (items (value depth) s.0 left) s.3 (none s.0 s.1)

  -- no item, or a refused one
  pub refused_here : (old left : List Token) (xs : List A) → SoFar old xs left → after_end_array left ≡ None → passed_value depth left ≡ None → passed_items depth old ≡ None
  refused_here old left xs s going none = refused old left xs s (λ n h. refuse_item (value depth) n left going none)

  behind : (left : List Token) (j : Json) (r : List Token) (n : ℕ) → value depth left ≡ Some (j, r) → length left ≤ n → (length r < n) × (0 < n)
  behind left j r n e h =
      let less = skip_value-shorter depth left r (ap (option_map (λ x. x.1)) e) in
      (omega (arith, less, h), omega (arith, less, h))

  -- an item of another type, and the rest of the list
  first_of : (left : List Token) (n : ℕ) (j : Json) (r : List Token) → value depth left ≡ Some (j, r) → length left ≤ n → after_end_array left ≡ None → items (value depth) n left ≡ parse_map (item j) (items (value depth) (length r) r)
  first_of left n j r e h going =
      let less = behind left j r n e h in
      items_more (value depth) n left r j less.1 going e ∙ ap (parse_map (item j)) (enough_items depth (n - 1) r (omega (arith, less.0)))

  refused_rest : (o : Option (Items × List Token)) (j : Json) → tokens_behind items_in_range o ≡ None → tokens_behind items_in_range (parse_map (item j) o) ≡ None
  refused_rest None j e = refl
  refused_rest (Some q) j e = refused_by (in_range j) (items_in_range q.0) q.1 e

  pub refused_later : (old left : List Token) (xs : List A) (t : Token) (ts r : List Token) → SoFar old xs left → after_end_array left ≡ None → left ≡ t ∷ ts → passed_value depth (t ∷ ts) ≡ Some r → passed_items depth r ≡ None → passed_items depth old ≡ None
  refused_later old left xs t ts r s going is first none =
      let j = passed-plain depth t ts r first in
      refused old left xs s (λ n h. ap (tokens_behind items_in_range) (first_of left n j.0 r (ap (value depth) is ∙ j.1) h going) ∙ refused_rest (items (value depth) (length r) r) j.0 none)

  -- a list with an item of another type
  pub other : (old left : List Token) (xs : List A) (t : Token) (ts r rest : List Token) → SoFar old xs left → after_end_array left ≡ None → left ≡ t ∷ ts → passed_value depth (t ∷ ts) ≡ Some r → test (tree_data (begun t)) ≡ false → passed_items depth r ≡ Some rest
      → (js : Items) × (items (value depth) (length old) old ≡ Some (js, rest)) × (items_in_range js ≡ true) × (are test (items_data js) ≡ false)
  other old left xs t ts r rest s going is first not more =
      let j = passed-plain depth t ts r first in
      let ks = passed-some items_in_range (items (value depth) (length r) r) rest more in
      let no : test (tree_data j.0) ≡ false = sym (test-plain test plain_test j.0) ∙ ap (λ x. test (tree_data x)) j.3 ∙ not in (
        s.2 (item j.0 ks.0),
        s.3 ∙ ap (parse_map s.2) (first_of left s.0 j.0 r (ap (value depth) is ∙ j.1) s.1 going ∙ ap (parse_map (item j.0)) ks.1),
        s.4.good (item j.0 ks.0) ∙ ap (λ b. b && items_in_range ks.0) j.2 ∙ ks.2,
        s.4.tested (item j.0 ks.0) ∙ ap (λ b. b && are test (items_data ks.0)) no,
      )

  -- one more item
  pub one_more_read : (old left : List Token) (xs : List A) (x : A) (t : Token) (ts : List Token) → SoFar old xs left → after_end_array left ≡ None → left ≡ t ∷ ts → test (tree_data (begun t)) ≡ true → tree_data (begun t) ≡ says x → SoFar old (xs ++ x ∷ []) ts
  one_more_read old left xs x t ts s going is ok said =
      let one = single test plain_test depth t ts ok in
      let longer = ap length is in
      let e : value depth left ≡ Some (begun t, ts) = ap (value depth) is ∙ one.0 in
      let less = behind left (begun t) ts s.0 e s.1 in (
        s.0 - 1,
        omega (arith, less.0),
        (λ js. s.2 (item (begun t) js)),
        s.3 ∙ ap (parse_map s.2) (items_more (value depth) s.0 left ts (begun t) less.1 going e) ∙ mapped s.2 (item (begun t)) (items (value depth) (s.0 - 1) ts),
        one_more test says xs s.2 x (begun t) s.4 one.1 ok said,
        omega (arith, longer, s.5),
      )

  -- all items are of the wanted type
  pub all_read : (old left rest : List Token) (xs : List A) → SoFar old xs left → after_end_array left ≡ Some rest
      → (js : Items) × (items (value depth) (length old) old ≡ Some (js, rest)) × (items_in_range js ≡ true) × (are test (items_data js) ≡ true) × (items_data js ≡ front says xs tree.no_items)
  all_read old left rest xs s end = (
    s.2 json.no_items,
    s.3 ∙ ap (parse_map s.2) (items_end (value depth) s.0 left rest s.1 end),
    s.4.good json.no_items,
    s.4.tested json.no_items,
    s.4.said json.no_items,
  )
