-- The stored parts of parsed values.
use Rattle.std.proofs.Common.{◌≡◌, ◌≢◌, ℕ, suc, List, [], ◌∷◌, Bool, true, false, ◌||◌, cond, Option, Some, None, option_map, option_and_then, refl, sym, ap, ◌∙◌, subst, bytes_eq}
use Rattle.std.specs.Prelude.{⊤, if◌then◌else◌}
use Rattle.std.proofs.lemmas.Bool.{false≢true}
use Rattle.std.proofs.lemmas.Slice.Eq.{bytes_eq-Decides}
use Rattle.json.specs.Token.{Token}
use Rattle.json.specs.Lex.{tokens}
use Rattle.json.specs.Json as json
use Rattle.json.specs.Find as found
use Rattle.json.specs.Reads.{token_of}
use Rattle.json.specs.declared.token.Token as given
use Rattle.json.specs.declared.token.Token.TheVariants as token
use Rattle.json.proofs.Grammar.{value_is}
use Rattle.serde_json.specs.Data.{Num, Data}
use Rattle.serde_json.specs.Find.{get}
use Rattle.serde_json.specs.Read.{number_of, of_json, max_depth, read}
use Rattle.ctf_json.specs.Keys.{place_in, wanted_at}
use Rattle.ctf_json.specs.Kept.{AreKept, IsKept, IsReadAt, kept_data}
use Rattle.ctf_json.specs.TreeData.{tree_data, number_or_null, in_range, is_one_of}
use Rattle.ctf_json.specs.Passed.{begun, tokens_behind, passed_value}
use Rattle.ctf_json.specs.Values.{keys}
use Rattle.ctf_json.specs.declared.wanted.Wanted.{Wanted}
use Rattle.ctf_json.proofs.Begun.{passed-plain, plain}
use Rattle.ctf_json.proofs.Fronts.{then_last}
use Rattle.ctf_json.proofs.Telling.{get-tree_data, read-tree_data, of_json-tree_data, when}
use Rattle.ctf_json.proofs.Turns.{IsNone}

-- ---- values other than arrays, and other than objects

abbrev is_array : json.Json → Bool
is_array json.null = false
is_array (json.boolean b) = false
is_array (json.number s) = false
is_array (json.string s) = false
is_array (json.array js) = true
is_array (json.object ms) = false

abbrev is_object : json.Json → Bool
is_object json.null = false
is_object (json.boolean b) = false
is_object (json.number s) = false
is_object (json.string s) = false
is_object (json.array js) = false
is_object (json.object ms) = true

abbrev first_or : json.Json → Option (json.Json × List Token) → json.Json
first_or j None = j
first_or j (Some p) = p.0

module _ (is : json.Json → Bool) where
  same_is : (i j : json.Json) (ts rest : List Token) → ◌≡◌ {A = Option (json.Json × List Token)} (Some (i, ts)) (Some (j, rest)) → is j ≡ is i
  same_is i j ts rest e = sym (ap (λ o. is (first_or json.null o)) e)

  nested_is : {A : Type 0} (g : A → json.Json) → ((x : A) → is (g x) ≡ false) → (r : Option (A × List Token)) (j : json.Json) (rest : List Token) → json.parse_map g r ≡ Some (j, rest) → is j ≡ false
  nested_is g h None j rest e = absurd (subst IsNone e tt)
  nested_is g h (Some p) j rest e = same_is (g p.0) j p.1 rest e ∙ h p.0

module _ (a : json.Parse json.Items) (o : json.Parse json.Members) where
  no_array-with : (t : given.Token) (ts rest : List Token) (j : json.Json) → t ≢ token.BeginArray → json.value_with a o (token_of t ∷ ts) ≡ Some (j, rest) → is_array j ≡ false
  no_array-with token.BeginObject ts rest j ne e = nested_is is_array json.object (λ ms. refl) (o ts) j rest e
  no_array-with token.EndObject ts rest j ne e = absurd (subst IsNone e tt)
  no_array-with token.BeginArray ts rest j ne e = absurd (ne refl)
  no_array-with token.EndArray ts rest j ne e = absurd (subst IsNone e tt)
  no_array-with (token.Key s) ts rest j ne e = absurd (subst IsNone e tt)
  no_array-with (token.String s) ts rest j ne e = same_is is_array (json.string s.now) j ts rest e
  no_array-with (token.Number s) ts rest j ne e = same_is is_array (json.number s.now) j ts rest e
  no_array-with (token.Bool b) ts rest j ne e = same_is is_array (json.boolean b) j ts rest e
  no_array-with token.Null ts rest j ne e = same_is is_array json.null j ts rest e
  no_array-with token.Bad ts rest j ne e = absurd (subst IsNone e tt)

  no_object-with : (t : given.Token) (ts rest : List Token) (j : json.Json) → t ≢ token.BeginObject → json.value_with a o (token_of t ∷ ts) ≡ Some (j, rest) → is_object j ≡ false
  no_object-with token.BeginObject ts rest j ne e = absurd (ne refl)
  no_object-with token.EndObject ts rest j ne e = absurd (subst IsNone e tt)
  no_object-with token.BeginArray ts rest j ne e = nested_is is_object json.array (λ js. refl) (a ts) j rest e
  no_object-with token.EndArray ts rest j ne e = absurd (subst IsNone e tt)
  no_object-with (token.Key s) ts rest j ne e = absurd (subst IsNone e tt)
  no_object-with (token.String s) ts rest j ne e = same_is is_object (json.string s.now) j ts rest e
  no_object-with (token.Number s) ts rest j ne e = same_is is_object (json.number s.now) j ts rest e
  no_object-with (token.Bool b) ts rest j ne e = same_is is_object (json.boolean b) j ts rest e
  no_object-with token.Null ts rest j ne e = same_is is_object json.null j ts rest e
  no_object-with token.Bad ts rest j ne e = absurd (subst IsNone e tt)

kept_number : (w : Wanted) (o : Option Num) → kept_data w (number_or_null o) ≡ number_or_null o
kept_number w None = refl
kept_number w (Some n) = refl

kept_plain : (w : Wanted) (j : json.Json) → is_array j ≡ false → kept_data w (tree_data j) ≡ tree_data (plain j)
kept_plain w json.null e = refl
kept_plain w (json.boolean b) e = refl
kept_plain w (json.number s) e = kept_number w (number_of s)
kept_plain w (json.string s) e = refl
kept_plain w (json.array js) e = absurd (false≢true (sym e))
kept_plain w (json.object ms) e = refl

-- a skipped value other than an array
pub plain_kept : (w : Wanted) (depth : ℕ) (t : given.Token) (ts rest : List Token) (d : Data) → t ≢ token.BeginArray → passed_value depth (token_of t ∷ ts) ≡ Some rest → d ≡ tree_data (begun (token_of t))
    → IsKept w (json.value depth (token_of t ∷ ts)) d rest
plain_kept w depth t ts rest d ne e says =
    let p = passed-plain depth (token_of t) ts rest e in
    (p.0, p.1, p.2, kept_plain w p.0 (no_array-with _ _ t ts rest p.0 ne (sym (value_is depth (token_of t ∷ ts)) ∙ p.1)) ∙ ap tree_data p.3 ∙ sym says)

not_found : (q : List ℕ) (j : json.Json) → is_object j ≡ false → None ≡ found.get q j
not_found q json.null e = refl
not_found q (json.boolean b) e = refl
not_found q (json.number s) e = refl
not_found q (json.string s) e = refl
not_found q (json.array js) e = refl
not_found q (json.object ms) e = absurd (false≢true (sym e))

-- a skipped value other than an object has nothing at any key
pub nothing_kept : (depth : ℕ) (t : given.Token) (ts rest : List Token) (part : Data) → t ≢ token.BeginObject → passed_value depth (token_of t ∷ ts) ≡ Some rest
    → AreKept ((q : List ℕ) → get q part ≡ None) (json.value depth (token_of t ∷ ts)) part rest
nothing_kept depth t ts rest part ne e =
    let p = passed-plain depth (token_of t) ts rest e in
    let no = no_object-with _ _ t ts rest p.0 ne (sym (value_is depth (token_of t ∷ ts)) ∙ p.1) in
    (p.0, p.1, p.2, λ none q one. none q ∙ ap (option_map (kept_data (wanted_at q))) (ap (option_map tree_data) (not_found q p.0 no) ∙ get-tree_data q p.0))

-- ---- the last of each key

abbrev pub kept_of : List ℕ → (List ℕ → Option json.Json) → Option Data
kept_of q g = option_map (kept_data (wanted_at q)) (option_map tree_data (g q))

module _ (k q : List ℕ) (j : json.Json) (g : List ℕ → Option json.Json) where
  last_by : (b : Bool) (d : Data) (x : Option Data) → bytes_eq k q ≡ b → kept_data (wanted_at k) (tree_data j) ≡ d → x ≡ kept_of q g
      → cond b (Some d) x ≡ option_map (kept_data (wanted_at q)) (option_map tree_data (found.later_or (cond b (Some j) None) (g q)))
  last_by true d x e is more = ap Some (sym is ∙ ap (λ l. kept_data (wanted_at l) (tree_data j)) ((bytes_eq-Decides k q).0 e))
  last_by false d x e is more = more

  pub last_kept : (d : Data) (x : Option Data) → kept_data (wanted_at k) (tree_data j) ≡ d → x ≡ kept_of q g → cond (bytes_eq k q) (Some d) x ≡ kept_of q (then_last k j g)
  last_kept d x is more = last_by (bytes_eq k q) d x refl is more

  other_by : (ks : List (List ℕ)) (b : Bool) → bytes_eq k q ≡ b → is_one_of k ks ≡ false → is_one_of q ks ≡ true → b ≡ false
  other_by ks false e not one = refl
  other_by ks true e not one = absurd (false≢true (sym not ∙ ap (λ x. is_one_of x ks) ((bytes_eq-Decides k q).0 e) ∙ one))

  pub other_kept : (x : Option Data) → is_one_of k keys ≡ false → is_one_of q keys ≡ true → x ≡ kept_of q g → x ≡ kept_of q (then_last k j g)
  other_kept x not one more =
      more ∙ ap (λ b. option_map (kept_data (wanted_at q)) (option_map tree_data (found.later_or (cond b (Some j) None) (g q)))) (sym (other_by keys (bytes_eq k q) refl not one))

abbrev IsSome : Option ℕ → Type 0
IsSome None = ⊥
IsSome (Some n) = ⊤

unmapped : (o : Option ℕ) → option_map suc o ≡ None → o ≡ None
unmapped None e = refl
unmapped (Some n) e = absurd (subst IsSome e tt)

nowhere_by : (b : Bool) (o : Option ℕ) → (if b then Some 0 else option_map suc o) ≡ None → (b ≡ false) × (o ≡ None)
nowhere_by true o e = absurd (subst IsSome e tt)
nowhere_by false o e = (refl, unmapped o e)

-- a key without an index is not known
pub not_one : (key : List ℕ) (ks : List (List ℕ)) → place_in key ks ≡ None → is_one_of key ks ≡ false
not_one key [] e = refl
not_one key (k ∷ ks) e =
    let none = nowhere_by (bytes_eq key k) (place_in key ks) e in
    ap (λ b. b || is_one_of key ks) none.0 ∙ not_one key ks none.1

-- ---- the whole text

last_refused : (j : json.Json) (rest : List Token) → in_range j ≡ false → option_and_then of_json (json.if_last j rest) ≡ None
last_refused j [] e = of_json-tree_data j ∙ ap (λ b. when b (tree_data j)) e
last_refused j (t ∷ ts) e = refl

not_good : (b : Bool) (ts : List Token) → cond b (Some ts) None ≡ None → b ≡ false
not_good true ts e = absurd (subst IsNone (sym e) tt)
not_good false ts e = refl

refused_by : (o : Option (json.Json × List Token)) → tokens_behind in_range o ≡ None → option_and_then of_json (option_and_then (λ p. json.if_last p.0 p.1) o) ≡ None
refused_by None e = refl
refused_by (Some p) e = last_refused p.0 p.1 (not_good (in_range p.0) p.1 e)

pub read-refused : (text : List ℕ) → passed_value max_depth (tokens text) ≡ None → read text ≡ None
read-refused text e = refused_by (json.value max_depth (tokens text)) e

-- the stored part of a text with one value agrees with the text at each known key
pub read-kept : (If : Type 0) (text : List ℕ) (part : Data) (rest : List Token) → AreKept If (json.value max_depth (tokens text)) part rest → rest ≡ [] → If → IsReadAt text part
read-kept If text part rest k last new = record {
  whole = tree_data k.0;
  is = read-tree_data text k.0 rest true k.1 last (sym k.2);
  same = k.3 new;
}

-- a text with more after its value
pub read-more : (text : List ℕ) (j : json.Json) (t : Token) (rest ts : List Token) → json.value max_depth (tokens text) ≡ Some (j, rest) → rest ≡ t ∷ ts → read text ≡ None
read-more text j t rest ts e more = ap (λ o. option_and_then of_json (option_and_then (λ p. json.if_last p.0 p.1) o)) e ∙ ap (λ r. option_and_then of_json (json.if_last j r)) more
