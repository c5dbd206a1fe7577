-- Values by their first token.
use Rattle.std.proofs.Common.{◌≡◌, ℕ, List, ◌∷◌, Bool, true, false, is_some, Option, Some, None, refl, sym, ap, ◌∙◌, subst}
use Rattle.std.proofs.lemmas.Bool.{false≢true}
use Rattle.json.specs.Token.{Token}
use Rattle.json.specs.Json.{Json, null, boolean, number, string, array, object, Items, Members, Parse, parse_map, value, value_with}
use Rattle.json.proofs.Grammar.{value_is}
use Rattle.serde_json.specs.Data as tree
use Rattle.serde_json.specs.Data.{Num, Data}
use Rattle.serde_json.specs.Read.{number_of}
use Rattle.ctf_json.specs.TreeData.{tree_data, number_or_null, in_range}
use Rattle.ctf_json.specs.Passed.{begun, passed_value}
use Rattle.ctf_json.proofs.Turns.{IsNone, passed-some}

-- the stored part of a value, if nothing nested is stored
abbrev pub plain : Json → Json
plain null = null
plain (boolean b) = boolean b
plain (number s) = number s
plain (string s) = string s
plain (array js) = null
plain (object ms) = null

abbrev first_or : Json → Option (Json × List Token) → Json
first_or j None = j
first_or j (Some p) = p.0

read_is : (i j : Json) (ts rest : List Token) → ◌≡◌ {A = Option (Json × List Token)} (Some (i, ts)) (Some (j, rest)) → plain j ≡ plain i
read_is i j ts rest e = sym (ap (λ o. plain (first_or null o)) e)

nested_is : {A : Type 0} (g : A → Json) → ((x : A) → plain (g x) ≡ null) → (r : Option (A × List Token)) (j : Json) (rest : List Token) → parse_map g r ≡ Some (j, rest) → plain j ≡ null
nested_is g h None j rest e = absurd (subst IsNone e tt)
nested_is g h (Some p) j rest e = read_is (g p.0) j p.1 rest e ∙ h p.0

module _ (a : Parse Items) (o : Parse Members) where
  plain-with : (t : Token) (ts rest : List Token) (j : Json) → value_with a o (t ∷ ts) ≡ Some (j, rest) → plain j ≡ begun t
  plain-with Token.begin_object ts rest j e = nested_is object (λ ms. refl) (o ts) j rest e
  plain-with Token.end_object ts rest j e = absurd (subst IsNone e tt)
  plain-with Token.begin_array ts rest j e = nested_is array (λ js. refl) (a ts) j rest e
  plain-with Token.end_array ts rest j e = absurd (subst IsNone e tt)
  plain-with (Token.key s) ts rest j e = absurd (subst IsNone e tt)
  plain-with (Token.string s) ts rest j e = read_is (string s) j ts rest e
  plain-with (Token.number s) ts rest j e = read_is (number s) j ts rest e
  plain-with (Token.boolean b) ts rest j e = read_is (boolean b) j ts rest e
  plain-with Token.null ts rest j e = read_is null j ts rest e
  plain-with Token.bad ts rest j e = absurd (subst IsNone e tt)

-- a skipped value and its stored part
pub passed-plain : (depth : ℕ) (t : Token) (ts rest : List Token) → passed_value depth (t ∷ ts) ≡ Some rest
    → (j : Json) × (value depth (t ∷ ts) ≡ Some (j, rest)) × (in_range j ≡ true) × (plain j ≡ begun t)
passed-plain depth t ts rest e =
    let p = passed-some in_range (value depth (t ∷ ts)) rest e in
    (p.0, p.1, p.2, plain-with _ _ t ts rest p.0 (sym (value_is depth (t ∷ ts)) ∙ p.1))

-- ---- tests that only numbers and texts pass

pub record IsPlainTest (test : Data → Bool) : Type 0 where
  pub null_not : test tree.null ≡ false
  pub boolean_not : (b : Bool) → test (tree.boolean b) ≡ false
  pub array_not : (ds : tree.Items) → test (tree.array ds) ≡ false
  pub object_not : (ms : tree.Members) → test (tree.object ms) ≡ false

module _ (test : Data → Bool) (is : IsPlainTest test) where
  -- the test of the stored part is that of the value
  pub test-plain : (j : Json) → test (tree_data (plain j)) ≡ test (tree_data j)
  test-plain null = refl
  test-plain (boolean b) = refl
  test-plain (number s) = refl
  test-plain (string s) = refl
  test-plain (array js) = is.null_not ∙ sym (is.array_not _)
  test-plain (object ms) = is.null_not ∙ sym (is.object_not _)

  number_valued : (o : Option Num) → test (number_or_null o) ≡ true → is_some o ≡ true
  number_valued None e = absurd (false≢true (sym is.null_not ∙ e))
  number_valued (Some n) e = refl

  good : (t : Token) → test (tree_data (begun t)) ≡ true → in_range (begun t) ≡ true
  good Token.begin_object e = refl
  good Token.end_object e = refl
  good Token.begin_array e = refl
  good Token.end_array e = refl
  good (Token.key s) e = refl
  good (Token.string s) e = refl
  good (Token.number s) e = number_valued (number_of s) e
  good (Token.boolean b) e = refl
  good Token.null e = refl
  good Token.bad e = refl

  single-with : (a : Parse Items) (o : Parse Members) (t : Token) (ts : List Token) → test (tree_data (begun t)) ≡ true → value_with a o (t ∷ ts) ≡ Some (begun t, ts)
  single-with a o Token.begin_object ts e = absurd (false≢true (sym is.null_not ∙ e))
  single-with a o Token.end_object ts e = absurd (false≢true (sym is.null_not ∙ e))
  single-with a o Token.begin_array ts e = absurd (false≢true (sym is.null_not ∙ e))
  single-with a o Token.end_array ts e = absurd (false≢true (sym is.null_not ∙ e))
  single-with a o (Token.key s) ts e = absurd (false≢true (sym is.null_not ∙ e))
  single-with a o (Token.string s) ts e = refl
  single-with a o (Token.number s) ts e = refl
  single-with a o (Token.boolean b) ts e = absurd (false≢true (sym (is.boolean_not b) ∙ e))
  single-with a o Token.null ts e = absurd (false≢true (sym is.null_not ∙ e))
  single-with a o Token.bad ts e = absurd (false≢true (sym is.null_not ∙ e))

  -- a value of a single token
  pub single : (depth : ℕ) (t : Token) (ts : List Token) → test (tree_data (begun t)) ≡ true → (value depth (t ∷ ts) ≡ Some (begun t, ts)) × (in_range (begun t) ≡ true)
  single depth t ts e = (value_is depth (t ∷ ts) ∙ single-with _ _ t ts e, good t e)
