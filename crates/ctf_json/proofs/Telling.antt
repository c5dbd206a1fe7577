-- The data of a tree is what serde_json parses, and look-ups in it.
use Rattle.std.proofs.Common.{◌≡◌, ℕ, List, [], Bool, true, false, ◌&&◌, Option, Some, None, is_some, option_map, option_and_then, cond, drop, slice_index, ◌==◌, refl, sym, ap, ◌∙◌, bytes_eq}
use Rattle.std.proofs.lemmas.Bool.{false≢true}
use Rattle.std.proofs.lemmas.Slice.Eq.{bytes_eq-Decides}
use Rattle.json.specs.Json as json
use Rattle.json.specs.Find as found
use Rattle.serde_json.specs.Data.{Num, Data, number, array, object, Items, item, Members, no_members, put}
use Rattle.serde_json.specs.Read.{number_of, number_from, of_json, of_items, of_members, max_depth, read}
use Rattle.json.specs.Token.{Token}
use Rattle.json.specs.Lex.{tokens}
use Rattle.serde_json.specs.Find.{get, get_member}
use Rattle.serde_json.proofs.Views.{get_member-put, get_member-put_other}
use Rattle.fast_float.specs.Text.{scan}
use Rattle.ctf_json.specs.TreeData.{tree_data, items_data, tree_members, number_or_null, in_range, items_in_range, members_in_range}

-- ---- parsing

-- the value, if the condition holds
abbrev pub when : {A : Type 0} → Bool → A → Option A
when true a = Some a
when false a = None

number_told : (o : Option Num) → option_map number o ≡ when (is_some o) (number_or_null o)
number_told None = refl
number_told (Some n) = refl

array_told : (b : Bool) (js : Items) → option_map array (when b js) ≡ when b (array js)
array_told true js = refl
array_told false js = refl

object_told : (b : Bool) (ms : Members) → option_map object (when b ms) ≡ when b (object ms)
object_told true ms = refl
object_told false ms = refl

item_told : (a b : Bool) (d : Data) (ds : Items) → option_and_then (λ x. option_map (item x) (when b ds)) (when a d) ≡ when (a && b) (item d ds)
item_told true true d ds = refl
item_told true false d ds = refl
item_told false b d ds = refl

member_told : (a b : Bool) (d : Data) (f : Data → Option Members) (ms : Members) → f d ≡ when b ms → option_and_then f (when a d) ≡ when (a && b) ms
member_told true b d f ms e = e
member_told false b d f ms e = refl

mutual
  pub of_json-tree_data : (j : json.Json) → of_json j ≡ when (in_range j) (tree_data j)
  of_json-tree_data json.null = refl
  of_json-tree_data (json.boolean b) = refl
  of_json-tree_data (json.number s) = number_told (number_of s)
  of_json-tree_data (json.string s) = refl
  of_json-tree_data (json.array js) = ap (option_map array) (of_items-tree_data js) ∙ array_told (items_in_range js) (items_data js)
  of_json-tree_data (json.object ms) = ap (option_map object) (of_members-tree_data ms no_members) ∙ object_told (members_in_range ms) (tree_members ms no_members)

  of_items-tree_data : (js : json.Items) → of_items js ≡ when (items_in_range js) (items_data js)
  of_items-tree_data json.no_items = refl
  of_items-tree_data (json.item j js) = rw (of_json-tree_data j, of_items-tree_data js) (item_told (in_range j) (items_in_range js) (tree_data j) (items_data js))

  of_members-tree_data : (ms : json.Members) (found : Members) → of_members ms found ≡ when (members_in_range ms) (tree_members ms found)
  of_members-tree_data json.no_members found = refl
  of_members-tree_data (json.member k j ms) found = rw (of_json-tree_data j) (member_told (in_range j) (members_in_range ms) (tree_data j) (λ d. of_members ms (put k d found)) (tree_members ms (put k (tree_data j) found)) (of_members-tree_data ms (put k (tree_data j) found)))

-- ---- look-ups

abbrev pub told_or : Option json.Json → Option Data → Option Data
told_or None earlier = earlier
told_or (Some j) earlier = Some (tree_data j)

later : (a b : Option json.Json) (o : Option Data) → told_or (found.later_or a b) o ≡ told_or a (told_or b o)
later None b o = refl
later (Some j) b o = refl

put_by : (q k : List ℕ) (j : json.Json) (ms : Members) (b : Bool) → bytes_eq k q ≡ b → get_member q (put k (tree_data j) ms) ≡ told_or (cond b (Some j) None) (get_member q ms)
put_by q k j ms true e = let same : k ≡ q = (bytes_eq-Decides k q).0 e in rw (sym same) (get_member-put k (tree_data j) ms)
put_by q k j ms false e = get_member-put_other q k (tree_data j) ms (λ same. false≢true (sym e ∙ (bytes_eq-Decides k q).1 (sym same)))

put_found : (q k : List ℕ) (j : json.Json) (ms : Members) → get_member q (put k (tree_data j) ms) ≡ told_or (cond (bytes_eq k q) (Some j) None) (get_member q ms)
put_found q k j ms = put_by q k j ms (bytes_eq k q) refl

member_found : (q : List ℕ) (ms : json.Members) (old : Members) → get_member q (tree_members ms old) ≡ told_or (found.get_member q ms) (get_member q old)
member_found q json.no_members old = refl
member_found q (json.member k j ms) old = member_found q ms (put k (tree_data j) old) ∙ rw (put_found q k j old) (sym (later (found.get_member q ms) (cond (bytes_eq k q) (Some j) None) (get_member q old)))

none_earlier : (o : Option json.Json) → option_map tree_data o ≡ told_or o None
none_earlier None = refl
none_earlier (Some j) = refl

number_not_found : (q : List ℕ) (o : Option Num) → None ≡ get q (number_or_null o)
number_not_found q None = refl
number_not_found q (Some n) = refl

pub get-tree_data : (q : List ℕ) (j : json.Json) → option_map tree_data (found.get q j) ≡ get q (tree_data j)
get-tree_data q json.null = refl
get-tree_data q (json.boolean b) = refl
get-tree_data q (json.number s) = number_not_found q (number_of s)
get-tree_data q (json.string s) = refl
get-tree_data q (json.array js) = refl
get-tree_data q (json.object ms) = none_earlier (found.get_member q ms) ∙ sym (member_found q ms no_members)

-- ---- the whole text

abbrev whole : Option (json.Json × List Token) → Option Data
whole o = option_and_then of_json (option_and_then (λ p. json.if_last p.0 p.1) o)

-- a text with one value is parsed as the data of its tree, if each number is in range
pub read-tree_data : (text : List ℕ) (j : json.Json) (rest : List Token) (b : Bool) → json.value max_depth (tokens text) ≡ Some (j, rest) → rest ≡ [] → b ≡ in_range j → read text ≡ when b (tree_data j)
read-tree_data text j rest b is last e = ap whole (is ∙ ap (λ r. Some (j, r)) last) ∙ of_json-tree_data j ∙ ap (λ a. when a (tree_data j)) (sym e)

-- ---- numbers

-- the number in a text, by whether it begins with a minus sign
pub by_sign : (text : List ℕ) (b : Bool) → b ≡ (slice_index text 0 == 45) → number_of text ≡ cond b (number_from true (scan (drop 1 text))) (number_from false (scan text))
unfolding number_of
by_sign text true e = rw (sym e)
by_sign text false e = rw (sym e)
