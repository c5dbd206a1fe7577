-- The tree of a text as serde_json's data, and whether all its numbers are in range there.
use Rattle.std.specs.Prelude.{◌&&◌, ◌||◌, ℕ, List, [], ◌∷◌, Bool, true, false, is_some, Option, Some, None}
use Rattle.std.specs.Str.{bytes_eq}
use Rattle.json.specs.Json as json
use Rattle.serde_json.specs.Data.{Num, Data, null, boolean, number, string, array, object, Items, no_items, item, Members, no_members, put}
use Rattle.serde_json.specs.Read.{number_of}

-- a number out of range becomes null; no text with one is accepted
abbrev pub number_or_null : Option Num → Data
number_or_null None = null
number_or_null (Some n) = number n

abbrev mutual
  pub tree_data : json.Json → Data
  tree_data json.null = null
  tree_data (json.boolean b) = boolean b
  tree_data (json.number s) = number_or_null (number_of s)
  tree_data (json.string s) = string s
  tree_data (json.array js) = array (items_data js)
  tree_data (json.object ms) = object (tree_members ms no_members)

  pub items_data : json.Items → Items
  items_data json.no_items = no_items
  items_data (json.item j js) = item (tree_data j) (items_data js)

  pub tree_members : json.Members → Members → Members
  tree_members json.no_members found = found
  tree_members (json.member k j ms) found = tree_members ms (put k (tree_data j) found)

abbrev mutual
  pub in_range : json.Json → Bool
  in_range json.null = true
  in_range (json.boolean b) = true
  in_range (json.number s) = is_some (number_of s)
  in_range (json.string s) = true
  in_range (json.array js) = items_in_range js
  in_range (json.object ms) = members_in_range ms

  pub items_in_range : json.Items → Bool
  items_in_range json.no_items = true
  items_in_range (json.item j js) = in_range j && items_in_range js

  pub members_in_range : json.Members → Bool
  members_in_range json.no_members = true
  members_in_range (json.member k j ms) = in_range j && members_in_range ms

-- ---- requested keys

abbrev pub is_one_of : List ℕ → List (List ℕ) → Bool
is_one_of key [] = false
is_one_of key (k ∷ keys) = bytes_eq key k || is_one_of key keys
