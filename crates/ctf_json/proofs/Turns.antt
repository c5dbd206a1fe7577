-- Skipped values, one turn at a time.
use Rattle.std.proofs.Common.{◌≡◌, ℕ, suc, zero, ◌-◌, ◌<◌, List, [], Bool, true, false, ◌&&◌, cond, Option, Some, None, option_and_then, refl, sym, ap, ◌∙◌, subst}
use Rattle.std.specs.Prelude.{⊤}
use Rattle.json.specs.Token.{Token}
use Rattle.json.specs.Json.{Json, array, object, Items, item, Members, member, Parse, parse_map, after_end_array, read_key, items_step, members_step, items, members}
use Rattle.json.proofs.Grammar.{items_more, members_more}
use Rattle.ctf_json.specs.TreeData.{in_range, items_in_range, members_in_range}
use Rattle.ctf_json.specs.Passed.{tokens_behind}

abbrev pub IsNone : {A : Type 0} → Option A → Type 0
IsNone None = ⊤
IsNone (Some a) = ⊥

abbrev or_nothing : Option (List Token) → List Token
or_nothing None = []
or_nothing (Some ts) = ts

both : {A : Type 0} (b c : Bool) (o : Option A) → cond (b && c) o None ≡ cond b (cond c o None) None
both true c o = refl
both false c o = refl

abbrev nothing : Option (List Token)
nothing = None

never : (b : Bool) → nothing ≡ cond b nothing None
never true = refl
never false = refl

-- ---- brackets

pub passed-array : (r : Option (Items × List Token)) → tokens_behind in_range (parse_map array r) ≡ tokens_behind items_in_range r
passed-array None = refl
passed-array (Some p) = refl

pub passed-object : (r : Option (Members × List Token)) → tokens_behind in_range (parse_map object r) ≡ tokens_behind members_in_range r
passed-object None = refl
passed-object (Some p) = refl

-- ---- leading items and members

passed-item : (j : Json) (r : Option (Items × List Token)) → tokens_behind items_in_range (parse_map (item j) r) ≡ cond (in_range j) (tokens_behind items_in_range r) None
passed-item j None = never (in_range j)
passed-item j (Some p) = both (in_range j) (items_in_range p.0) (Some p.1)

passed-member : (k : List ℕ) (j : Json) (r : Option (Members × List Token)) → tokens_behind members_in_range (parse_map (member k j) r) ≡ cond (in_range j) (tokens_behind members_in_range r) None
passed-member k j None = never (in_range j)
passed-member k j (Some p) = both (in_range j) (members_in_range p.0) (Some p.1)

-- ---- skipped values

pub chosen : (b : Bool) (ts r : List Token) → cond b (Some ts) None ≡ Some r → (b ≡ true) × (ts ≡ r)
chosen true ts r e = (refl, ap or_nothing e)
chosen false ts r e = absurd (subst IsNone e tt)

pub passed-some : {A : Type 0} (good : A → Bool) (o : Option (A × List Token)) (r : List Token) → tokens_behind good o ≡ Some r → (a : A) × (o ≡ Some (a, r)) × (good a ≡ true)
passed-some good None r e = absurd (subst IsNone e tt)
passed-some good (Some p) r e =
    let c = chosen (good p.0) p.1 r e in
    (p.0, ap (λ ts. Some (p.0, ts)) c.1, c.0)

refused-first : (b : Bool) (ts : List Token) (o : Option (List Token)) → cond b (Some ts) None ≡ None → cond b o None ≡ None
refused-first true ts o e = absurd (subst IsNone (sym e) tt)
refused-first false ts o e = refl

refused-item : (more : Parse Items) (o : Option (Json × List Token)) → tokens_behind in_range o ≡ None → tokens_behind items_in_range (option_and_then (λ q. parse_map (item q.0) (more q.1)) o) ≡ None
refused-item more None e = refl
refused-item more (Some q) e = passed-item q.0 (more q.1) ∙ refused-first (in_range q.0) q.1 (tokens_behind items_in_range (more q.1)) e

refused-member : (k : List ℕ) (more : Parse Members) (o : Option (Json × List Token)) → tokens_behind in_range o ≡ None
    → tokens_behind members_in_range (option_and_then (λ q. parse_map (member k q.0) (more q.1)) o) ≡ None
refused-member k more None e = refl
refused-member k more (Some q) e = passed-member k q.0 (more q.1) ∙ refused-first (in_range q.0) q.1 (tokens_behind members_in_range (more q.1)) e

module _ (p : Parse Json) where
  pub pass_item : (n : ℕ) (ts r : List Token) → 0 < n → after_end_array ts ≡ None → tokens_behind in_range (p ts) ≡ Some r → tokens_behind items_in_range (items p n ts) ≡ tokens_behind items_in_range (items p (n - 1) r)
  pass_item n ts r h e f =
      let j = passed-some in_range (p ts) r f in
      ap (tokens_behind items_in_range) (items_more p n ts r j.0 h e j.1) ∙ passed-item j.0 (items p (n - 1) r) ∙ ap (λ b. cond b (tokens_behind items_in_range (items p (n - 1) r)) None) j.2

  pub pass_member : (n : ℕ) (k : List ℕ) (ts s r : List Token) → 0 < n → read_key ts ≡ Some (Some k, s) → tokens_behind in_range (p s) ≡ Some r
      → tokens_behind members_in_range (members p n ts) ≡ tokens_behind members_in_range (members p (n - 1) r)
  pass_member n k ts s r h e f =
      let j = passed-some in_range (p s) r f in
      ap (tokens_behind members_in_range) (members_more p n k ts s r j.0 h e j.1) ∙ passed-member k j.0 (members p (n - 1) r) ∙ ap (λ b. cond b (tokens_behind members_in_range (members p (n - 1) r)) None) j.2

  pub refuse_item : (n : ℕ) (ts : List Token) → after_end_array ts ≡ None → tokens_behind in_range (p ts) ≡ None → tokens_behind items_in_range (items p n ts) ≡ None
  unfolding items
  refuse_item zero ts e f = refl
  refuse_item (suc n) ts e f = ap (λ o. tokens_behind items_in_range (items_step p (items p n) ts o)) e ∙ refused-item (items p n) (p ts) f

  pub refuse_member : (n : ℕ) (k : List ℕ) (ts s : List Token) → read_key ts ≡ Some (Some k, s) → tokens_behind in_range (p s) ≡ None → tokens_behind members_in_range (members p n ts) ≡ None
  unfolding members
  refuse_member zero k ts s e f = refl
  refuse_member (suc n) k ts s e f = ap (λ o. tokens_behind members_in_range (option_and_then (λ q. members_step p (members p n) q.0 q.1) o)) e ∙ refused-member k (members p n) (p s) f

-- ---- refusals after others

-- if the rest is refused, so is the whole
pub refused_behind : {A : Type 0} (good : A → Bool) (f : A → A) → ((a : A) → good (f a) ≡ good a) → (whole rest : Option (A × List Token)) → whole ≡ parse_map f rest → tokens_behind good rest ≡ None → tokens_behind good whole ≡ None
refused_behind good f same whole None is e = ap (tokens_behind good) is
refused_behind good f same whole (Some p) is e = ap (tokens_behind good) is ∙ ap (λ b. cond b (Some p.1) None) (same p.0) ∙ e
