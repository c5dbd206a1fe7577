-- The remaining tokens.
use Rattle.std.proofs.Common.{◌≡◌, ℕ, List, [], ◌∷◌, Bool, true, false, ◌||◌, Option, Some, None, refl, ap, ◌∙◌, subst}
use Rattle.json.specs.Token.{Token}
use Rattle.json.specs.Json.{read_key}
use Rattle.ctf_json.specs.Memory.{begins_list, list_among, IsLeft}
use Rattle.ctf_json.proofs.Turns.{IsNone}

or_right : (b c : Bool) → c ≡ true → (b || c) ≡ true
or_right true c e = refl
or_right false c e = e

pub left_behind : (t : Token) (ts : List Token) → IsLeft (t ∷ ts) ts
left_behind t ts e = or_right (begins_list t) (list_among ts) e

pub left_next : (old : List Token) (t : Token) (ts : List Token) → old ≡ t ∷ ts → IsLeft old ts
left_next old t ts is e = ap list_among is ∙ left_behind t ts e

pub all_left : (ts : List Token) → IsLeft ts ts
all_left ts e = e

abbrev rest_of : Option (Option (List ℕ) × List Token) → List Token
rest_of None = []
rest_of (Some p) = p.1

pub left_key : (old : List Token) (k : Option (List ℕ)) (ts : List Token) → read_key old ≡ Some (k, ts) → IsLeft old ts
left_key [] k ts e = absurd (subst IsNone e tt)
left_key (Token.begin_object ∷ rest) k ts e = absurd (subst IsNone e tt)
left_key (Token.end_object ∷ rest) k ts e = λ h. ap list_among (ap rest_of e) ∙ h
left_key (Token.begin_array ∷ rest) k ts e = absurd (subst IsNone e tt)
left_key (Token.end_array ∷ rest) k ts e = absurd (subst IsNone e tt)
left_key (Token.key s ∷ rest) k ts e = λ h. ap list_among (ap rest_of e) ∙ h
left_key (Token.string s ∷ rest) k ts e = absurd (subst IsNone e tt)
left_key (Token.number s ∷ rest) k ts e = absurd (subst IsNone e tt)
left_key (Token.boolean b ∷ rest) k ts e = absurd (subst IsNone e tt)
left_key (Token.null ∷ rest) k ts e = absurd (subst IsNone e tt)
left_key (Token.bad ∷ rest) k ts e = absurd (subst IsNone e tt)

-- a list that begins
pub list_first : (old : List Token) (ts : List Token) → old ≡ Token.begin_array ∷ ts → list_among old ≡ true
list_first old ts is = ap list_among is
