-- A field that is the next value.
use Rattle.std.proofs.Common.{◌≡◌, ℕ, ◌<◌, List, ◌∷◌, length, cond, Option, Some, None, MatchOption, refl, sym, ap, subst, ◌∙◌, arith}
use Rattle.json.specs.Token.{Token}
use Rattle.json.specs.Json.{Items, Members, Parse, value, value_with}
use Rattle.json.proofs.Grammar.{value_is}
use Rattle.serde_json.specs.Data.{Num}
use Rattle.ctf_json.specs.Kept.{IsKept, kept_data}
use Rattle.ctf_json.specs.Memory.{IsLeft}
use Rattle.ctf_json.specs.Passed.{begun, passed_value, tokens_behind}
use Rattle.ctf_json.specs.PlainReader.{IsField, IsTaken, field_token}
use Rattle.ctf_json.specs.TreeData.{in_range, tree_data, number_or_null}
use Rattle.ctf_json.specs.Values.{data_of}
use Rattle.ctf_json.specs.declared.values.Field.{Field}
use Rattle.ctf_json.specs.declared.values.Field.TheVariants as field
use Rattle.ctf_json.specs.declared.wanted.Wanted.{Wanted}
use Rattle.serde_json.specs.Read.{number_of}
use Rattle.ctf_json.proofs.Left.{left_next}

alone_with : (a : Parse Items) (o : Parse Members) (f : Field) (ts : List Token) → value_with a o (field_token f ∷ ts) ≡ Some (begun (field_token f), ts)
alone_with a o field.Null ts = refl
alone_with a o (field.Bool b) ts = refl
alone_with a o (field.Number s) ts = refl
alone_with a o (field.String s) ts = refl

kept_number : (w : Wanted) (o : Option Num) → kept_data w (number_or_null o) ≡ number_or_null o
kept_number w None = refl
kept_number w (Some n) = refl

kept_field : (w : Wanted) (f : Field) → kept_data w (tree_data (begun (field_token f))) ≡ data_of f
kept_field w field.Null = refl
kept_field w (field.Bool b) = refl
kept_field w (field.Number s) = kept_number w (number_of s.now)
kept_field w (field.String s) = refl

pub field_kept : (w : Wanted) (depth : ℕ) (f : Field) (old ts : List Token) → IsField old f ts → IsKept w (value depth old) (data_of f) ts
field_kept w depth f old ts is = (begun (field_token f), ap (value depth) is.0 ∙ value_is depth (field_token f ∷ ts) ∙ alone_with _ _ f ts, is.1, kept_field w f)

pub field_left : (f : Field) (old ts : List Token) → IsField old f ts → IsLeft old ts
field_left f old ts is = left_next old (field_token f) ts is.0

pub field_shorter : (f : Field) (old ts : List Token) → IsField old f ts → length ts < length old
field_shorter f old ts is = omega (arith, ap length is.0)

pub field_passed : (depth : ℕ) (f : Field) (old ts : List Token) → IsField old f ts → passed_value depth old ≡ Some ts
field_passed depth f old ts is =
    ap (tokens_behind in_range) (ap (value depth) is.0 ∙ value_is depth (field_token f ∷ ts) ∙ alone_with _ _ f ts) ∙ ap (λ b. cond b (Some ts) None) is.1

-- what may have been taken
pub taken_or_not : (ts : List Token) (taken : Option Field) (rest : List Token) → MatchOption taken (rest ≡ ts) (λ f. IsField ts f rest) → IsTaken ts taken rest
taken_or_not ts None rest same = sym same
taken_or_not ts (Some f) rest is = is

-- a member that was read
pub some_read : {M : Type 0} (N : Type 0) (A : M → Type 0) (read : Option M) (member : M) → read ≡ Some member → MatchOption read N A → A member
some_read {M} N A read member is h = subst (λ (o : Option M). MatchOption o N A) is h
