-- The value of a line at a name, from its fields and lists.
use Rattle.std.proofs.Common.{◌≡◌, ℕ, ◌<◌, List, [], ◌∷◌, length, set, Bool, true, false, cond, codes, Option, Some, None, option_map, option_and_then, Vec, Global, refl, sym, ap, ◌∙◌, subst, bytes_eq}
use Rattle.std.specs.Prelude.{⊤, if◌then◌else◌}
use Rattle.std.proofs.lemmas.Bool.{false≢true}
use Rattle.std.proofs.lemmas.Slice.Eq.{bytes_eq-Decides}
use Rattle.serde_json.specs.Data.{Data, Num, array, Members, put}
use Rattle.serde_json.specs.Find.{as_array, get, get_member}
use Rattle.serde_json.specs.Read.{number_of}
use Rattle.serde_json.proofs.Views.{get_member-put, get_member-put_other}
use Rattle.ctf_joined.specs.Joined.{texts}
use Rattle.ctf_joined.specs.declared.joined.Joined.{Joined}
use Rattle.ctf_json.specs.Keys.{place_in, wanted_at}
use Rattle.ctf_json.specs.TreeData.{number_or_null}
use Rattle.ctf_model.specs.declared.numbers.TypeNum.{TypeNum}
use Rattle.ctf_json.specs.Values.{args_without, fits, keys, line_data, members_data, names_without, numbers_data, put_some, data_of, texts_data}
use Rattle.ctf_json.specs.declared.values.Field.{Field}
use Rattle.ctf_json.specs.declared.values.Field.TheVariants as field
use Rattle.ctf_json.specs.declared.line.Line.{Line}
use Rattle.ctf_json.specs.declared.values.Read.TheVariants as was
use Rattle.ctf_json.specs.declared.wanted.Wanted.{Wanted}
use Rattle.ctf_json.specs.declared.wanted.Wanted.TheVariants.{Texts, Numbers, Nothing}
use Rattle.ctf_json.proofs.AtNames.{at_name, member_is, same_eq, set_place}

abbrev names_key : List ℕ
names_key = codes "names"

abbrev args_key : List ℕ
args_key = codes "args"

-- the first value, if the condition holds and it is present, else the second
abbrev over : Bool → Option Data → Option Data → Option Data
over true None o = o
over true (Some d) o = Some d
over false d o = o

put_by : (q k : List ℕ) (d : Data) (ms : Members) (b : Bool) → bytes_eq q k ≡ b → get_member q (put k d ms) ≡ over b (Some d) (get_member q ms)
put_by q k d ms true e = ap (λ x. get_member x (put k d ms)) ((bytes_eq-Decides q k).0 e) ∙ get_member-put k d ms
put_by q k d ms false e = get_member-put_other q k d ms (λ same. false≢true (sym e ∙ (bytes_eq-Decides q k).1 same))

over_none : (b : Bool) (o : Option Data) → o ≡ over b None o
over_none true o = refl
over_none false o = refl

put_over : (q k : List ℕ) (o : Option Data) (ms : Members) → get_member q (put_some k o ms) ≡ over (bytes_eq q k) o (get_member q ms)
put_over q k None ms = over_none (bytes_eq q k) (get_member q ms)
put_over q k (Some d) ms = put_by q k d ms (bytes_eq q k) refl

abbrev as_names : Option Joined → Option Data
as_names o = option_map (λ v. array (texts_data (texts v))) o

abbrev as_args : Option (Vec TypeNum Global) → Option Data
as_args o = option_map (λ v. array (numbers_data v.items)) o

-- the value at a name in a line of these parts
abbrev parts : List ℕ → Option Data → Option Data → Option Data → Option Data
parts q args names field = over (bytes_eq q args_key) args (over (bytes_eq q names_key) names field)

line_at : (q : List ℕ) (args names : Option Data) (ms : Members) → get_member q (put_some args_key args (put_some names_key names ms)) ≡ parts q args names (get_member q ms)
line_at q args names ms = put_over q args_key args (put_some names_key names ms) ∙ ap (over (bytes_eq q args_key) args) (put_over q names_key names ms)

-- ---- the wanted list

abbrev IsTexts : Wanted → Type 0
IsTexts Texts = ⊤
IsTexts Numbers = ⊥
IsTexts Nothing = ⊥

abbrev IsNumbers : Wanted → Type 0
IsNumbers Texts = ⊥
IsNumbers Numbers = ⊤
IsNumbers Nothing = ⊥

abbrev IsNothing : Wanted → Type 0
IsNothing Texts = ⊥
IsNothing Numbers = ⊥
IsNothing Nothing = ⊤

abbrev wanted_by : Bool → Bool → Wanted
wanted_by n a = if n then Texts else if a then Numbers else Nothing

texts_by : (n a : Bool) → wanted_by n a ≡ Texts → n ≡ true
texts_by true a e = refl
texts_by false true e = absurd (subst IsTexts (sym e) tt)
texts_by false false e = absurd (subst IsTexts (sym e) tt)

numbers_by : (n a : Bool) → wanted_by n a ≡ Numbers → a ≡ true
numbers_by true a e = absurd (subst IsNumbers (sym e) tt)
numbers_by false true e = refl
numbers_by false false e = absurd (subst IsNumbers (sym e) tt)

nothing_by : (n a : Bool) → wanted_by n a ≡ Nothing → (n ≡ false) × (a ≡ false)
nothing_by true a e = absurd (subst IsNothing (sym e) tt)
nothing_by false true e = absurd (subst IsNothing (sym e) tt)
nothing_by false false e = (refl, refl)

pub at_names : (key : List ℕ) → wanted_at key ≡ Texts → key ≡ names_key
at_names key e = (bytes_eq-Decides key names_key).0 (texts_by (bytes_eq key names_key) (bytes_eq key args_key) e)

pub at_args : (key : List ℕ) → wanted_at key ≡ Numbers → key ≡ args_key
at_args key e = (bytes_eq-Decides key args_key).0 (numbers_by (bytes_eq key names_key) (bytes_eq key args_key) e)

-- ---- look-ups

pub names_here : (key : List ℕ) (args names : Option Data) (ms : Members) → wanted_at key ≡ Texts → get_member key (put_some args_key args (put_some names_key names ms)) ≡ over true names (get_member key ms)
names_here key args names ms e = line_at key args names ms ∙ ap (λ k. parts k args names (get_member key ms)) (at_names key e)

pub args_here : (key : List ℕ) (args names : Option Data) (ms : Members) → wanted_at key ≡ Numbers → get_member key (put_some args_key args (put_some names_key names ms)) ≡ over true args (get_member key ms)
args_here key args names ms e = line_at key args names ms ∙ ap (λ k. parts k args names (get_member key ms)) (at_args key e)

pub plain_here : (key : List ℕ) (args names : Option Data) (ms : Members) → wanted_at key ≡ Nothing → get_member key (put_some args_key args (put_some names_key names ms)) ≡ get_member key ms
plain_here key args names ms e =
    let none = nothing_by (bytes_eq key names_key) (bytes_eq key args_key) e in
    line_at key args names ms ∙ ap (λ b. over b args (over (bytes_eq key names_key) names (get_member key ms))) none.1 ∙ ap (λ b. over b names (get_member key ms)) none.0

no_array : (f : Field) → as_array (data_of f) ≡ None
no_array field.Null = refl
no_array (field.Bool b) = refl
no_array (field.Number s) = no_array_number (number_of s.now)
  where
    no_array_number : (o : Option Num) → as_array (number_or_null o) ≡ None
    no_array_number None = refl
    no_array_number (Some n) = refl
no_array (field.String s) = refl

no_list_by : (b : Bool) (v : Option Field) (more : Option Data) → option_and_then as_array more ≡ None → option_and_then as_array (if b then option_map data_of v else more) ≡ None
no_list_by true None more none = refl
no_list_by true (Some f) more none = no_array f
no_list_by false v more none = none

no_list : (ks : List (List ℕ)) (q : List ℕ) (vs : List (Option Field)) → option_and_then as_array (at_name q ks vs) ≡ None
no_list [] q vs = refl
no_list (k ∷ ks) q [] = refl
no_list (k ∷ ks) q (v ∷ vs) = no_list_by (bytes_eq q k) v (at_name q ks vs) (no_list ks q vs)

-- the lists at the two names
pub names_listed : (line : Line) → option_and_then as_array (get names_key (line_data line)) ≡ option_map (λ v. texts_data (texts v)) line.names
names_listed line = ap (option_and_then as_array) (line_at names_key (as_args line.args) (as_names line.names) (members_data keys line.fields.all)) ∙ by_names line.names
  where
    field_none : option_and_then as_array (get_member names_key (members_data keys line.fields.all)) ≡ None
    field_none = ap (option_and_then as_array) (member_is names_key keys line.fields.all refl) ∙ no_list keys names_key line.fields.all

    by_names : (o : Option Joined) → option_and_then as_array (over true (as_names o) (get_member names_key (members_data keys line.fields.all))) ≡ option_map (λ v. texts_data (texts v)) o
    by_names None = field_none
    by_names (Some v) = refl

pub args_listed : (line : Line) → option_and_then as_array (get args_key (line_data line)) ≡ option_map (λ v. numbers_data v.items) line.args
args_listed line = ap (option_and_then as_array) (line_at args_key (as_args line.args) (as_names line.names) (members_data keys line.fields.all)) ∙ by_args line.args
  where
    field_none : option_and_then as_array (get_member args_key (members_data keys line.fields.all)) ≡ None
    field_none = ap (option_and_then as_array) (member_is args_key keys line.fields.all refl) ∙ no_list keys args_key line.fields.all

    by_args : (o : Option (Vec TypeNum Global)) → option_and_then as_array (over true (as_args o) (get_member args_key (members_data keys line.fields.all))) ≡ option_map (λ v. numbers_data v.items) o
    by_args None = field_none
    by_args (Some v) = refl

pub got_names : (key : List ℕ) (line : Line) (v : Joined) → Texts ≡ wanted_at key → line.names ≡ Some v → Some (array (texts_data (texts v))) ≡ get key (line_data line)
got_names key line v w e =
    sym (names_here key (as_args line.args) (as_names line.names) (members_data keys line.fields.all) (sym w) ∙ ap (λ o. over true (as_names o) (get_member key (members_data keys line.fields.all))) e)

pub got_args : (key : List ℕ) (line : Line) (v : Vec TypeNum Global) (ns : List TypeNum) → Numbers ≡ wanted_at key → line.args ≡ Some v → ns ≡ v.items → Some (array (numbers_data ns)) ≡ get key (line_data line)
got_args key line v ns w e is =
    ap (λ l. Some (array (numbers_data l))) is
    ∙ sym (args_here key (as_args line.args) (as_names line.names) (members_data keys line.fields.all) (sym w) ∙ ap (λ o. over true (as_args o) (get_member key (members_data keys line.fields.all))) e)

pub got_no_names : (key : List ℕ) (line : Line) (o : Option Data) → Texts ≡ wanted_at key → line.names ≡ None → o ≡ get_member key (members_data keys line.fields.all) → o ≡ get key (line_data line)
got_no_names key line o w e is =
    is ∙ sym (names_here key (as_args line.args) (as_names line.names) (members_data keys line.fields.all) (sym w) ∙ ap (λ o. over true (as_names o) (get_member key (members_data keys line.fields.all))) e)

pub got_no_args : (key : List ℕ) (line : Line) (o : Option Data) → Numbers ≡ wanted_at key → line.args ≡ None → o ≡ get_member key (members_data keys line.fields.all) → o ≡ get key (line_data line)
got_no_args key line o w e is =
    is ∙ sym (args_here key (as_args line.args) (as_names line.names) (members_data keys line.fields.all) (sym w) ∙ ap (λ o. over true (as_args o) (get_member key (members_data keys line.fields.all))) e)

pub got_plain : (key : List ℕ) (line : Line) (o : Option Data) → Nothing ≡ wanted_at key → o ≡ get_member key (members_data keys line.fields.all) → o ≡ get key (line_data line)
got_plain key line o w is = is ∙ sym (plain_here key (as_args line.args) (as_names line.names) (members_data keys line.fields.all) (sym w))

-- ---- additions

module _ (key q : List ℕ) where
  -- the value at a name other than this key
  apart : (k : List ℕ) → bytes_eq key q ≡ false → bytes_eq key k ≡ true → bytes_eq q k ≡ false
  apart k other is = same_eq k q false (ap (λ x. bytes_eq x q) (sym ((bytes_eq-Decides key k).0 is)) ∙ other)

  -- a list at a key
  pub names_kept : (args names : Option Data) (d : Data) (x : Option Data) (b : Bool) → bytes_eq key q ≡ b → key ≡ names_key → parts q args (Some d) x ≡ cond b (Some d) (parts q args names x)
  names_kept args names d x true same is = ap (λ k. parts k args (Some d) x) (sym ((bytes_eq-Decides key q).0 same) ∙ is)
  names_kept args names d x false other is =
      let not = apart names_key other ((bytes_eq-Decides key names_key).1 is) in
      ap (λ b. over (bytes_eq q args_key) args (over b (Some d) x)) not ∙ sym (ap (λ b. over (bytes_eq q args_key) args (over b names x)) not)

  pub args_kept : (args names : Option Data) (d : Data) (x : Option Data) (b : Bool) → bytes_eq key q ≡ b → key ≡ args_key → parts q (Some d) names x ≡ cond b (Some d) (parts q args names x)
  args_kept args names d x true same is = ap (λ k. parts k (Some d) names x) (sym ((bytes_eq-Decides key q).0 same) ∙ is)
  args_kept args names d x false other is =
      let not = apart args_key other ((bytes_eq-Decides key args_key).1 is) in
      ap (λ b. over b (Some d) (over (bytes_eq q names_key) names x)) not ∙ sym (ap (λ b. over b args (over (bytes_eq q names_key) names x)) not)

  module _ (args : Option (Vec TypeNum Global)) (names : Option Joined) (f : Data) (x : Option Data) where
    -- a field at a key replaces a list there
    field_by : (w : Wanted) (b : Bool) → bytes_eq key q ≡ b → wanted_at key ≡ w → parts q (as_args (args_without w args)) (as_names (names_without w names)) (cond b (Some f) x) ≡ cond b (Some f) (parts q (as_args args) (as_names names) x)
    field_by Texts true same is = ap (λ k. parts k (as_args args) None (Some f)) (sym ((bytes_eq-Decides key q).0 same) ∙ at_names key is)
    field_by Numbers true same is = ap (λ k. parts k None (as_names names) (Some f)) (sym ((bytes_eq-Decides key q).0 same) ∙ at_args key is)
    field_by Nothing true same is =
        let none = nothing_by (bytes_eq key names_key) (bytes_eq key args_key) is in
        ap (λ k. parts k (as_args args) (as_names names) (Some f)) (sym ((bytes_eq-Decides key q).0 same))
        ∙ ap (λ b. over b (as_args args) (over (bytes_eq key names_key) (as_names names) (Some f))) none.1 ∙ ap (λ b. over b (as_names names) (Some f)) none.0
    field_by Texts false other is =
        let not = apart names_key other ((bytes_eq-Decides key names_key).1 (at_names key is)) in
        ap (λ b. over (bytes_eq q args_key) (as_args args) (over b None x)) not ∙ sym (ap (λ b. over (bytes_eq q args_key) (as_args args) (over b (as_names names) x)) not)
    field_by Numbers false other is =
        let not = apart args_key other ((bytes_eq-Decides key args_key).1 (at_args key is)) in
        ap (λ b. over b None (over (bytes_eq q names_key) (as_names names) x)) not ∙ sym (ap (λ b. over b (as_args args) (over (bytes_eq q names_key) (as_names names) x)) not)
    field_by Nothing false other is = refl

-- the parts of a line at a name
pub line_parts : (q : List ℕ) (line : Line) → get q (line_data line) ≡ parts q (as_args line.args) (as_names line.names) (at_name q keys line.fields.all)
line_parts q line = line_at q (as_args line.args) (as_names line.names) (members_data keys line.fields.all) ∙ ap (parts q (as_args line.args) (as_names line.names)) (member_is q keys line.fields.all refl)

pub texts_fit : (w : Wanted) (v : Joined) → fits w (was.Texts v) ≡ true → w ≡ Texts
texts_fit Texts v e = refl
texts_fit Numbers v e = absurd (false≢true e)
texts_fit Nothing v e = absurd (false≢true e)

pub numbers_fit : (w : Wanted) (v : Vec TypeNum Global) → fits w (was.Numbers v) ≡ true → w ≡ Numbers
numbers_fit Texts v e = absurd (false≢true e)
numbers_fit Numbers v e = refl
numbers_fit Nothing v e = absurd (false≢true e)

-- a value at a key, with everything else unchanged
abbrev pub has : List ℕ → List (Option Field) → Option Joined → Option (Vec TypeNum Global) → Option Data
has q fields names args = get_member q (put_some args_key (as_args args) (put_some names_key (as_names names) (members_data keys fields)))

has_parts : (q : List ℕ) (fields : List (Option Field)) (names : Option Joined) (args : Option (Vec TypeNum Global)) → has q fields names args ≡ parts q (as_args args) (as_names names) (at_name q keys fields)
has_parts q fields names args = line_at q (as_args args) (as_names names) (members_data keys fields) ∙ ap (parts q (as_args args) (as_names names)) (member_is q keys fields refl)

pub list_kept : (key q : List ℕ) (fields : List (Option Field)) (names : Option Joined) (args : Option (Vec TypeNum Global)) (v : Joined) → key ≡ names_key
    → has q fields (Some v) args ≡ cond (bytes_eq key q) (Some (array (texts_data (texts v)))) (has q fields names args)
list_kept key q fields names args v is =
    has_parts q fields (Some v) args ∙ names_kept key q (as_args args) (as_names names) (array (texts_data (texts v))) (at_name q keys fields) (bytes_eq key q) refl is
    ∙ ap (cond (bytes_eq key q) (Some (array (texts_data (texts v))))) (sym (has_parts q fields names args))

pub numbers_kept : (key q : List ℕ) (fields : List (Option Field)) (names : Option Joined) (args : Option (Vec TypeNum Global)) (v : Vec TypeNum Global) → key ≡ args_key
    → has q fields names (Some v) ≡ cond (bytes_eq key q) (Some (array (numbers_data v.items))) (has q fields names args)
numbers_kept key q fields names args v is =
    has_parts q fields names (Some v) ∙ args_kept key q (as_args args) (as_names names) (array (numbers_data v.items)) (at_name q keys fields) (bytes_eq key q) refl is
    ∙ ap (cond (bytes_eq key q) (Some (array (numbers_data v.items)))) (sym (has_parts q fields names args))

pub field_kept : (key q : List ℕ) (old new : Line) (i : ℕ) (f : Field) → place_in key keys ≡ Some i → i < length old.fields.all → new.fields.all ≡ set old.fields.all i (Some f)
    → new.names ≡ names_without (wanted_at key) old.names → new.args ≡ args_without (wanted_at key) old.args
    → get q (line_data new) ≡ cond (bytes_eq key q) (Some (data_of f)) (get q (line_data old))
field_kept key q old new i f place h fields names args =
    line_parts q new ∙ ap (λ a. parts q (as_args a) (as_names new.names) (at_name q keys new.fields.all)) args ∙ ap (λ n. parts q (as_args (args_without (wanted_at key) old.args)) (as_names n) (at_name q keys new.fields.all)) names
    ∙ ap (λ x. parts q (as_args (args_without (wanted_at key) old.args)) (as_names (names_without (wanted_at key) old.names)) (at_name q keys x)) fields
    ∙ ap (parts q (as_args (args_without (wanted_at key) old.args)) (as_names (names_without (wanted_at key) old.names))) (set_place key q keys old.fields.all i f place h)
    ∙ field_by key q old.args old.names (data_of f) (at_name q keys old.fields.all) (wanted_at key) (bytes_eq key q) refl refl
    ∙ ap (cond (bytes_eq key q) (Some (data_of f))) (sym (line_parts q old))
