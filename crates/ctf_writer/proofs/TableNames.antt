-- The names in a string section: read one after another, and found where they begin.
use Rattle.std.proofs.Common.{◌≡◌, ℕ, suc, ◌+◌, ◌<◌, ◌≤◌, Bool, true, false, cond, eqb, List, [], ◌∷◌, ◌++◌, length, drop, Option, Some, None, refl, sym, ap, ◌∙◌, arith, is_some}
use Rattle.std.specs.Prelude.{◌||◌}
use Rattle.std.specs.Borrow.{Bor}
use Rattle.std.specs.List.{before_first, list_any, flat_map, position_or_len, AllByRecursion}
use Rattle.std.specs.Map.{lookup}
use Rattle.std.specs.Option.{option_or}
use Rattle.std.specs.Str.{bytes_eq}
use Rattle.std.specs.Cmp.Lexicographic.{bytes_decides}
use Rattle.std.proofs.lemmas.Bool.{ne_eqb, eqb-true}
use Rattle.std.proofs.lemmas.List.{append-nil, append_assoc, drop-drop, drop_all, length-append, length-drop, length-take}
use Rattle.std.proofs.lemmas.Option.{same_Some}
use Rattle.ctf_model.specs.drafts.Fitting.{IsName}
use Rattle.ctf_model.specs.format.Name.{is_zero}
use Rattle.ctf_model.specs.writing.WrittenNames.{closed_name, string_bytes, is_empty}
use Rattle.ctf_model.proofs.FoundAgain.{first_here, first_later}
use Rattle.ctf_writer.specs.Endings.{is_marked}
use Rattle.ctf_writer.specs.TableNames.{is_name, names_from, names_within, place_from}

-- ---- names one after another

front_name : (front bytes : List ℕ) → 0 < length front + length bytes → names_from front bytes ≡ (front ++ before_first is_zero bytes) ∷ names_from [] (drop (length (before_first is_zero bytes) + 1) bytes)
front_name front [] some = at (is_empty front) refl
  where
    at : (e : Bool) → is_empty front ≡ e → cond e [] (front ∷ []) ≡ (front ++ []) ∷ []
    at true e = let none : length front ≡ 0 = eqb-true (length front) 0 e in let clash : ⊥ = omega (arith, some, none) in absurd clash
    at false e = ap (λ (f : List ℕ). f ∷ []) (sym (append-nil front))
front_name front (b ∷ bytes) some = at (is_zero b) refl (front_name (front ++ b ∷ []) bytes (let l = length-append front (b ∷ []) in omega arith))
  where
    at : (z : Bool) → is_zero b ≡ z
        → names_from (front ++ b ∷ []) bytes ≡ ((front ++ b ∷ []) ++ before_first is_zero bytes) ∷ names_from [] (drop (length (before_first is_zero bytes) + 1) bytes)
        → cond z (front ∷ names_from [] bytes) (names_from (front ++ b ∷ []) bytes) ≡ (front ++ before_first is_zero (b ∷ bytes)) ∷ names_from [] (drop (length (before_first is_zero (b ∷ bytes)) + 1) (b ∷ bytes))
    at true e more = rw (first_here is_zero b bytes e) (ap (λ (f : List ℕ). f ∷ names_from [] bytes) (sym (append-nil front)))
    at false e more =
        let len : suc (length (before_first is_zero bytes)) + 1 ≡ suc (length (before_first is_zero bytes) + 1) = omega arith in
        rw (first_later is_zero b bytes e, len) (more ∙ ap (λ (f : List ℕ). f ∷ names_from [] (drop (length (before_first is_zero bytes) + 1) bytes)) (append_assoc front (b ∷ []) (before_first is_zero bytes)))

closed : (front name rest : List ℕ) → IsName name → names_from front (closed_name name ++ rest) ≡ (front ++ name) ∷ names_from [] rest
closed front [] rest h = ap (λ (f : List ℕ). f ∷ names_from [] rest) (sym (append-nil front))
closed front (b ∷ name) rest h =
    let some : eqb b 0 ≡ false = ne_eqb b 0 (omega (arith, h.0)) in
    rw some (closed (front ++ b ∷ []) name rest h.1 ∙ ap (λ (f : List ℕ). f ∷ names_from [] rest) (append_assoc front (b ∷ []) name))

closed_all : (names : List (List ℕ)) → AllByRecursion IsName names → names_from [] (flat_map closed_name names) ≡ names
closed_all [] h = refl
closed_all (name ∷ names) h = closed [] name (flat_map closed_name names) h.0 ∙ ap (λ (ns : List (List ℕ)). name ∷ ns) (closed_all names h.1)

-- the strings of names are read as these names
pub names_again : (names : List (List ℕ)) → AllByRecursion IsName names → names_within (string_bytes names) ≡ names
names_again names h = closed_all names h

-- ---- a walk over a section

abbrev pub Places : Type 0
Places = List (Bor (List ℕ) × ℕ)

-- what is known so far and what is behind `at` give the place of each name with a marked ending
abbrev pub IsOnWay : List Bool → List ℕ → ℕ → Places → Type 0
IsOnWay marks table at known =
    (text : List ℕ) → is_marked marks text ≡ true
    → option_or (lookup (is_name text) known) (place_from at (names_from [] (drop at table)) text) ≡ place_from 1 (names_within table) text

name_split : (table : List ℕ) (at : ℕ) (name : List ℕ) → at < length table → name ≡ before_first is_zero (drop at table) → names_from [] (drop at table) ≡ name ∷ names_from [] (drop (at + (length name + 1)) table)
name_split table at name lt e =
    let behind = length-drop at table in
    front_name [] (drop at table) (omega (arith, lt, behind))
    ∙ ap (λ (n : List ℕ). n ∷ names_from [] (drop (length n + 1) (drop at table))) (sym e)
    ∙ ap (λ (rest : List ℕ). name ∷ names_from [] rest) (drop-drop (length name + 1) at table)

place_split : (table : List ℕ) (at : ℕ) (name text : List ℕ) → at < length table → name ≡ before_first is_zero (drop at table)
    → place_from at (names_from [] (drop at table)) text ≡ cond (bytes_eq text name) (Some at) (place_from (at + (length name + 1)) (names_from [] (drop (at + (length name + 1)) table)) text)
place_split table at name text lt e =
    let same : at + length name + 1 ≡ at + (length name + 1) = omega arith in
    ap (λ (names : List (List ℕ)). place_from at names text) (name_split table at name lt e)
    ∙ ap (λ (n : ℕ). cond (bytes_eq text name) (Some at) (place_from n (names_from [] (drop (at + (length name + 1)) table)) text)) same

-- the place of a name with a marked ending is noted, others are passed over
pub noted : (marks : List Bool) (table : List ℕ) (at : ℕ) (known more : Places) (name : List ℕ) → at < length table → name ≡ before_first is_zero (drop at table) → IsOnWay marks table at known
    → ((text : List ℕ) → is_marked marks text ≡ true → lookup (is_name text) more ≡ option_or (lookup (is_name text) known) (cond (bytes_eq text name) (Some at) None)) → IsOnWay marks table (at + (length name + 1)) more
noted marks table at known more name lt is way has text marked =
    let rest = place_from (at + (length name + 1)) (names_from [] (drop (at + (length name + 1)) table)) text in
    ap (λ (o : Option ℕ). option_or o rest) (has text marked)
    ∙ either (lookup (is_name text) known) (bytes_eq text name) rest
    ∙ ap (option_or (lookup (is_name text) known)) (sym (place_split table at name text lt is))
    ∙ way text marked
  where
    either : (o : Option ℕ) (b : Bool) (rest : Option ℕ) → option_or (option_or o (cond b (Some at) None)) rest ≡ option_or o (cond b (Some at) rest)
    either (Some v) b rest = refl
    either None true rest = refl
    either None false rest = refl

-- a name without a marked ending is none with one
pub passed_over : (marks : List Bool) (name text : List ℕ) (known : Option ℕ) (at : ℕ) → is_marked marks name ≡ false → is_marked marks text ≡ true → known ≡ option_or known (cond (bytes_eq text name) (Some at) None)
passed_over marks name text known at unmarked marked = go (bytes_eq text name) refl known
  where
    go : (b : Bool) → bytes_eq text name ≡ b → (o : Option ℕ) → o ≡ option_or o (cond b (Some at) None)
    go false e None = refl
    go false e (Some v) = refl
    go true e o = let same : text ≡ name = (bytes_decides text name).0 e in let clash : true ≡ false = sym marked ∙ ap (is_marked marks) same ∙ unmarked in absurd cc

-- at the end all places are known
pub way_ends : (marks : List Bool) (table : List ℕ) (at : ℕ) (known : Places) → length table ≤ at → IsOnWay marks table at known
    → (text : List ℕ) → is_marked marks text ≡ true → lookup (is_name text) known ≡ place_from 1 (names_within table) text
way_ends marks table at known le way text marked =
    alone (lookup (is_name text) known) ∙ ap (λ (rest : List ℕ). option_or (lookup (is_name text) known) (place_from at (names_from [] rest) text)) (sym (drop_all at table le)) ∙ way text marked
  where
    alone : (o : Option ℕ) → o ≡ option_or o None
    alone None = refl
    alone (Some v) = refl

-- ---- places

-- a place that is found is where the names before it end
pub place_found : (at : ℕ) (names : List (List ℕ)) (text : List ℕ) (v : ℕ) → place_from at names text ≡ Some v → (list_any (bytes_eq text) names ≡ true) × (v ≡ at + length (flat_map closed_name (before_first (bytes_eq text) names)))
place_found at [] text v e = absurd cc
place_found at (name ∷ names) text v e = go (bytes_eq text name) refl e (λ f. place_found (at + length name + 1) names text v f)
  where
    go : (b : Bool) → bytes_eq text name ≡ b → cond b (Some at) (place_from (at + length name + 1) names text) ≡ Some v
        → (place_from (at + length name + 1) names text ≡ Some v → (list_any (bytes_eq text) names ≡ true) × (v ≡ at + length name + 1 + length (flat_map closed_name (before_first (bytes_eq text) names))))
        → ((b || list_any (bytes_eq text) names) ≡ true) × (v ≡ at + length (flat_map closed_name (before_first (bytes_eq text) (name ∷ names))))
    go true same f more = let is : at ≡ v = same_Some at v f in (refl, rw (first_here (bytes_eq text) name names same) (omega arith))
    go false other f more =
        let later = more f in
        let there = later.0 in
        let place = later.1 in
        let front = length-append (closed_name name) (flat_map closed_name (before_first (bytes_eq text) names)) in
        let own = length-append name (0 ∷ []) in
        (there, rw (first_later (bytes_eq text) name names other) (omega (arith, place, front, own)))

pub place_none : (at : ℕ) (names : List (List ℕ)) (text : List ℕ) → place_from at names text ≡ None → list_any (bytes_eq text) names ≡ false
place_none at [] text e = refl
place_none at (name ∷ names) text e = go (bytes_eq text name) e (λ f. place_none (at + length name + 1) names text f)
  where
    go : (b : Bool) → cond b (Some at) (place_from (at + length name + 1) names text) ≡ None → (place_from (at + length name + 1) names text ≡ None → list_any (bytes_eq text) names ≡ false) → (b || list_any (bytes_eq text) names) ≡ false
    go true f more = absurd cc
    go false f more = more f

-- ---- what is known of places

pub last_noted : (text : List ℕ) (known : Places) (k : Bor (List ℕ)) (at : ℕ) → lookup (is_name text) (known ++ (k, at) ∷ []) ≡ option_or (lookup (is_name text) known) (cond (bytes_eq text k.now) (Some at) None)
last_noted text [] k at = refl
last_noted text (e ∷ known) k at = go (bytes_eq text e.0.now) (last_noted text known k at)
  where
    go : (b : Bool) → lookup (is_name text) (known ++ (k, at) ∷ []) ≡ option_or (lookup (is_name text) known) (cond (bytes_eq text k.now) (Some at) None)
        → cond b (Some e.1) (lookup (is_name text) (known ++ (k, at) ∷ [])) ≡ option_or (cond b (Some e.1) (lookup (is_name text) known)) (cond (bytes_eq text k.now) (Some at) None)
    go true more = refl
    go false more = more

pub noted_before : (text name : List ℕ) (known : Places) (at : ℕ) → is_some (lookup (is_name name) known) ≡ true → lookup (is_name text) known ≡ option_or (lookup (is_name text) known) (cond (bytes_eq text name) (Some at) None)
noted_before text name known at there = go (bytes_eq text name) refl (lookup (is_name text) known) refl
  where
    go : (b : Bool) → bytes_eq text name ≡ b → (o : Option ℕ) → lookup (is_name text) known ≡ o → o ≡ option_or o (cond b (Some at) None)
    go b e (Some v) f = refl
    go false e None f = refl
    go true e None f =
        let same : text ≡ name = (bytes_decides text name).0 e in
        let none : is_some (lookup (is_name name) known) ≡ false = ap (λ (t : List ℕ). is_some (lookup (is_name t) known)) (sym same) ∙ ap is_some f in
        let clash : true ≡ false = sym there ∙ none in absurd cc

pub none_noted : (o : Option ℕ) (b : Bool) → b ≡ is_some o → b ≡ false → o ≡ None
none_noted None b e f = refl
none_noted (Some v) b e f = let clash : false ≡ true = sym f ∙ e in absurd cc

-- a name ends inside its section
pub first_short : (table : List ℕ) (at : ℕ) (name : List ℕ) → at < length table → name ≡ before_first is_zero (drop at table) → at + length name ≤ length table
first_short table at name lt is =
    let rest = drop at table in
    let part = length-take (position_or_len is_zero (drop at table)) (drop at table) in
    let all = length-drop at table in
    let same = ap (λ (n : List ℕ). length n) is in
    omega (arith, part, all, same, lt)
