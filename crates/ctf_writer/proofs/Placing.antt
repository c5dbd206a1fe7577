-- Names in use, placed in a string section and behind it.
use Rattle.std.proofs.Common.{◌≡◌, ℕ, zero, suc, ◌+◌, ◌<◌, ◌≤◌, Bool, true, false, cond, List, [], ◌∷◌, ◌++◌, length, map, take, drop, get_or, filter, Option, Some, None, refl, sym, ap, subst, ◌∙◌, arith, inl, inr, ◌⊎◌, is_some, ltb}
use Rattle.std.specs.Prelude.{◌||◌, not, position, unwrap_or}
use Rattle.std.specs.Borrow.{Bor}
use Rattle.std.specs.List.{before_first, list_any, flat_map, position_or_len, AllByRecursion, IsDistinct}
use Rattle.std.specs.Str.{bytes_eq}
use Rattle.std.specs.Cmp.Lexicographic.{bytes_decides}
use Rattle.std.proofs.lemmas.Bool.{lt-ltb}
use Rattle.std.proofs.lemmas.Grind.{flat_map-append}
use Rattle.std.proofs.lemmas.List.{append_assoc, append-nil, drop_more, length-append, length-map, map-append, take-append-drop, take_all, take_more, get_or_default}
use Rattle.std.proofs.lemmas.List.Elements.{filter-append}
use Rattle.std.proofs.lemmas.List.Folds.{flat_map-map, list_any-append}
use Rattle.std.proofs.lemmas.List.Quantifiers.{position-Some}
use Rattle.std.proofs.lemmas.Map.Keys.{IsDistinct-head, IsDistinct-tail}
use Rattle.ctf_model.specs.rules.Refusals.{placeless, out_of_memory}
use Rattle.ctf_model.specs.declared.faults.Fault.{Fault}
use Rattle.ctf_model.specs.declared.faults.TheConstants.Fault.{DICT_TOO_BIG}
use Rattle.ctf_model.specs.writing.WrittenNames.{closed_name, string_bytes, name_reference, is_empty}
use Rattle.ctf_model.proofs.Alls.{all_joined}
use Rattle.ctf_model.proofs.Anywhere.{all_map}
use Rattle.ctf_model.proofs.FoundAgain.{first_here, first_later}
use Rattle.ctf_writer.specs.Endings.{is_marked}
use Rattle.ctf_writer.specs.Offsets.{with_name}
use Rattle.ctf_writer.specs.TableNames.{all_names, joined, names_within, place_from}
use Rattle.ctf_writer.specs.Uses.{IsRefused}
use Rattle.ctf_writer.proofs.Distinct.{same_either_way}
use Rattle.ctf_writer.proofs.TableNames.{place_found, place_none}

-- ---- before the first match

pub first_among : {A : Type 0} (p : A → Bool) (xs more : List A) → list_any p xs ≡ true → before_first p (xs ++ more) ≡ before_first p xs
first_among p [] more h = absurd cc
first_among {A} p (x ∷ xs) more h = at (p x) refl h (first_among p xs more)
  where
    at : (b : Bool) → p x ≡ b → (b || list_any p xs) ≡ true → (list_any p xs ≡ true → before_first p (xs ++ more) ≡ before_first p xs) → before_first p (x ∷ (xs ++ more)) ≡ before_first p (x ∷ xs)
    at true e h later = first_here p x (xs ++ more) e ∙ sym (first_here p x xs e)
    at false e h later = first_later p x (xs ++ more) e ∙ ap (λ (ys : List A). x ∷ ys) (later h) ∙ sym (first_later p x xs e)

first_at : {A : Type 0} (p : A → Bool) (front : List A) (x : A) (behind : List A) → list_any p front ≡ false → p x ≡ true → before_first p (front ++ x ∷ behind) ≡ front
first_at p [] x behind h e = first_here p x behind e
first_at {A} p (y ∷ front) x behind h e = at (p y) refl h (λ f. first_at p front x behind f e)
  where
    at : (b : Bool) → p y ≡ b → (b || list_any p front) ≡ false → (list_any p front ≡ false → before_first p (front ++ x ∷ behind) ≡ front) → before_first p (y ∷ (front ++ x ∷ behind)) ≡ y ∷ front
    at true f h more = absurd cc
    at false f h more = first_later p y (front ++ x ∷ behind) f ∙ ap (λ (ys : List A). y ∷ ys) (more h)

none_filtered : {A : Type 0} (p q : A → Bool) (xs : List A) → list_any p xs ≡ false → list_any p (filter q xs) ≡ false
none_filtered p q [] h = refl
none_filtered {A} p q (x ∷ xs) h = at (p x) refl h (q x) (none_filtered p q xs)
  where
    at : (b : Bool) → p x ≡ b → (b || list_any p xs) ≡ false → (c : Bool) → (list_any p xs ≡ false → list_any p (filter q xs) ≡ false) → list_any p (cond c (x ∷ filter q xs) (filter q xs)) ≡ false
    at true e h c more = absurd cc
    at false e h true more = rw e (more h)
    at false e h false more = more h

-- ---- names in use

abbrev now : Bor (List ℕ) → List ℕ
now name = name.now

-- the name that stands for one outside a list
abbrev pub no_name : Bor (List ℕ)
no_name = record { ref_ptr = (0, 0); now = [] }

pub name_is : (names : List (Bor (List ℕ))) (i : ℕ) → i < length names → get_or names i no_name ≡ get_or names i (get_or names i no_name)
name_is names i lt = get_or_default names i no_name (get_or names i no_name) lt

-- one of distinct names is not among those before it
pub none_in_front : (names : List (Bor (List ℕ))) (i : ℕ) (x : Bor (List ℕ)) → i < length names → x ≡ get_or names i x → IsDistinct (λ (a b : Bor (List ℕ)). bytes_eq a.now b.now) names → list_any (bytes_eq x.now) (map now (take i names)) ≡ false
none_in_front [] i x lt is once = absurd (omega (arith, lt))
none_in_front (name ∷ names) zero x lt is once = refl
none_in_front (name ∷ names) (suc i) x lt is once =
    let others = IsDistinct-head (λ (a b : Bor (List ℕ)). bytes_eq a.now b.now) name names once in
    let later = none_in_front names i x (omega (arith, lt)) is (IsDistinct-tail (λ (a b : Bor (List ℕ)). bytes_eq a.now b.now) name names once) in
    let apart : bytes_eq x.now name.now ≡ false = same_either_way name.now x.now ∙ differs names i (omega (arith, lt)) is others in
    rw (apart, later) refl
  where
    differs : (names : List (Bor (List ℕ))) (i : ℕ) → i < length names → x ≡ get_or names i x → AllByRecursion (λ (y : Bor (List ℕ)). bytes_eq name.now y.now ≡ false) names → bytes_eq name.now x.now ≡ false
    differs [] i lt is h = absurd (omega (arith, lt))
    differs (y ∷ names) zero lt is h = ap (λ (z : Bor (List ℕ)). bytes_eq name.now z.now) is ∙ h.0
    differs (y ∷ names) (suc i) lt is h = differs names i (omega (arith, lt)) is h.1

filled_at : (names : List (Bor (List ℕ))) (i : ℕ) (x : Bor (List ℕ)) → i < length names → x ≡ get_or names i x → list_any (λ (name : Bor (List ℕ)). is_empty name.now) names ≡ false → is_empty x.now ≡ false
filled_at [] i x lt is h = absurd (omega (arith, lt))
filled_at (name ∷ names) zero x lt is h = ap (λ (z : Bor (List ℕ)). is_empty z.now) is ∙ at (is_empty name.now) h
  where
    at : (b : Bool) → (b || list_any (λ (name : Bor (List ℕ)). is_empty name.now) names) ≡ false → b ≡ false
    at true h = absurd cc
    at false h = refl
filled_at (name ∷ names) (suc i) x lt is h = filled_at names i x (omega (arith, lt)) is (at (is_empty name.now) h)
  where
    at : (b : Bool) → (b || list_any (λ (name : Bor (List ℕ)). is_empty name.now) names) ≡ false → list_any (λ (name : Bor (List ℕ)). is_empty name.now) names ≡ false
    at true h = absurd cc
    at false h = h

-- ---- one name after another

module _ (old : List (List ℕ)) (names : List (Bor (List ℕ))) (i : ℕ) (x : Bor (List ℕ)) (lt : i < length names) (is : x ≡ get_or names i x)
    (once : IsDistinct (λ (a b : Bor (List ℕ)). bytes_eq a.now b.now) names) (filled : list_any (λ (name : Bor (List ℕ)). is_empty name.now) names ≡ false) where
  abbrev fresh : List ℕ → Bool
  fresh name = not (list_any (bytes_eq name) old)

  all : List (List ℕ)
  all = joined old (map now names)

  taken : map now (take (i + 1) names) ≡ map now (take i names) ++ x.now ∷ []
  taken = ap (map now) (take_more names i x lt ∙ ap (λ (y : Bor (List ℕ)). take i names ++ y ∷ []) (sym is)) ∙ map-append now (take i names) (x ∷ [])

  parted : map now names ≡ map now (take i names) ++ x.now ∷ map now (drop (i + 1) names)
  parted =
      ap (map now) (sym (take-append-drop i names)) ∙ map-append now (take i names) (drop i names)
      ∙ ap (λ (rest : List (Bor (List ℕ))). map now (take i names) ++ map now rest) (drop_more names i x lt ∙ ap (λ (y : Bor (List ℕ)). y ∷ drop (i + 1) names) (sym is))

  -- the references with the next one
  pub one_reference : (f : List ℕ → ℕ) (before after : List ℕ) (at : ℕ) → before ≡ map f (map now (take i names)) → after ≡ before ++ at ∷ [] → at ≡ f x.now → after ≡ map f (map now (take (i + 1) names))
  one_reference f before after at b a e =
      a ∙ ap (λ (rs : List ℕ). rs ++ at ∷ []) b ∙ ap (λ (n : ℕ). map f (map now (take i names)) ++ n ∷ []) e
      ∙ sym (map-append f (map now (take i names)) (x.now ∷ [])) ∙ ap (map f) (sym taken)

  -- ---- a name that the section has

  module _ (v : ℕ) (found : place_from 1 old x.now ≡ Some v) where
    pub none_added : filter fresh (map now (take (i + 1) names)) ≡ filter fresh (map now (take i names))
    none_added =
        let there = (place_found 1 old x.now v found).0 in
        let out : fresh x.now ≡ false = ap not there in
        ap (filter fresh) taken ∙ filter-append fresh (map now (take i names)) (x.now ∷ []) ∙ rw out (append-nil (filter fresh (map now (take i names))))

    pub old_reference : v ≡ name_reference (joined old (map now names)) x.now
    unfolding name_reference
    old_reference =
        let at = place_found 1 old x.now v found in
        let there = at.0 in
        let place = at.1 in
        let some = filled_at names i x lt is filled in
        rw (some, first_among (bytes_eq x.now) old (filter fresh (map now names)) there) (omega (arith, place))

  -- ---- a name that it lacks

  module _ (lacks : place_from 1 old x.now ≡ None) where
    is_fresh : fresh x.now ≡ true
    is_fresh = ap not (place_none 1 old x.now lacks)

    pub one_added : filter fresh (map now (take (i + 1) names)) ≡ filter fresh (map now (take i names)) ++ x.now ∷ []
    one_added = ap (filter fresh) taken ∙ filter-append fresh (map now (take i names)) (x.now ∷ []) ∙ rw is_fresh refl

    all_parted : joined old (map now names) ≡ (old ++ filter fresh (map now (take i names))) ++ x.now ∷ filter fresh (map now (drop (i + 1) names))
    all_parted =
        ap (λ (ns : List (List ℕ)). old ++ filter fresh ns) parted
        ∙ ap (λ (ns : List (List ℕ)). old ++ ns) (filter-append fresh (map now (take i names)) (x.now ∷ map now (drop (i + 1) names)))
        ∙ rw is_fresh (sym (append_assoc old (filter fresh (map now (take i names))) (x.now ∷ filter fresh (map now (drop (i + 1) names)))))

    pub new_reference : (len : ℕ) → len ≡ length (string_bytes (old ++ filter fresh (map now (take i names)))) → len ≡ name_reference (joined old (map now names)) x.now
    unfolding name_reference
    new_reference len e =
        let some = filled_at names i x lt is filled in
        let in_front : list_any (bytes_eq x.now) (old ++ filter fresh (map now (take i names))) ≡ false =
        list_any-append (bytes_eq x.now) old (filter fresh (map now (take i names)))
        ∙ rw (place_none 1 old x.now lacks, none_filtered (bytes_eq x.now) fresh (map now (take i names)) (none_in_front names i x lt is once)) refl in
        let same : bytes_eq x.now x.now ≡ true = (bytes_decides x.now x.now).1 refl in
        let first : before_first (bytes_eq x.now) (joined old (map now names)) ≡ old ++ filter fresh (map now (take i names)) =
        ap (before_first (bytes_eq x.now)) all_parted ∙ first_at (bytes_eq x.now) (old ++ filter fresh (map now (take i names))) x.now (filter fresh (map now (drop (i + 1) names))) in_front same in
        rw (some, first) e

    -- too many bytes with this name are too many with all
    pub too_long : (len : ℕ) → len ≡ length (string_bytes (old ++ filter fresh (map now (take i names)))) → len + length x.now + 1 ≤ length (string_bytes (joined old (map now names)))
    too_long len e =
        let parts = ap (λ (ns : List (List ℕ)). length (string_bytes ns)) all_parted in
        let front = ends_behind (old ++ filter fresh (map now (take i names))) x.now (filter fresh (map now (drop (i + 1) names))) in
        omega (arith, e, parts, front)
      where
        ends_behind : (ns : List (List ℕ)) (n : List ℕ) (more : List (List ℕ)) → length (string_bytes ns) + length n + 1 ≤ length (string_bytes (ns ++ n ∷ more))
        ends_behind [] n more = let one = length-append (closed_name n) (flat_map closed_name more) in let own = length-append n (0 ∷ []) in omega arith
        ends_behind (m ∷ ns) n more =
            let rest = ends_behind ns n more in
            let one = length-append (closed_name m) (flat_map closed_name (ns ++ n ∷ more)) in
            let two = length-append (closed_name m) (flat_map closed_name ns) in
            omega arith

-- the strings of one more name
pub strings_more : (names : List (List ℕ)) (n : List ℕ) → length (string_bytes (names ++ n ∷ [])) ≡ length (string_bytes names) + length n + 1
strings_more [] n = let a = length-append (closed_name n) [] in let l = length-append n (0 ∷ []) in omega arith
strings_more (m ∷ names) n =
    let more = strings_more names n in
    let one = length-append (closed_name m) (flat_map closed_name (names ++ n ∷ [])) in
    let two = length-append (closed_name m) (flat_map closed_name names) in
    omega arith

-- ---- the reference of a name in use

mapped_at : (f : List ℕ → ℕ) (names : List (List ℕ)) (i d : ℕ) → i < length names → get_or (map f names) i d ≡ f (get_or names i [])
mapped_at f [] i d lt = absurd (omega (arith, lt))
mapped_at f (name ∷ names) zero d lt = refl
mapped_at f (name ∷ names) (suc i) d lt = mapped_at f names i d (omega (arith, lt))

pub at_position : (f : List ℕ → ℕ) (names : List (List ℕ)) (text : List ℕ) (i d : ℕ) → position (bytes_eq text) names ≡ Some i → get_or (map f names) i d ≡ f text
at_position f names text i d e =
    let at = position-Some (bytes_eq text) names i [] e in
    let same : text ≡ get_or names i [] = (bytes_decides text (get_or names i [])).0 at.1 in
    mapped_at f names i d at.0 ∙ ap f (sym same)

position_mapped : (text : List ℕ) (names : List (Bor (List ℕ))) → position_or_len (λ (name : Bor (List ℕ)). bytes_eq text name.now) names ≡ position_or_len (bytes_eq text) (map now names)
position_mapped text [] = refl
position_mapped text (name ∷ names) = ap (λ (n : ℕ). cond (not (bytes_eq text name.now)) (1 + n) 0) (position_mapped text names)

pub position_now : (text : List ℕ) (names : List (Bor (List ℕ))) → position (λ (name : Bor (List ℕ)). bytes_eq text name.now) names ≡ position (bytes_eq text) (map now names)
position_now text names =
    let at = position_or_len (bytes_eq text) (map now names) in
    ap (λ (n : ℕ). cond (ltb n (length names)) (Some n) None) (position_mapped text names)
    ∙ ap (λ (l : ℕ). cond (ltb at l) (Some at) None) (sym (length-map names now))

inside : (p : List ℕ → Bool) (names : List (List ℕ)) → list_any p names ≡ true → position_or_len p names < length names
inside p [] h = absurd cc
inside p (name ∷ names) h = at (p name) h (inside p names)
  where
    at : (b : Bool) → (b || list_any p names) ≡ true → (list_any p names ≡ true → position_or_len p names < length names) → cond (not b) (1 + position_or_len p names) 0 < suc (length names)
    at true h more = omega arith
    at false h more = let later = more h in omega (arith, later)

-- a name among these has a position
pub has_position : (text : List ℕ) (names : List (List ℕ)) → list_any (bytes_eq text) names ≡ true → position (bytes_eq text) names ≡ None → ⊥
has_position text names h none =
    let lt : ltb (position_or_len (bytes_eq text) names) (length names) ≡ true = lt-ltb (position_or_len (bytes_eq text) names) (length names) (inside (bytes_eq text) names h) in
    let some : position (bytes_eq text) names ≡ Some (position_or_len (bytes_eq text) names) = rw lt refl in
    absurd cc

-- ---- a set of names in use, with one more

any_now : (text : List ℕ) (names : List (Bor (List ℕ))) → list_any (λ (name : Bor (List ℕ)). bytes_eq text name.now) names ≡ list_any (bytes_eq text) (map now names)
any_now text [] = refl
any_now text (name ∷ names) = ap (λ (b : Bool). bytes_eq text name.now || b) (any_now text names)

pub inserted : (names : List (Bor (List ℕ))) (k : Bor (List ℕ)) → is_empty k.now ≡ false → map now (cond (list_any (λ (name : Bor (List ℕ)). bytes_eq k.now name.now) names) names (names ++ k ∷ [])) ≡ with_name (map now names) k.now
inserted names k some = rw some (at (list_any (λ (name : Bor (List ℕ)). bytes_eq k.now name.now) names) refl)
  where
    at : (b : Bool) → list_any (λ (name : Bor (List ℕ)). bytes_eq k.now name.now) names ≡ b → map now (cond b names (names ++ k ∷ [])) ≡ cond (list_any (bytes_eq k.now) (map now names)) (map now names) (map now names ++ k.now ∷ [])
    at true e = let there : list_any (bytes_eq k.now) (map now names) ≡ true = sym (any_now k.now names) ∙ e in rw there refl
    at false e = let there : list_any (bytes_eq k.now) (map now names) ≡ false = sym (any_now k.now names) ∙ e in rw there (map-append now names (k ∷ []))

-- ---- a walk over names in use

-- what is placed of the first `i` names
pub record AreSoFar (old : List (List ℕ)) (names : List (Bor (List ℕ))) (i : ℕ) (numbers : List ℕ) (new : List (Bor (List ℕ))) (end : ℕ) : Type 0 where
  pub references : numbers ≡ map (name_reference (joined old (map now names))) (map now (take i names))
  pub added : map now new ≡ filter (λ name. not (list_any (bytes_eq name) old)) (map now (take i names))
  pub len : end ≡ length (string_bytes (old ++ filter (λ name. not (list_any (bytes_eq name) old)) (map now (take i names))))
  pub short : end ≤ 67108864

module _ (old : List (List ℕ)) (names : List (Bor (List ℕ))) (i : ℕ) (x : Bor (List ℕ)) (lt : i < length names) (is : x ≡ get_or names i x)
    (once : IsDistinct (λ (a b : Bor (List ℕ)). bytes_eq a.now b.now) names) (filled : list_any (λ (name : Bor (List ℕ)). is_empty name.now) names ≡ false)
    (references : List ℕ) (added : List (Bor (List ℕ))) (len : ℕ) (far : AreSoFar old names i references added len) where
  pub one_placed : (known : Option ℕ) → known ≡ place_from 1 old x.now → (new : List ℕ) (more : List (Bor (List ℕ))) (end : ℕ)
      → new ≡ references ++ unwrap_or known len ∷ [] → more ≡ added ++ cond (is_some known) [] (x ∷ []) → end ≡ cond (is_some known) len (len + length x.now + 1) → end ≤ 67108864
      → AreSoFar old names (i + 1) new more end
  one_placed (Some v) e new more end a b c short =
      let found = sym e in
      let none = none_added old names i x lt is once filled v found in
      record {
        references = one_reference old names i x lt is once filled (name_reference (joined old (map now names))) references new v far.references a (old_reference old names i x lt is once filled v found);
        added = ap (map now) (b ∙ append-nil added) ∙ far.added ∙ sym none;
        len = c ∙ far.len ∙ ap (λ (ns : List (List ℕ)). length (string_bytes (old ++ ns))) (sym none);
        short = short;
      }
  one_placed None e new more end a b c short =
      let lacks = sym e in
      let one = one_added old names i x lt is once filled lacks in
      let longer = strings_more (old ++ filter (λ name. not (list_any (bytes_eq name) old)) (map now (take i names))) x.now in
      let joined_again = append_assoc old (filter (λ name. not (list_any (bytes_eq name) old)) (map now (take i names))) (x.now ∷ []) in
      record {
        references = one_reference old names i x lt is once filled (name_reference (joined old (map now names))) references new len far.references a (new_reference old names i x lt is once filled lacks len far.len);
        added = ap (map now) b ∙ map-append now added (x ∷ []) ∙ ap (λ (ns : List (List ℕ)). ns ++ x.now ∷ []) far.added ∙ sym one;
        len = c ∙ ap (λ (n : ℕ). n + length x.now + 1) far.len ∙ sym longer ∙ ap (λ (ns : List (List ℕ)). length (string_bytes ns)) (joined_again ∙ ap (λ (ns : List (List ℕ)). old ++ ns) (sym one));
        short = short;
      }

  pub one_refused : (known : Option ℕ) (f : Fault) → known ≡ place_from 1 old x.now → (f ≡ out_of_memory) ⊎ ((f ≡ placeless DICT_TOO_BIG) × (known ≡ None) × (67108864 < len + length x.now + 1)) → IsRefused (joined old (map now names)) f
  one_refused known f e (inl none) = inl none
  one_refused known f e (inr long) =
      let lacks = sym e ∙ long.1 in
      let longer = too_long old names i x lt is once filled lacks len far.len in
      let more = long.2 in
      inr (long.0, omega (arith, longer, more))

-- all of them
pub all_placed : (old : List (List ℕ)) (names : List (Bor (List ℕ))) (i : ℕ) (references : List ℕ) (added : List (Bor (List ℕ))) (len : ℕ) → length names ≤ i → AreSoFar old names i references added len
    → (old ++ map now added ≡ joined old (map now names)) × (references ≡ map (name_reference (joined old (map now names))) (map now names)) × (len ≡ length (string_bytes (joined old (map now names))))
all_placed old names i references added len le far =
    let all = take_all i names le in
    let more = ap (λ (ns : List (List ℕ)). old ++ ns) (far.added ∙ ap (λ (ns : List (Bor (List ℕ))). filter (λ name. not (list_any (bytes_eq name) old)) (map now ns)) all) in (
      more,
      far.references ∙ ap (λ (ns : List (Bor (List ℕ))). map (name_reference (joined old (map now names))) (map now ns)) all,
      far.len ∙ ap (λ (ns : List (Bor (List ℕ))). length (string_bytes (old ++ filter (λ name. not (list_any (bytes_eq name) old)) (map now ns)))) all,
    )

-- the ending of each name in use is marked
pub marked_at : (marks : List Bool) (names : List (Bor (List ℕ))) (i : ℕ) (x : Bor (List ℕ)) → i < length names → x ≡ get_or names i x → AllByRecursion (λ name. is_marked marks name ≡ true) (map now names) → is_marked marks x.now ≡ true
marked_at marks [] i x lt is h = absurd (omega (arith, lt))
marked_at marks (name ∷ names) zero x lt is h = ap (λ (z : Bor (List ℕ)). is_marked marks z.now) is ∙ h.0
marked_at marks (name ∷ names) (suc i) x lt is h = marked_at marks names i x (omega (arith, lt)) is h.1

-- one more marked ending
pub more_marked : (old new : List Bool) (names : List (Bor (List ℕ))) (i : ℕ) (x : Bor (List ℕ)) → i < length names → x ≡ get_or names i x
    → is_marked new x.now ≡ true → ((other : List ℕ) → is_marked old other ≡ true → is_marked new other ≡ true)
    → AllByRecursion (λ name. is_marked old name ≡ true) (map now (take i names)) → AllByRecursion (λ name. is_marked new name ≡ true) (map now (take (i + 1) names))
more_marked old new names i x lt is here kept h =
    let taken : map now (take (i + 1) names) ≡ map now (take i names) ++ x.now ∷ [] = ap (map now) (take_more names i x lt ∙ ap (λ (y : Bor (List ℕ)). take i names ++ y ∷ []) (sym is)) ∙ map-append now (take i names) (x ∷ []) in
    subst (AllByRecursion (λ name. is_marked new name ≡ true)) (sym taken)
    (all_joined (λ name. is_marked new name ≡ true) (map now (take i names)) (x.now ∷ []) (all_map (λ name. is_marked old name ≡ true) (λ name. is_marked new name ≡ true) kept (map now (take i names)) h) (here, tt))

-- ---- the whole section

pub whole_bytes : (before : List ℕ) (added : List (Bor (List ℕ))) → before ≡ string_bytes (names_within before) → string_bytes (all_names before added) ≡ before ++ flat_map (λ name. closed_name name.now) added
whole_bytes before added whole =
    ap (λ (bytes : List ℕ). 0 ∷ bytes) (flat_map-append closed_name (names_within before) (map now added))
    ∙ ap (λ (bytes : List ℕ). string_bytes (names_within before) ++ bytes) (flat_map-map closed_name now added)
    ∙ ap (λ (bytes : List ℕ). bytes ++ flat_map (λ name. closed_name name.now) added) (sym whole)
