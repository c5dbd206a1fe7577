-- Names added one after another are in the order of first use, without repetitions.
use Rattle.std.proofs.Common.{◌≡◌, ℕ, Bool, true, false, cond, List, [], ◌∷◌, ◌++◌, refl, sym, ap, ◌∙◌}
use Rattle.std.specs.Prelude.{◌||◌, ◌&&◌, not, fold}
use Rattle.std.specs.List.{list_any, filter}
use Rattle.std.specs.Str.{bytes_eq}
use Rattle.std.specs.Cmp.Lexicographic.{bytes_decides}
use Rattle.std.proofs.lemmas.List.{append-nil, append_assoc}
use Rattle.ctf_model.specs.writing.WrittenNames.{distinct, is_empty}
use Rattle.ctf_writer.specs.Offsets.{with_name}
use Rattle.ctf_writer.specs.TableNames.{joined}

-- filtering by two tests is filtering by their conjunction
filter_both : {A : Type 0} (p q r : A → Bool) → ((x : A) → r x ≡ (p x && q x)) → (xs : List A) → filter p (filter q xs) ≡ filter r xs
filter_both {A} p q r h [] = refl
filter_both {A} p q r h (x ∷ xs) = at (p x) refl (q x) refl (filter_both p q r h xs)
  where
    at : (b : Bool) → p x ≡ b → (c : Bool) → q x ≡ c → filter p (filter q xs) ≡ filter r xs → filter p (cond (q x) (x ∷ filter q xs) (filter q xs)) ≡ cond (r x) (x ∷ filter r xs) (filter r xs)
    at true e true f more = let both : r x ≡ true = rw (h x, e, f) refl in rw (both, f, e) (ap (λ (ys : List A). x ∷ ys) more)
    at true e false f more = let both : r x ≡ false = rw (h x, e, f) refl in rw (both, f) more
    at false e true f more = let both : r x ≡ false = rw (h x, e) refl in rw (both, f, e) more
    at false e false f more = let both : r x ≡ false = rw (h x, e) refl in rw (both, f) more

-- the name is not in the list
abbrev pub fresh : List (List ℕ) → List ℕ → Bool
fresh done n = not (list_any (bytes_eq n) done)

any_joined : (p : List ℕ → Bool) (xs ys : List (List ℕ)) → list_any p (xs ++ ys) ≡ (list_any p xs || list_any p ys)
any_joined p [] ys = refl
any_joined p (x ∷ xs) ys = at (p x) (any_joined p xs ys)
  where
    at : (b : Bool) → list_any p (xs ++ ys) ≡ (list_any p xs || list_any p ys) → (b || list_any p (xs ++ ys)) ≡ ((b || list_any p xs) || list_any p ys)
    at true more = refl
    at false more = more

pub same_either_way : (x n : List ℕ) → bytes_eq n x ≡ bytes_eq x n
same_either_way x n = at (bytes_eq n x) refl (bytes_eq x n) refl
  where
    at : (b : Bool) → bytes_eq n x ≡ b → (c : Bool) → bytes_eq x n ≡ c → b ≡ c
    at true e true f = refl
    at false e false f = refl
    at true e false f = let back : bytes_eq x n ≡ true = (bytes_decides x n).1 (sym ((bytes_decides n x).0 e)) in absurd cc
    at false e true f = let back : bytes_eq n x ≡ true = (bytes_decides n x).1 (sym ((bytes_decides x n).0 f)) in absurd cc

-- a name in the list does not need to be filtered out
kept_out : (done : List (List ℕ)) (x : List ℕ) → list_any (bytes_eq x) done ≡ true → (n : List ℕ) → fresh done n ≡ (fresh done n && not (bytes_eq x n))
kept_out done x h n = at (bytes_eq x n) refl (fresh done n) refl
  where
    at : (b : Bool) → bytes_eq x n ≡ b → (c : Bool) → fresh done n ≡ c → c ≡ (c && not b)
    at false e true f = refl
    at false e false f = refl
    at true e false f = refl
    at true e true f = let same : x ≡ n = (bytes_decides x n).0 e in let there : list_any (bytes_eq n) done ≡ true = ap (λ (m : List ℕ). list_any (bytes_eq m) done) (sym same) ∙ h in let out : fresh done n ≡ false = ap not there in absurd cc

left_out : (done : List (List ℕ)) (x n : List ℕ) → fresh (done ++ x ∷ []) n ≡ (fresh done n && not (bytes_eq x n))
left_out done x n = ap not (any_joined (bytes_eq n) done (x ∷ [])) ∙ at (list_any (bytes_eq n) done) (bytes_eq n x) (bytes_eq x n) (same_either_way x n)
  where
    at : (a b c : Bool) → b ≡ c → not (a || (b || false)) ≡ (not a && not c)
    at true b c e = refl
    at false true true e = refl
    at false false false e = refl
    at false true false e = absurd cc
    at false false true e = absurd cc

-- the non-empty names without repetitions
abbrev pub kept : List (List ℕ) → List (List ℕ)
kept xs = distinct (filter (λ name. not (is_empty name)) xs)

-- names added to a list come after it if they are new
pub added : (xs done : List (List ℕ)) → fold with_name done xs ≡ done ++ filter (fresh done) (kept xs)
unfolding distinct
added [] done = sym (append-nil done)
added (x ∷ xs) done = at (is_empty x) refl (list_any (bytes_eq x) done) refl (λ d. added xs d)
  where
    at : (b : Bool) → is_empty x ≡ b → (c : Bool) → list_any (bytes_eq x) done ≡ c → ((d : List (List ℕ)) → fold with_name d xs ≡ d ++ filter (fresh d) (kept xs))
        → fold with_name (cond b done (cond c done (done ++ x ∷ []))) xs ≡ done ++ filter (fresh done) (distinct (cond (not b) (x ∷ filter (λ name. not (is_empty name)) xs) (filter (λ name. not (is_empty name)) xs)))
    at true e c f more = more done
    at false e true f more =
        let out : fresh done x ≡ false = ap not f in
        rw out (more done ∙ ap (λ (ys : List (List ℕ)). done ++ ys) (sym (filter_both (fresh done) (λ other. not (bytes_eq x other)) (fresh done) (kept_out done x f) (kept xs))))
    at false e false f more =
        let in_front : fresh done x ≡ true = ap not f in
        rw in_front (more (done ++ x ∷ []) ∙ append_assoc done (x ∷ []) (filter (fresh (done ++ x ∷ [])) (kept xs)) ∙ ap (λ (ys : List (List ℕ)). done ++ x ∷ ys) (sym (filter_both (fresh done) (λ other. not (bytes_eq x other)) (fresh (done ++ x ∷ [])) (left_out done x) (kept xs))))

all_fresh : (xs : List (List ℕ)) → filter (fresh []) xs ≡ xs
all_fresh [] = refl
all_fresh (x ∷ xs) = ap (λ (ys : List (List ℕ)). x ∷ ys) (all_fresh xs)

-- names added to an empty list are there once, in the order of first use
pub each_once : (xs : List (List ℕ)) → fold with_name [] xs ≡ distinct (filter (λ name. not (is_empty name)) xs)
each_once xs = added xs [] ∙ all_fresh (kept xs)

-- names used later are added to those before as new names in use
pub joined_used : (names uses : List (List ℕ)) → joined names (fold with_name [] uses) ≡ fold with_name names uses
joined_used names uses = ap (λ (xs : List (List ℕ)). names ++ filter (fresh names) xs) (each_once uses) ∙ sym (added uses names)
