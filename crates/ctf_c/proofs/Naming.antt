-- Splitting names at zero bytes, one more byte at a time.
use Rattle.std.proofs.Common.{◌≡◌, ◌≤◌, ◌<◌, ◌+◌, ◌-◌, ◌++◌, ℕ, zero, suc, false, eqb, List, [], ◌∷◌, map, append_assoc, append-nil, Bor, length, take, drop, get_or, refl, sym, ap, ◌∙◌, arith}
use Rattle.std.proofs.lemmas.List.{drop_more, take_more, take_all, drop_all, length-drop, get_or-drop, map-append}
use Rattle.std.proofs.Math.Dec.{eqb-suc-zero}
use Rattle.ctf_c.specs.Naming.{last_name, names_from, names_in_bytes}

-- the remaining names at an offset, where the current name begins at `from`
abbrev pub left : List ℕ → ℕ → ℕ → List (List ℕ)
left bytes from at = names_from (take (at - from) (drop from bytes)) (drop at bytes)

abbrev pub front : List ℕ → ℕ → ℕ → List ℕ
front bytes from at = take (at - from) (drop from bytes)

begins : (bytes : List ℕ) (n : ℕ) → n ≡ 0 → (rest : List ℕ) → names_from (take n bytes) rest ≡ names_from [] rest
begins bytes n e rest = rw e refl

-- a zero byte ends the name
pub closed : (bytes : List ℕ) (from at : ℕ) → at < length bytes → get_or bytes at 0 ≡ 0 → left bytes from at ≡ front bytes from at ∷ left bytes (at + 1) (at + 1)
unfolding names_from
closed bytes from at inside e =
    let here : left bytes from at ≡ names_from (front bytes from at) (get_or bytes at 0 ∷ drop (at + 1) bytes) = ap (names_from (front bytes from at)) (drop_more bytes at 0 inside) in
    let cut : names_from (front bytes from at) (get_or bytes at 0 ∷ drop (at + 1) bytes) ≡ front bytes from at ∷ names_from [] (drop (at + 1) bytes) = rw e refl in
    here ∙ cut ∙ ap (λ (names : List (List ℕ)). front bytes from at ∷ names) (sym (begins (drop (at + 1) bytes) (at + 1 - (at + 1)) (omega arith) (drop (at + 1) bytes)))

no_zero : (b : ℕ) → 0 < b → eqb b 0 ≡ false
no_zero zero h = absurd (omega (arith, h))
no_zero (suc n) h = eqb-suc-zero n

-- any other byte belongs to it
pub goes_on : (bytes : List ℕ) (from at : ℕ) → from ≤ at → at < length bytes → 0 < get_or bytes at 0 → left bytes from at ≡ left bytes from (at + 1)
unfolding names_from
goes_on bytes from at order inside e =
    let here : left bytes from at ≡ names_from (front bytes from at) (get_or bytes at 0 ∷ drop (at + 1) bytes) = ap (names_from (front bytes from at)) (drop_more bytes at 0 inside) in
    let on : names_from (front bytes from at) (get_or bytes at 0 ∷ drop (at + 1) bytes) ≡ names_from (front bytes from at ++ get_or bytes at 0 ∷ []) (drop (at + 1) bytes) = rw (no_zero (get_or bytes at 0) e) refl in
    let long = length-drop from bytes in
    let more : take (at - from + 1) (drop from bytes) ≡ front bytes from at ++ get_or (drop from bytes) (at - from) 0 ∷ [] = take_more (drop from bytes) (at - from) 0 (omega (arith, order, inside, long)) in
    let count : at + 1 - from ≡ at - from + 1 = omega (arith, order) in
    let byte : get_or (drop from bytes) (at - from) 0 ≡ get_or bytes at 0 = get_or-drop from bytes (at - from) 0 ∙ ap (λ (i : ℕ). get_or bytes i 0) (omega (arith, order)) in
    let longer : front bytes from (at + 1) ≡ front bytes from at ++ get_or bytes at 0 ∷ [] = ap (λ (n : ℕ). take n (drop from bytes)) count ∙ more ∙ ap (λ (b : ℕ). front bytes from at ++ b ∷ []) byte in
    here ∙ on ∙ ap (λ (name : List ℕ). names_from name (drop (at + 1) bytes)) (sym longer)

last_some : (name : List ℕ) → 0 < length name → last_name name ≡ name ∷ []
last_some [] h = absurd (omega (arith, h))
last_some (b ∷ bytes) h = refl

last_none : (name : List ℕ) → length name ≡ 0 → last_name name ≡ []
last_none [] h = refl
last_none (b ∷ bytes) h = absurd (omega (arith, h))

-- at the end
ended : (bytes : List ℕ) (from at : ℕ) → length bytes ≤ at → left bytes from at ≡ last_name (drop from bytes)
unfolding names_from
ended bytes from at end =
    let long = length-drop from bytes in
    ap (names_from (front bytes from at)) (drop_all at bytes end) ∙ ap last_name (take_all (at - from) (drop from bytes) (omega (arith, end, long)))

pub with_last : (bytes : List ℕ) (from at : ℕ) → length bytes ≤ at → from < length bytes → left bytes from at ≡ drop from bytes ∷ []
with_last bytes from at end inside =
    let long = length-drop from bytes in
    ended bytes from at end ∙ last_some (drop from bytes) (omega (arith, inside, long))

pub without_last : (bytes : List ℕ) (from at : ℕ) → length bytes ≤ at → length bytes ≤ from → left bytes from at ≡ []
without_last bytes from at end past =
    let long = length-drop from bytes in
    ended bytes from at end ∙ last_none (drop from bytes) (omega (arith, past, long))

-- what the names show
abbrev pub shown : List (Bor (List ℕ)) → List (List ℕ)
shown names = map (λ (name : Bor (List ℕ)). name.now) names

behind : (old : List (Bor (List ℕ))) (x : Bor (List ℕ)) (rest : List (List ℕ)) → shown (old ++ x ∷ []) ++ rest ≡ shown old ++ (x.now ∷ rest)
behind old x rest = ap (λ (names : List (List ℕ)). names ++ rest) (map-append (λ (name : Bor (List ℕ)). name.now) old (x ∷ [])) ∙ append_assoc (shown old) (x.now ∷ []) rest

pub one_more : (bytes : List ℕ) (from at start : ℕ) (old new : List (Bor (List ℕ))) (x : Bor (List ℕ)) → at < length bytes → get_or bytes at 0 ≡ 0 → new ≡ old ++ x ∷ [] → x.now ≡ front bytes from at → start ≡ at + 1 → shown old ++ left bytes from at ≡ names_in_bytes bytes → shown new ++ left bytes start (at + 1) ≡ names_in_bytes bytes
one_more bytes from at start old new x inside e more is next said =
    rw (more, next) (behind old x (left bytes (at + 1) (at + 1)) ∙ ap (λ (names : List (List ℕ)). shown old ++ names) (ap (λ (name : List ℕ). name ∷ left bytes (at + 1) (at + 1)) is ∙ sym (closed bytes from at inside e)) ∙ said)

pub no_more : (bytes : List ℕ) (from at start : ℕ) (old new : List (Bor (List ℕ))) → from ≤ at → at < length bytes → 0 < get_or bytes at 0 → new ≡ old → start ≡ from → shown old ++ left bytes from at ≡ names_in_bytes bytes → shown new ++ left bytes start (at + 1) ≡ names_in_bytes bytes
no_more bytes from at start old new order inside e same stays said =
    rw (same, stays) (ap (λ (names : List (List ℕ)). shown old ++ names) (sym (goes_on bytes from at order inside e)) ∙ said)

pub last_more : (bytes : List ℕ) (from at : ℕ) (old new : List (Bor (List ℕ))) (x : Bor (List ℕ)) → length bytes ≤ at → from < length bytes → new ≡ old ++ x ∷ [] → x.now ≡ drop from bytes → shown old ++ left bytes from at ≡ names_in_bytes bytes → shown new ≡ names_in_bytes bytes
last_more bytes from at old new x end inside more is said =
    rw more (map-append (λ (name : Bor (List ℕ)). name.now) old (x ∷ []) ∙ ap (λ (names : List (List ℕ)). shown old ++ names) (ap (λ (name : List ℕ). name ∷ []) is ∙ sym (with_last bytes from at end inside)) ∙ said)

pub last_done : (bytes : List ℕ) (from at : ℕ) (old new : List (Bor (List ℕ))) → length bytes ≤ at → length bytes ≤ from → new ≡ old → shown old ++ left bytes from at ≡ names_in_bytes bytes → shown new ≡ names_in_bytes bytes
last_done bytes from at old new end past same said =
    rw same (sym (append-nil (shown old)) ∙ ap (λ (names : List (List ℕ)). shown old ++ names) (sym (without_last bytes from at end past)) ∙ said)

-- all bytes from an offset on
pub rest_is : (bytes : List ℕ) (from : ℕ) → take (length bytes - from) (drop from bytes) ≡ drop from bytes
rest_is bytes from =
    let long = length-drop from bytes in
    take_all (length bytes - from) (drop from bytes) (omega (arith, long))
