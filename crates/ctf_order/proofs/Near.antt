-- A search among a few items inside a longer list.
use Rattle.std.proofs.Common.{◌≡◌, ℕ, ◌+◌, ◌-◌, ◌<◌, ◌≤◌, ltb, Bool, true, false, List, length, get_or, take, drop, refl, ◌∙◌, arith}
use Rattle.std.proofs.lemmas.Bool.{ltb-true, ltb-false}
use Rattle.std.proofs.lemmas.List.{get_or-drop, get_or-take, length-drop, length-take-le}
use Rattle.ctf_order.specs.Searching.{AreLowerBefore, AreParted}
use Rattle.ctf_order.specs.declared.entries.Ranked.{Ranked}

-- `count` items from index `from` on
abbrev pub middle : List Ranked → ℕ → ℕ → List Ranked
middle entries from count = take count (drop from entries)

pub middle_length : (entries : List Ranked) (from count : ℕ) → from + count ≤ length entries → length (middle entries from count) ≡ count
middle_length entries from count inside = length-take-le count (drop from entries) (omega (arith, inside, length-drop from entries))

middle_at : (entries : List Ranked) (from count j : ℕ) (d : Ranked) → j < count → get_or (middle entries from count) j d ≡ get_or entries (from + j) d
middle_at entries from count j d lt = get_or-take count (drop from entries) j d lt ∙ get_or-drop from entries j d

pub parted_middle : (entries : List Ranked) (from count rank : ℕ) → from + count ≤ length entries → AreParted entries rank → AreParted (middle entries from count) rank
parted_middle entries from count rank inside parted i j d le lt h =
    let short : j < count = omega (arith, lt, middle_length entries from count inside) in
    let x : get_or (middle entries from count) i d ≡ get_or entries (from + i) d = middle_at entries from count i d (omega (arith, le, short)) in
    let y : get_or (middle entries from count) j d ≡ get_or entries (from + j) d = middle_at entries from count j d short in
    rw x (parted (from + i) (from + j) d (omega (arith, le)) (omega (arith, short, inside)) (rw y at h))

-- the items before the range are lower, and those before an index in it
pub lower_before : (entries : List Ranked) (from count rank point : ℕ) → from < length entries → from + count ≤ length entries → AreParted entries rank → ((d : Ranked) → ltb (get_or entries from d).rank rank ≡ true) → point ≤ count → ((j : ℕ) (d : Ranked) → j < point → j < length (middle entries from count) → ltb (get_or (middle entries from count) j d).rank rank ≡ true) → AreLowerBefore entries rank (from + point)
lower_before entries from count rank point far inside parted lower short before j d lt within = by_case (ltb j from) refl
  where
    by_case : (u : Bool) → ltb j from ≡ u → ltb (get_or entries j d).rank rank ≡ true
    by_case true e = parted j from d (omega (arith, ltb-true j from e)) far (lower d)
    by_case false e =
        let here : from ≤ j = omega (arith, ltb-false j from e) in
        let back : from + (j - from) ≡ j = omega (arith, here) in
        let there : j - from < point = omega (arith, lt, here) in
        let one = before (j - from) d there (omega (arith, there, short, middle_length entries from count inside)) in
        let same : get_or (middle entries from count) (j - from) d ≡ get_or entries (from + (j - from)) d = middle_at entries from count (j - from) d (omega (arith, there, short)) in
        rw back at (rw same at one)
