-- Names of plain bytes, which need no escapes.
use Rattle.std.proofs.Common.{◌≡◌, ℕ, ◌+◌, ◌<◌, ◌≤◌, Bool, true, false, List, [], ◌∷◌, ◌++◌, length, get_or, take, refl, sym, ap, ◌∙◌}
use Rattle.std.specs.Prelude.{◌&&◌}
use Rattle.std.specs.List.{flat_map}
use Rattle.std.proofs.lemmas.Grind.{flat_map-append}
use Rattle.std.proofs.lemmas.List.{append-nil, take_all, take_more}
use Rattle.ctf_model.specs.dumps.Dump.{escape}
use Rattle.ctf_model.specs.dumps.Texts.{is_plain}

one : (b : ℕ) → is_plain b ≡ true → escape b ≡ b ∷ []
one b plain = rw plain refl

-- the first bytes, and one more
walked : (name : List ℕ) (k : ℕ) → k < length name → flat_map escape (take k name) ++ escape (get_or name k 0) ≡ flat_map escape (take (k + 1) name)
walked name k h =
    sym (ap (flat_map escape) (take_more name k 0 h)
    ∙ flat_map-append escape (take k name) (get_or name k 0 ∷ [])
    ∙ ap (λ (t : List ℕ). flat_map escape (take k name) ++ t) (append-nil (escape (get_or name k 0))))

-- once all bytes are done
pub all_walked : (name : List ℕ) (k : ℕ) → length name ≤ k → flat_map escape (take k name) ≡ flat_map escape name
all_walked name k h = ap (flat_map escape) (take_all k name h)

next : (name : List ℕ) (k : ℕ) → k < length name → is_plain (get_or name k 0) ≡ true → flat_map escape (take k name) ≡ take k name → flat_map escape (take (k + 1) name) ≡ take (k + 1) name
next name k h plain same =
    sym (walked name k h)
    ∙ ap (λ (t : List ℕ). t ++ escape (get_or name k 0)) same
    ∙ ap (λ (t : List ℕ). take k name ++ t) (one (get_or name k 0) plain)
    ∙ sym (take_more name k 0 h)

pub plain-more : (name : List ℕ) (k : ℕ) (were is : Bool) → k < length name → is ≡ is_plain (get_or name k 0) → (were ≡ true → flat_map escape (take k name) ≡ take k name) → were && is ≡ true → flat_map escape (take (k + 1) name) ≡ take (k + 1) name
plain-more name k true true h e same t = next name k h (sym e) (same refl)
plain-more name k true false h e same t = absurd cc
plain-more name k false is h e same t = absurd cc
