-- References that name something, decided by one comparison.
use Rattle.std.proofs.Common.{◌≡◌, ℕ, ◌<◌, ◌^◌, ◌/◌, ◌%◌, Bool, true, false, cond, eqb, Some, [], refl, ◌∙◌, arith}
use Rattle.std.specs.Prelude.{is_none}
use Rattle.std.proofs.lemmas.Bool.{lt-leb}
use Rattle.ctf_model.specs.format.Name.{Tables, name, text_at}
use Rattle.ctf_sections.specs.TableEnds.{EndsAt}

-- references below the end of the internal table name something
pub plain_named : (t : Tables) (end reference : ℕ) → EndsAt (Some t.internal) end → reference < end → reference < 2 ^ 31 → is_none (name t reference) ≡ false
plain_named t end reference ends lt low =
    let rest : reference % 2 ^ 31 ≡ reference = omega arith in
    let none : reference / 2 ^ 31 ≡ 0 = omega arith in
    rw (rest, none) (go (eqb reference 0))
  where
    go : (zero_offset : Bool) → is_none (cond zero_offset (Some []) (text_at (Some t.internal) reference)) ≡ false
    go true = refl
    go false = ends reference ∙ lt-leb end reference lt
