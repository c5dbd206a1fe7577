-- What the cache of formatting stores. Source: ours.
use Rattle.std.specs.Prelude.{◌≡◌, ℕ, Option, Some}
use Rattle.std.specs.BTreeMap.{BTreeMap, get}
use Rattle.std.specs.Ordering.{nat_cmp}
use Rattle.ctf_model.specs.spaces.Space.{Space}
use Rattle.ctf_print.specs.Placing.{AreKept, IsFirstOf}
use Rattle.ctf_print.specs.Standing.{StandsFor}
use Rattle.ctf_print.specs.declared.show_cache.Behind.{Behind}
use Rattle.ctf_print.specs.declared.show_cache.Sought.{Sought}
use Rattle.ctf_print.specs.declared.places.FirstByValue.{FirstByValue}

-- each stored type formats as the one stored with it
abbrev pub AreRight : Space → BTreeMap ℕ Behind → Type 0
AreRight s m = (q : ℕ) (b : Behind) → get nat_cmp m q ≡ Some b → StandsFor s q b.steps b.number.0

-- and the stored enums are correct
pub record IsRight (s : Space) (steps : BTreeMap ℕ Behind)
    (kept : BTreeMap ℕ (Option FirstByValue)) (last : Option Sought) : Type 0 where
  pub behind : AreRight s steps
  pub places : AreKept s kept
  pub sought : (x : Sought) → last ≡ Some x → IsFirstOf s x.number.0 x.value x.place
