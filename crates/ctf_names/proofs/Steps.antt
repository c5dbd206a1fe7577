-- One more pointer.
use Rattle.std.proofs.Common.{◌≡◌, ℕ, zero, suc, ◌+◌, ◌-◌, ◌<◌, Ok, Err, refl, arith}
use Rattle.ctf_model.specs.names.Lookups.{pointers_on, pointer_to}
use Rattle.ctf_model.specs.spaces.Space.{Space}
use Rattle.ctf_model.specs.declared.faults.Fault.{Fault}

pub one_further : (s : Space) (n i t : ℕ) → i < n → pointers_on s (n - i) (Ok t) ≡ pointers_on s (n - (i + 1)) (pointer_to s t)
one_further s n i t lt = let more : n - i ≡ suc (n - (i + 1)) = omega (arith, lt) in rw more refl

pub fault_stays : (s : Space) (n : ℕ) (f : Fault) → pointers_on s n (Err f) ≡ Err f
fault_stays s zero f = refl
fault_stays s (suc n) f = refl

pub at_end : (s : Space) (n i t : ℕ) → n - i ≡ 0 → pointers_on s (n - i) (Ok t) ≡ Ok t
at_end s n i t e = rw e refl
