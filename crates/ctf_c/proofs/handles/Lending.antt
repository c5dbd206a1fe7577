-- A full optional box stays full while its content is lent.
use mathlib.Core.Bool.{Bool, Bool-set, true, false, true≢false}
use Rattle.std.proofs.Common.{◌≡◌, ◌⊎◌, inl, refl, sym, ap}
use Rattle.std.specs.Global.{Global}
use Rattle.ctf_c.specs.handles.Lent.{with_held, with_value}
use Rattle.ctf_c.specs.declared.handles.nullable_box.NullableBox.{NullableBox}
use Rattle.ctf_c.specs.declared.handles.option_box.OptionBox.{OptionBox}

kept : {X : Type 0} (full : Bool) (h : NullableBox X Global) (w : X) → full ≡ true → (tells : full ≡ true)
    → ◌≡◌ {A = OptionBox X} (record { full = full; held = with_held h w; tells = tells }) (record { full = true; held = with_held h w; tells = refl })
kept true h w e tells = ap (λ (t : true ≡ true). record { full = true; held = with_held h w; tells = t }) (Bool-set true true tells refl)
kept false h w e tells = absurd (true≢false (sym e))

pub still_full : {X N : Type 0} (name : N) (s : OptionBox X) (tells : X → s.full ≡ true) → s.full ≡ true
    → ◌≡◌ {A = (N × (X → OptionBox X)) ⊎ OptionBox X} (inl (name, λ w. record { full = s.full; held = with_held s.held w; tells = tells w })) (inl (name, with_value s))
still_full name s tells e = λ i. inl (name, λ w. kept s.full s.held w e (tells w) i)
