-- The values of a list's items, one more at a time.
use Rattle.std.proofs.Common.{◌≡◌, ℕ, ◌+◌, ◌<◌, ◌≤◌, List, [], ◌∷◌, ◌++◌, Option, Some, None, length, drop, get_or, append_assoc, append-nil, refl, sym, ap, ◌∙◌}
use Rattle.std.specs.Prelude.{option_and_then}
use Rattle.std.specs.Option.{option_map}
use Rattle.std.proofs.lemmas.List.{drop_more, drop_all}
use Rattle.serde_json.specs.Data.{Data, Items, no_items}
use Rattle.ctf_json.specs.Values.{front}
use Rattle.ctf_protocol.specs.lines.LineFields.{each_read}

-- some items before the others
abbrev pub behind : {A : Type 0} → List A → Option (List A) → Option (List A)
behind first more = option_map (λ others. first ++ others) more

-- one item before the others, if all can be read
abbrev and_others : {A : Type 0} → Option A → Option (List A) → Option (List A)
and_others one more = option_and_then (λ first. option_map (λ others. first ∷ others) more) one

module _ {X A : Type 0} (view : X → Data) (says : Data → Option A) (values : List X) where
  abbrev listed : List X → Items
  listed xs = front view xs no_items

  from_here : (at : ℕ) (d : X) → at < length values → each_read says (listed (drop at values)) ≡ and_others (says (view (get_or values at d))) (each_read says (listed (drop (at + 1) values)))
  unfolding each_read
  from_here at d h = ap (λ (l : List X). each_read says (listed l)) (drop_more values at d h)

  joined : (first : List A) (one : A) (more : Option (List A)) → behind first (option_map (λ others. one ∷ others) more) ≡ behind (first ++ one ∷ []) more
  joined first one None = refl
  joined first one (Some others) = rw (append_assoc first (one ∷ []) others) refl

  pub next_said : (at : ℕ) (d : X) (first : List A) (one : A) → at < length values → Some one ≡ says (view (get_or values at d)) → each_read says (listed values) ≡ behind first (each_read says (listed (drop at values))) → each_read says (listed values) ≡ behind (first ++ one ∷ []) (each_read says (listed (drop (at + 1) values)))
  next_said at d first one h n all =
      let here = from_here at d h ∙ ap (λ (o : Option A). and_others o (each_read says (listed (drop (at + 1) values)))) (sym n) in
      all ∙ ap (behind first) here ∙ joined first one (each_read says (listed (drop (at + 1) values)))

  pub none_said : (at : ℕ) (d : X) (first : List A) → at < length values → None ≡ says (view (get_or values at d)) → each_read says (listed values) ≡ behind first (each_read says (listed (drop at values))) → None ≡ each_read says (listed values)
  none_said at d first h n all =
      let here = from_here at d h ∙ ap (λ (o : Option A). and_others o (each_read says (listed (drop (at + 1) values)))) (sym n) in
      sym (all ∙ ap (behind first) here)

  pub all_said : (at : ℕ) (first : List A) → length values ≤ at → each_read says (listed values) ≡ behind first (each_read says (listed (drop at values))) → each_read says (listed values) ≡ Some first
  unfolding each_read
  all_said at first h all = rw (all, drop_all at values h, append-nil) refl
