use Rattle.std.proofs.Common.{◌≡◌, ℕ, ◌<◌, length, map, sym, ap, ◌∙◌, arith, subst}
use Rattle.std.specs.Prelude.{MatchOption, Option}
use Rattle.std.proofs.lemmas.List.{length-map}
use Rattle.ctf_model.specs.rules.Chains.{own_index}
use Rattle.ctf_model.specs.format.Section.{records}
use Rattle.ctf_records.specs.ListedView.{numbers_listed}
use Rattle.ctf_chains.specs.Numbers.{section_places}
use Rattle.ctf_chains.proofs.Begins.{starts_count}
use Rattle.ctf_chains.proofs.Edges.{places_count, place_in, own_inside}
use Rattle.ctf_chains.proofs.types.TypesGraph.place.Goals as goal

pub get-requires : goal.get-requires
get-requires l c =
    let g = c.args.self.now in
    let inside : c.args.k < length (map (own_index g.child (length (records g.bytes.now))) (numbers_listed c.args.opened)) = c.requires in
    omega (arith, length-map (numbers_listed c.args.opened) (own_index g.child (length (records g.bytes.now))))

pub returns-clause-leads : goal.returns-clause-leads
returns-clause-leads l c =
    let g = c.args.self.now in
    let rs = records g.bytes.now in
    let ns = numbers_listed c.args.opened in
    let inside : c.args.k < length (map (own_index g.child (length rs)) ns) = c.requires in
    let count : length g.starts.now ≡ length rs = ap length g.begin ∙ starts_count rs g.whole in
    c.own_index.ensures
    ∙ ap (λ (n : ℕ). own_index g.child n c.get.result.0) count
    ∙ ap (own_index g.child (length rs)) c.get.ensures
    ∙ sym (place_in g.child (length rs) ns c.args.k (omega (arith, length-map ns (own_index g.child (length rs)))))

pub returns-clause-inside : goal.returns-clause-inside
returns-clause-inside l c =
    let g = c.args.self.now in
    let count : length g.starts.now ≡ length (section_places g.chain g.child (records g.bytes.now)) = places_count g.chain g.child (records g.bytes.now) g.starts.now g.whole g.begin in
    let own = own_inside g.child (length g.starts.now) c.get.result.0 in
    let P : Option ℕ → Type 0 = λ o. MatchOption o (Unit {0}) (λ j. j < length (section_places g.chain g.child (records g.bytes.now))) in
    subst P (sym c.own_index.ensures) (subst (λ (n : ℕ). MatchOption (own_index g.child (length g.starts.now) c.get.result.0) (Unit {0}) (λ j. j < n)) count own)
