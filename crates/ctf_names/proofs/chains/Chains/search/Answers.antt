use Rattle.std.proofs.Common.{◌≡◌, ℕ, ◌<◌, length, get_or, Some, sym, ap, ◌∙◌, arith}
use Rattle.std.specs.Prelude.{option_and_then, option_copied, slice_get}
use Rattle.std.proofs.lemmas.List.{get_or_default}
use Rattle.ctf_check.specs.CheckedView.{dictionary_of, lists_of}
use Rattle.ctf_check.specs.TypedView.{term_in}
use Rattle.ctf_space.proofs.Few.{few_terms}
use Rattle.ctf_names.specs.Buckets.{bucket_of_short}
use Rattle.ctf_names.specs.Sorts.{tag_in}
use Rattle.ctf_names.proofs.InChains.{begun_at, ended, hit, missed, none_left}
use Rattle.ctf_names.proofs.chains.Chains.search.Goals as goal

pub bucket_among-requires : goal.bucket_among-requires
bucket_among-requires c =
    let few = few_terms (lists_of c.args.dictionary.now) c.args.dictionary.now.faultless in
    record { few = omega (arith, few, c.count-count.ensures) }

pub loop-step-init : goal.loop-step-init
loop-step-init c =
    let terms = (dictionary_of c.args.dictionary.now).terms in
    record {
      reached = begun_at terms c.args.self.now.heads.items c.args.self.now.next.items (record { tag = tag_in c.args.sort; name = c.args.name.now }) c.index-at.result.now c.bucket_among.result (option_copied c.hashable.result) c.requires c.hashable.ensures (c.bucket_among.ensures.is ∙ ap (λ n. bucket_of_short n (option_copied c.hashable.result)) c.count-count.ensures) (omega (arith, c.bucket_among.ensures.inside, c.count-count.ensures)) c.index-at.ensures;
      onward = omega arith;
    }

pub returns-in_default : goal.returns-in_default
returns-in_default c =
    let terms = (dictionary_of c.args.dictionary.now).terms in
    none_left terms (record { tag = tag_in c.args.sort; name = c.args.name.now }) c.loop-step.at c.loop-step.invariant.reached (sym (ap (option_and_then term_in) c.in_default.is) ∙ c.own_type.ensures.found ∙ ap (slice_get terms) c.from.ensures)

pub returns-then-is_called : goal.returns-then-is_called
returns-then-is_called c =
    let terms = (dictionary_of c.args.dictionary.now).terms in
    ap Some c.from-then-is_called.ensures ∙ hit terms (record { tag = tag_in c.args.sort; name = c.args.name.now }) c.loop-step.at (term_in c.in-Some.found) c.is_called.result c.loop-step.invariant.reached (c.in-Some.ensures.found ∙ ap (slice_get terms) c.from.ensures) c.is_called.ensures c.if-is_called.true

pub loop-step-preserved : goal.loop-step-preserved
loop-step-preserved c =
    let terms = (dictionary_of c.args.dictionary.now).terms in
    let next = c.args.self.now.next.items in
    let at = c.loop-step.at in
    let gone = missed terms c.args.self.now.heads.items c.args.self.now.next.items (record { tag = tag_in c.args.sort; name = c.args.name.now }) c.loop-step.at (term_in c.in-Some.found) c.is_called.result c.requires c.loop-step.invariant.reached (c.in-Some.ensures.found ∙ ap (slice_get terms) c.from.ensures) c.is_called.ensures c.if-is_called.false in
    let short : c.loop-step.at < length c.args.self.now.next.items = omega (arith, c.in-Some.ensures.inside, c.from.ensures, c.requires.next_count) in
    let read : c.index-at-in-loop-step.result.now ≡ get_or c.args.self.now.next.items c.loop-step.at 0 = c.index-at-in-loop-step.ensures ∙ ap (λ (k : ℕ). get_or c.args.self.now.next.items k c.index-at-in-loop-step.result.now) c.from-in-loop-step.ensures ∙ get_or_default c.args.self.now.next.items c.loop-step.at c.index-at-in-loop-step.result.now 0 short in
    record {
      reached = rw read gone.reached;
      onward = omega (arith, gone.onward, read, c.loop-step.invariant.onward);
    }

pub returns : goal.returns
returns c =
    let terms = (dictionary_of c.args.dictionary.now).terms in
    ended terms (record { tag = tag_in c.args.sort; name = c.args.name.now }) c.loop-step.at c.loop-step.invariant.reached (omega (arith, c.loop-step.invariant.onward, c.loop-step-test.false, c.count-count.ensures))
