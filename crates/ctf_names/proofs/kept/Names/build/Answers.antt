use Rattle.std.proofs.Common.{◌∙◌, arith}
use Rattle.ctf_check.specs.CheckedView.{dictionary_of, lists_of}
use Rattle.ctf_space.proofs.Few.{few_terms}
use Rattle.ctf_names.proofs.InChains.{none_chained}
use Rattle.ctf_names.proofs.Pointing.{none_pointed}
use Rattle.ctf_names.proofs.kept.Names.build.Goals as goal

pub bucket_count-requires : goal.bucket_count-requires
bucket_count-requires c =
    let few = few_terms (lists_of c.args.dictionary.now) c.args.dictionary.now.faultless in
    omega (arith, few, c.count-count.ensures)

pub fill-requires-clause-chained : goal.fill-requires-clause-chained
fill-requires-clause-chained c =
    let few = few_terms (lists_of c.args.dictionary.now) c.args.dictionary.now.faultless in
    none_chained (dictionary_of c.args.dictionary.now).terms c.as_mut_slice.result.now c.as_mut_slice-2.result.now c.bucket_count.result c.count-count.result (c.as_mut_slice.ensures.value ∙ c.in_ok-heads.ensures) (c.as_mut_slice-2.ensures.value ∙ c.in_ok-next.ensures) (omega (arith, c.bucket_count.ensures, c.count-count.ensures)) c.count-count.ensures few

pub fill-requires-clause-pointers : goal.fill-requires-clause-pointers
fill-requires-clause-pointers c =
    let few = few_terms (lists_of c.args.dictionary.now) c.args.dictionary.now.faultless in
    none_pointed (dictionary_of c.args.dictionary.now).terms c.number_before-base.result c.saturating_add.result c.as_mut_slice-3.result.now c.new-outside.result.items (c.as_mut_slice-3.ensures.value ∙ c.in_ok-firsts.ensures) c.new-outside.ensures.items few
