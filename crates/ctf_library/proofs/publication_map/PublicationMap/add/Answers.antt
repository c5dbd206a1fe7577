use Rattle.std.proofs.Common.{◌++◌, ◌∷◌, [], List, Ok, Option, ap, sym, ◌∙◌, refl}
use Rattle.std.specs.Prelude.{is_some, not}
use Rattle.ctf_model.specs.spaces.Kept.{Kept}
use Rattle.ctf_library.proofs.Published.{added_kept, added_seen, are_free, are_taken}
use Rattle.ctf_protocol.specs.sessions.Publications.{published_as}
use Rattle.ctf_protocol.specs.sessions.State.{Publication}
use Rattle.ctf_library.proofs.publication_map.PublicationMap.add.Goals as goal

pub returns-then-not-branch-clause-free : goal.returns-then-not-branch-clause-free
returns-then-not-branch-clause-free c =
    let named = c.in_ok-key.ensures ∙ c.as_slice.ensures in
    let taken = are_taken c.args.name.now c.in_ok-key.key c.self.inside.by_name c.self.inside.turns c.self.inside.bytes c.self.invariant named (sym c.in_ok-put_new.ensures.free ∙ c.if-not-branch.true) in
    sym (ap (λ (ps : List Publication). not (is_some (published_as c.args.name.now ps))) (sym c.self.view_is) ∙ taken)

pub invariant_of-self-2 : goal.invariant_of-self-2
invariant_of-self-2 c =
    let named = c.in_ok-key.ensures ∙ c.as_slice.ensures in
    let free = are_free c.args.name.now c.in_ok-key.key c.self.inside.by_name c.self.inside.turns c.self.inside.bytes c.self.invariant named (sym c.in_ok-put_new.ensures.free ∙ c.if-not-branch.false) in
    let put = c.in_ok-put_new.ensures.put (ap Ok c.if-not-branch.false) in
    added_kept c.args.name.now c.in_ok-key.key _ c.self.inside.by_name c.put_new.new.map c.self.inside.turns c.self.inside.bytes c.bytes-bytes.result c.self.invariant free named refl put c.put_new.ensures.ordered c.bytes-bytes.ensures.count

pub returns-clause-free : goal.returns-clause-free
returns-clause-free c =
    let named = c.in_ok-key.ensures ∙ c.as_slice.ensures in
    let free = are_free c.args.name.now c.in_ok-key.key c.self.inside.by_name c.self.inside.turns c.self.inside.bytes c.self.invariant named (sym c.in_ok-put_new.ensures.free ∙ c.if-not-branch.false) in
    ap (λ (o : Option Kept). not (is_some o)) (sym (ap (published_as c.args.name.now) (sym c.self.view_is) ∙ free))

pub returns-clause-added : goal.returns-clause-added
returns-clause-added c = λ _.
    let named = c.in_ok-key.ensures ∙ c.as_slice.ensures in
    let free = are_free c.args.name.now c.in_ok-key.key c.self.inside.by_name c.self.inside.turns c.self.inside.bytes c.self.invariant named (sym c.in_ok-put_new.ensures.free ∙ c.if-not-branch.false) in
    let put = c.in_ok-put_new.ensures.put (ap Ok c.if-not-branch.false) in
    added_seen c.args.name.now c.in_ok-key.key _ c.self.inside.by_name c.put_new.new.map c.self.inside.turns c.self.inside.bytes c.self.invariant free named refl put ∙ ap (λ (ps : List Publication). ps ++ (record { name = c.args.name.now; kept = c.args.loaded }) ∷ []) c.self.view_is
