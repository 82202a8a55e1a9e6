use Rattle.std.proofs.Common.{ℕ, List, length, replicate, Option, None, ap, sym, ◌∙◌, arith}
use Rattle.phase_message.specs.Shape.{Shape}
use Rattle.shuffle_blame.specs.Asked.{past_of}
use Rattle.round_spec.specs.Slots.{list_said}
use Rattle.honest_say.proofs.OpeningLemmas.{last-count, opened-count, opens-none, opens-some}
use Rattle.honest_say.proofs.opening.opened_items.Goals as goal

pub returns-in_ok-items-in-None-clause-value : goal.returns-in_ok-items-in-None-clause-value
returns-in_ok-items-in-None-clause-value c =
    let log = c.args.log.now in
    let past : List (List ℕ) = past_of log c.args.stage in
    let members = ap (λ (s : Shape). s.members) c.shape-members.ensures.shape in
    let said = c.in_ok-list_said.ensures.value ∙ ap (list_said log.shape past c.args.shuffle) members in
    let none = rw c.in-None.is at said in
    let unopened : ℕ → List (Option (List ℕ)) = λ n. replicate n None in
    c.in_ok-items-in-None.ensures ∙ ap unopened members ∙ opens-none log.shape past c.args.shuffle (sym none)

pub returns-in_ok-items-in-Some-clause-value : goal.returns-in_ok-items-in-Some-clause-value
returns-in_ok-items-in-Some-clause-value c =
    let log = c.args.log.now in
    let past : List (List ℕ) = past_of log c.args.stage in
    let members = ap (λ (s : Shape). s.members) c.shape-members.ensures.shape in
    let said = c.in_ok-list_said.ensures.value ∙ ap (list_said log.shape past c.args.shuffle) members in
    let some = rw c.in-Some.is at said in
    c.in_ok-items-in-Some.ensures ∙ opens-some log.shape past c.args.seeds.now.items c.in-Some.list.items c.args.shuffle (sym some)
    c.requires.seeds

pub returns-in_ok-items-in-Some-clause-count : goal.returns-in_ok-items-in-Some-clause-count
returns-in_ok-items-in-Some-clause-count c =
    let log = c.args.log.now in
    let past : List (List ℕ) = past_of log c.args.stage in
    let members = ap (λ (s : Shape). s.members) c.shape-members.ensures.shape in
    let said = c.in_ok-list_said.ensures.value ∙ ap (list_said log.shape past c.args.shuffle) members in
    let some = rw c.in-Some.is at said in
    let items = c.in_ok-items-in-Some.items in
    let opened = ap (λ (t : List (Option (List ℕ))). length t) c.in_ok-items-in-Some.ensures
    ∙ opened-count c.args.seeds.now.items c.in-Some.list.items in
    let count = last-count log c.args.stage c.args.shuffle c.in-Some.list.items c.shape-members.ensures.form c.requires.complete
    c.requires.first c.requires.last c.requires.later c.requires.stand (sym some) in
    omega (arith, items.ok.0, opened, count)
