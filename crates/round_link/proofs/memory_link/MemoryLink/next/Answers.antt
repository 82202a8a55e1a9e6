use Rattle.std.proofs.Common.{ap, sym, subst, ◌∙◌, ◌≡◌, ◌+◌, ◌<◌, ℕ, List, [], ◌∷◌, ◌++◌, Some, length, drop, get_or, Option}
use Rattle.round_link.proofs.Fronts.{drop-front}
use Rattle.round_link.specs.declared.link_call.LinkCall.{LinkCall}
use Rattle.round_link.specs.declared.link_call.LinkCall.TheVariants.{Received}
use Rattle.round_link.specs.Memory.{LinkState}
use Rattle.round_link.specs.Traffic.{Traffic}
use Rattle.round_link.proofs.memory_link.MemoryLink.next.Goals as goal

pub returns-clause-taken : goal.returns-clause-taken
returns-clause-taken c =
    let arrivals = c.self.inside.arrivals.items in
    let taken = c.self.inside.taken in
    let frame = c.in-Some.frame.now in
    let is = c.in-Some.ensures.lookup in
    let at = c.deref.ensures.value in
    let same : c.in_ok-frame.frame ≡ frame = c.in_ok-frame.ensures ∙ c.deref-3.ensures.value ∙ c.items-2.ensures in
    let told : c.in_ok-told.told ≡ frame = c.in_ok-told.ensures ∙ c.deref-2.ensures.value ∙ c.items.ensures in
    let given = c.in_ok-frame.frame in
    let left : drop taken arrivals ≡ given ∷ drop (taken + 1) arrivals =
    drop-front arrivals taken frame (subst (λ (l : List (List ℕ)). taken < length l) at is.3.0)
    (is.1 ∙ ap (λ (l : List (List ℕ)). get_or l taken frame) at)
    ∙ ap (λ (l : List ℕ). l ∷ drop (taken + 1) arrivals) (sym same) in
    let pushed : c.push-2.new.self.items ≡ c.self.inside.calls.items ++ Received (Some c.in_ok-told.told) ∷ [] = c.in_ok-push-2.ensures.items in
    let calls : c.push-2.new.self.items ≡ c.args.self.now.calls ++ Received (Some given) ∷ [] =
    pushed ∙ ap (λ (l : List ℕ). c.self.inside.calls.items ++ Received (Some l) ∷ []) (told ∙ sym same)
    ∙ ap (λ (l : List LinkCall). l ++ Received (Some given) ∷ []) (ap (λ (s : LinkState). s.calls) c.self.view_is) in
    let traffic : List LinkCall → Option Traffic = λ calls. Some (record { left = drop (taken + 1) arrivals; calls = calls }) in
    (drop (taken + 1) arrivals, (ap (λ (s : LinkState). s.left) (sym c.self.view_is) ∙ left), ap traffic calls)
