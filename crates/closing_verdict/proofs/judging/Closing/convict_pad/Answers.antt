use Rattle.std.proofs.Common.{◌≡◌, true, ℕ, ◌≤◌, List, [], ◌∷◌, ◌++◌, Some, map, take, ap, sym, ◌∙◌, subst, rules}
use Rattle.phase_message.specs.Post.{post_spelling}
use Rattle.phase_message.specs.Shape.{Shape}
use Rattle.phase_message.specs.Slots.{slots_before}
use Rattle.transcript_form.specs.declared.accusation.Accusation.{Accusation}
use Rattle.transcript_form.specs.declared.claim.Claim.TheVariants.{Pad}
use Rattle.round_spec.specs.Slots.{pad_stage}
use Rattle.round_spec.specs.Verdict.{ClosedStage, Verdict, bad_pad, past_at, sent_in, shape_at}
use Rattle.round_spec.proofs.SealedBytes.{all-items}
use Rattle.closing_verdict.specs.declared.convicting.Conviction.{Conviction}
use Rattle.closing_verdict.specs.Convicting.{IsConvictionBy, TellsConviction}
use Rattle.closing_verdict.specs.Judgement.{Completed, IsComplete, completed_of, stage_closed}
use Rattle.closing_verdict.specs.Telling.{is_held_at}
use Rattle.closing_verdict.proofs.Accusings.{held-member}
use Rattle.closing_verdict.proofs.Charges.{is-charge}
use Rattle.closing_verdict.proofs.judging.Closing.convict_pad.Goals as goal

-- the accused is a member of the log's round
accused-one : (c : Completed) (a : Accusation) → IsComplete c → is_held_at (stage_closed c) a ≡ true → (1 ≤ a.member)
    × (a.member ≤ c.log.shape.members)
accused-one c a is held =
    let member = held-member (shape_at (stage_closed c)) (past_at (stage_closed c)) a held in
    subst (λ (shape : Shape). (1 ≤ a.member) × (a.member ≤ shape.members)) (sym is.shape) member

pub pads_sent-requires-clause-least : goal.pads_sent-requires-clause-least
pads_sent-requires-clause-least c = (accused-one (completed_of c.args.self) c.args.accusation c.requires.closing.complete c.requires.held).0

pub pads_sent-requires-clause-most : goal.pads_sent-requires-clause-most
pads_sent-requires-clause-most c = (accused-one (completed_of c.args.self) c.args.accusation c.requires.closing.complete c.requires.held).1

pub shown_by-requires : goal.shown_by-requires
shown_by-requires c =
    let log = c.args.self.log.now in
    let one = accused-one (completed_of c.args.self) c.args.accusation c.requires.closing.complete c.requires.held in
    is-charge log.shape _ c.in_ok-posts.posts.items c.requires.closing.complete.form.shape one.0 one.1 (search rules) (search rules)
    c.in_ok-posts.ensures.count (all-items _ c.in_ok-posts.posts.items c.in_ok-posts.ensures.short)

-- the posts of the verdict, by the shape of the log
pad-verdict : (c : Completed) (a : Accusation) (posts : List (List ℕ)) (conviction : Conviction) (verdict : Verdict) → IsComplete c
    → verdict ≡ bad_pad (stage_closed c) a
    → posts ≡ map post_spelling (take (slots_before c.log.shape (pad_stage c.log.shape)) (stage_closed c).posts)
    ++ sent_in (stage_closed c) (pad_stage c.log.shape) a.member ∷ []
    → IsConvictionBy (record { claim = Pad; accused = a.member; round = c.round; detail = Some a; posts = posts }) conviction
    → TellsConviction verdict conviction
pad-verdict c a posts conviction verdict is e are by =
    let v : ClosedStage = stage_closed c in
    let same = are ∙ ap (λ (shape : Shape). map post_spelling (take (slots_before shape (pad_stage shape)) v.posts)
    ++ sent_in v (pad_stage shape) a.member ∷ []) is.shape in
    subst (λ (x : Verdict). TellsConviction x conviction) (sym e)
    (subst (λ (p : List (List ℕ)). IsConvictionBy (record { claim = Pad; accused = a.member; round = c.round; detail = Some a; posts = p })
    conviction) same by)

pub returns : goal.returns
returns c =
    pad-verdict (completed_of c.args.self) c.args.accusation c.in_ok-posts.posts.items c.in_ok-conviction.conviction _
    c.requires.closing.complete c.requires.verdict c.in_ok-posts.ensures.value c.in_ok-conviction.ensures
