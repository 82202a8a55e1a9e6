-- A member that submits: what it says, and what it keeps of its own from then on.
use Rattle.std.proofs.Common.{◌≡◌, ℕ, ◌<◌, ◌≤◌, true, false, Bool, List, Some, length, ap, sym, ◌∙◌, subst, arith, rules}
use Rattle.phase_message.specs.declared.content.Body.TheVariants.{Submit as SubmitBody}
use Rattle.phase_message.specs.declared.stage.StageKind.TheVariants.{Submit}
use Rattle.phase_message.specs.Grammar.{IsBody}
use Rattle.phase_message.specs.Shape.{Shape}
use Rattle.phase_message.specs.Stages.{kind_of_stage}
use Rattle.stage_log.specs.Log.{contents_of}
use Rattle.shuffle_core.specs.declared.entry.Submission.{Submission}
use Rattle.bulk_descriptor.specs.Descriptor.{descriptor_text, own_pad}
use Rattle.shuffle_blame.specs.Asked.{past_of}
use Rattle.round_spec.specs.Slots.{submit_stage}
use Rattle.round_spec.specs.Say.{Configuration, own_description, own_item, own_pad_seeds, own_submission, shape_in}
use Rattle.honest_say.specs.Pasts.{posts_before}
use Rattle.honest_say.specs.Seats.{IsSeatOf}
use Rattle.member_spec.specs.declared.mood.Mood.TheVariants.{Spoken}
use Rattle.member_spec.specs.Actor.{Actor, descriptor_made}
use Rattle.member_spec.specs.Replies.{Replies}
use Rattle.member_parts.specs.declared.own.Own.{Own}
use Rattle.member_parts.specs.Secrets.{AreSecretsOf, without_bulk}
use Rattle.member_core.specs.declared.machine.Machine.{Machine}
use Rattle.member_core.specs.Asking.{IsDue, IsToBeAsked, StandsAsked}
use Rattle.member_core.specs.Membership.{holdings_of}
use Rattle.member_core.specs.Needs.{was_asked}
use Rattle.member_core.specs.Sound.{IsFormed, IsMachineOf}
use Rattle.member_core.specs.Stands.{AnswersBy, GoesOn, IsOwnOf, StandsFor}
use Rattle.member_core.proofs.Changes.{formed-with, held-with}
use Rattle.member_core.proofs.Belonging.{seat-of, shape-is}
use Rattle.member_core.proofs.BeingAsked.{asked-here, asked-same, asked-with, goes-on_as, secrets-bulk}
use Rattle.member_core.proofs.Due.{past-heard, plain-due}
use Rattle.member_core.proofs.RowForms.{item_size, submission-fits}
use Rattle.member_core.proofs.Submitting.{not-asked, own-kept}

-- ---- what it says

pub submit-due : (now : Replies) (m : Machine) (shuffle : ℕ) (own : List ℕ) (submission : Submission) → IsFormed m → IsToBeAsked m
    → kind_of_stage m.log.shape m.stage ≡ Some (Submit shuffle)
    → ((c : Configuration) → IsMachineOf c m → length (own_item c own (past_of m.log m.stage) shuffle) ≡ item_size m.log.shape.members
    shuffle)
    → ((c : Configuration) → IsSeatOf c m.seat → AreSecretsOf c m.secrets
    → submission ≡ own_submission c own (past_of m.log m.stage) shuffle)
    → ((start : Replies) (c : Configuration) (a : Actor) → StandsFor now start c a (holdings_of m)
    → own ≡ descriptor_made start c a.stand.past)
    → IsDue now m (Submit shuffle) (SubmitBody submission.ciphertext)
submit-due now m shuffle own submission formed asked at long said made =
    let c0 : Configuration = formed.entered.0 in
    let its : IsMachineOf c0 m = formed.entered.1 in
    let past : List (List ℕ) = past_of m.log m.stage in
    let shape : m.log.shape ≡ shape_in c0 = shape-is c0 m formed its.seat in
    let size : length (own_item c0 own past shuffle) ≡ item_size (shape_in c0).members shuffle = long c0 its
    ∙ ap (λ (s : Shape). item_size s.members shuffle) shape in
    let form : IsBody (shape_in c0) m.stage (SubmitBody (own_submission c0 own past shuffle).ciphertext)
    = submission-fits c0 own past m.stage shuffle (ap (λ (s : Shape). kind_of_stage s m.stage) (sym shape) ∙ at) size in
    let fits : IsBody m.log.shape m.stage (SubmitBody submission.ciphertext)
    = subst (λ (s : Shape). IsBody s m.stage (SubmitBody submission.ciphertext)) (sym shape)
    (subst (λ (x : Submission). IsBody (shape_in c0) m.stage (SubmitBody x.ciphertext)) (sym (said c0 its.seat its.secrets)) form) in
    let told : (start : Replies) (c : Configuration) (a : Actor) → StandsFor now start c a (holdings_of m)
    → SubmitBody submission.ciphertext ≡ SubmitBody (own_submission c (descriptor_made start c a.stand.past) (contents_of a.stand.past)
    shuffle).ciphertext
    = λ start c a stands.
    ap (λ (x : Submission). SubmitBody x.ciphertext) (said c (seat-of c m formed stands.entered) stands.entered.secrets)
    ∙ ap (λ (d : List ℕ). SubmitBody (own_submission c d (past_of m.log m.stage) shuffle).ciphertext) (made start c a stands)
    ∙ ap (λ (p : List (List ℕ)). SubmitBody (own_submission c (descriptor_made start c a.stand.past) p shuffle).ciphertext)
    (past-heard now start c a m stands) in
    record {
      fits = fits;
      short = plain-due now m (Submit shuffle) (SubmitBody submission.ciphertext) formed asked at tt fits told;
      told =
          told;
    }

-- ---- at shuffle A

-- its conduct answers as at the start
pub same-at-first : (now start : Replies) (c : Configuration) (a : Actor) (m : Machine) → IsToBeAsked m
    → StandsFor now start c a (holdings_of m) → m.stage ≤ 1 → now ≡ start
same-at-first now start c a m asked stands le =
    subst (AnswersBy now start c (past_of m.log 1)) (not-asked m 1 asked le)
    (subst (GoesOn now start c (holdings_of m)) asked.unasked stands.conduct)

-- the bytes are those that the conduct made of the own descriptor
pub made-first : (now start : Replies) (c : Configuration) (a : Actor) (m : Machine) (own : List ℕ) → IsToBeAsked m
    → StandsFor now start c a (holdings_of m) → m.stage ≤ 1
    → own ≡ descriptor_text (now.descriptor (own_description c (past_of m.log m.stage))) → own ≡ descriptor_made start c a.stand.past
made-first now start c a m own asked stands le told =
    told ∙ ap (λ (r : Replies). descriptor_text (r.descriptor (own_description c (past_of m.log m.stage))))
    (same-at-first now start c a m asked stands le)
    ∙ ap (λ (past : List (List ℕ)). descriptor_text (start.descriptor (own_description c past))) (past-heard now start c a m stands)

later-not : (stage other : ℕ) → stage < other → was_asked stage Spoken other ≡ false
later-not stage other lt = search rules

not-both : {P : Type 0} (b : Bool) → b ≡ true → b ≡ false → P
not-both b e f = (let both : true ≡ false = sym e ∙ f in absurd cc)

-- what it keeps of its own stays that of its pads, whatever its conduct
pub formed-first : (m : Machine) (own : Own) → IsFormed m → ((c : Configuration) → IsMachineOf c m
    → own.pad ≡ own_pad (own_pad_seeds c) c.number c.message)
    → IsFormed (record m { own = own })
formed-first m own formed pad =
    let c : Configuration = formed.entered.0 in
    let its : IsMachineOf c m = formed.entered.1 in
    let short = formed.message in
    formed-with m m.secrets own formed (
      c,
      record {
        roster = its.roster;
        seat = its.seat;
        message = its.message;
        secrets = its.secrets;
        hidden = c.message;
        hidden_short = omega (arith, short, ap (λ (t : List ℕ). length t) its.message);
        pad = pad c its;
      },
    )

pub stands-first : (now after start : Replies) (c : Configuration) (a : Actor) (m : Machine) (own : Own) → IsToBeAsked m
    → StandsFor now start c a (holdings_of m) → m.stage ≡ 1
    → own.descriptor ≡ descriptor_text (now.descriptor (own_description c (past_of m.log m.stage)))
    → own.pad ≡ own_pad (own_pad_seeds c) c.number c.message
    → own.inner_ciphertext ≡ (own_submission c own.descriptor (past_of m.log m.stage) 1).inner_ciphertext
    → after.speech ≡ now.speech_after (own_description c (past_of m.log m.stage))
    → StandsAsked after start c a (holdings_of (record m { own = own }))
stands-first now after start c a m own asked stands at descriptor pad inner told =
    let le : m.stage ≤ 1 = omega (arith, at) in
    let same : now ≡ start = same-at-first now start c a m asked stands le in
    let here : was_asked m.stage Spoken 1 ≡ true = ap (was_asked m.stage Spoken) (sym at) ∙ asked-here m.stage in
    let answers : after.speech ≡ start.speech_after (own_description c (past_of m.log 1))
    = told ∙ ap (λ (r : Replies). r.speech_after (own_description c (past_of m.log m.stage))) same
    ∙ ap (λ (s : ℕ). start.speech_after (own_description c (past_of m.log s))) at in
    let made : own.descriptor ≡ descriptor_made start c (posts_before m.log 1)
    = descriptor ∙ ap (λ (r : Replies). descriptor_text (r.descriptor (own_description c (past_of m.log m.stage)))) same
    ∙ ap (λ (s : ℕ). descriptor_text (start.descriptor (own_description c (past_of m.log s)))) at in
    let submitted : own.inner_ciphertext ≡ (own_submission c own.descriptor (past_of m.log 1) 1).inner_ciphertext
    = inner ∙ ap (λ (s : ℕ). (own_submission c own.descriptor (past_of m.log s) 1).inner_ciphertext) at in
    asked-with now after start c a m m.secrets own stands stands.entered.secrets
    (subst (AnswersBy after start c (past_of m.log 1)) (sym here) answers)
    (record {
      descriptor = λ was. made;
      pad = λ was. pad;
      first = λ was not_yet. submitted;
      second = λ was. not-both (was_asked m.stage Spoken (submit_stage m.log.shape 2)) was
          (later-not m.stage (submit_stage m.log.shape 2) (omega (arith, at)));
    })

-- ---- at shuffle B

pub formed-second : (m : Machine) (inner : List ℕ) → IsFormed m
    → IsFormed (record m { secrets = without_bulk m.secrets; own = record m.own { inner_ciphertext = inner } })
formed-second m inner formed =
    let c : Configuration = formed.entered.0 in
    let its : IsMachineOf c m = formed.entered.1 in
    formed-with m (without_bulk m.secrets) (record m.own { inner_ciphertext = inner }) formed
    (c, held-with c m (without_bulk m.secrets) its (secrets-bulk c m.secrets its.secrets))

pub stands-second : (now start : Replies) (c : Configuration) (a : Actor) (m : Machine) (inner : List ℕ) → IsToBeAsked m
    → StandsFor now start c a (holdings_of m)
    → m.stage ≡ submit_stage m.log.shape 2
    → inner ≡ (own_submission c m.own.descriptor (past_of m.log m.stage) 2).inner_ciphertext
    → StandsAsked now start c a (holdings_of (record m {
      secrets = without_bulk m.secrets;
      own = record m.own { inner_ciphertext = inner };
    }))
stands-second now start c a m inner asked stands at submitted =
    let apart : 1 ≡ m.stage → ⊥ = λ e. omega (arith, e, at) in
    let own : IsOwnOf start c (holdings_of m) = own-kept now start c a m asked stands in
    let same = asked-same m 1 asked apart in
    let here : was_asked m.stage Spoken (submit_stage m.log.shape 2) ≡ true = ap (was_asked m.stage Spoken) (sym at) ∙ asked-here m.stage in
    let second : inner ≡ (own_submission c m.own.descriptor (past_of m.log (submit_stage m.log.shape 2)) 2).inner_ciphertext
    = submitted ∙ ap (λ (s : ℕ). (own_submission c m.own.descriptor (past_of m.log s) 2).inner_ciphertext) at in
    asked-with now now start c a m (without_bulk m.secrets) (record m.own { inner_ciphertext = inner }) stands
    (secrets-bulk c m.secrets stands.entered.secrets)
    (goes-on_as now start c a m asked stands apart)
    (record {
      descriptor = λ was. own.descriptor (sym same ∙ was);
      pad = λ was. own.pad (sym same ∙ was);
      first = λ was not_yet. not-both (was_asked m.stage Spoken (submit_stage m.log.shape 2)) here not_yet;
      second = λ was. second;
    })
