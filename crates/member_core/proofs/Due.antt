-- What a call of a row gives is what the rules give the member to say.
use Rattle.std.proofs.Common.{◌≡◌, ℕ, ◌+◌, ◌-◌, ◌≤◌, Bool, List, length, Option, Some, None, ap, sym, ◌∙◌, subst, arith, inl, inr}
use Rattle.std.specs.Prelude.{IfSome}
use Rattle.std.proofs.lemmas.Bool.{cases_eq}
use Rattle.wire_core.proofs.ByteLists.{hash_bytes}
use Rattle.phase_message.specs.declared.content.Body.{Body}
use Rattle.phase_message.specs.declared.post.Post.{Post}
use Rattle.phase_message.specs.declared.post.TheConstants.{POST_LIMIT}
use Rattle.phase_message.specs.declared.stage.StageKind.{StageKind}
use Rattle.phase_message.specs.declared.stage.StageKind.TheVariants.{Keys, Shuffle, Go, Final, Pad, Check, Confirm}
use Rattle.phase_message.specs.Grammar.{IsBody, body_text}
use Rattle.phase_message.specs.Shape.{Shape}
use Rattle.phase_message.specs.Stages.{kind_of_stage}
use Rattle.stage_log.specs.Log.{contents_of}
use Rattle.stage_log.specs.Seen.{HasSeen}
use Rattle.bulk_descriptor.specs.Descriptor.{own_pad}
use Rattle.go_nogo.specs.Rows.{all_right, check_row, confirm_row, final_row, go_row}
use Rattle.shuffle_blame.specs.Asked.{past_of}
use Rattle.shuffle_blame.specs.Replay.{outer_place}
use Rattle.round_spec.specs.Slots.{final_stage, inner_place, items_opened}
use Rattle.round_spec.specs.Say.{Configuration, keys_row, own_body_at, own_key_seed, own_pad_seeds, own_submission, pads_row, shape_in, turn_row}
use Rattle.conviction.proofs.Closings.{confirm-body, final-body}
use Rattle.conviction.proofs.OwnVotes.{check-body, go-body}
use Rattle.honest_say.specs.Own.{AreBulkSecrets, AreShuffleSecrets}
use Rattle.honest_say.specs.declared.secrets.BulkSecrets.{BulkSecrets}
use Rattle.honest_say.specs.Pasts.{posts_before}
use Rattle.honest_say.specs.Seats.{IsSeatOf}
use Rattle.honest_say.specs.declared.secrets.ShuffleSecrets.{ShuffleSecrets}
use Rattle.honest_say.proofs.PastLemmas.{posts-are}
use Rattle.member_spec.specs.Actor.{Actor, descriptor_made}
use Rattle.member_spec.specs.Replies.{Replies}
use Rattle.member_parts.specs.Secrets.{AreSecretsOf}
use Rattle.member_core.specs.declared.machine.Machine.{Machine}
use Rattle.member_core.specs.Asking.{IsDue, IsToBeAsked}
use Rattle.member_core.specs.Membership.{holdings_of}
use Rattle.member_core.specs.Sound.{IsFormed, IsMachineOf, IsReady}
use Rattle.member_core.specs.Stands.{StandsFor}
use Rattle.member_core.proofs.Belonging.{IsOfGroup, of-group, past-is, seat-of, shape-is}
use Rattle.member_core.proofs.RowForms.{keys-fit, pads-fit, turn-fits}
use Rattle.member_core.proofs.RowLengths.{AreShort, IsClosedBy, IsPlain, confirm-short, final-short, plain-short, posts-short}
use Rattle.member_core.proofs.Submitting.{descriptor-kept, first-kept, pad-kept, second-kept}
use Rattle.member_core.proofs.StageKinds.{IsPlaced, kind-place}

-- ---- where a member is asked

-- what it has heard is what it answers for
pub past-heard : (now start : Replies) (c : Configuration) (a : Actor) (m : Machine) → StandsFor now start c a (holdings_of m)
    → past_of m.log m.stage ≡ contents_of a.stand.past
past-heard now start c a m stands = past-is m.log m.stage a.stand.past stands.at.past

pub posts-heard : (now start : Replies) (c : Configuration) (a : Actor) (m : Machine) → StandsFor now start c a (holdings_of m)
    → posts_before m.log m.stage ≡ a.stand.past
posts-heard now start c a m stands = posts-are m.log m.stage a.stand.past stands.at.past

-- a body at a stage that closes nothing
pub plain-due : (now : Replies) (m : Machine) (kind : StageKind) (body : Body) → IsFormed m → IsToBeAsked m
    → kind_of_stage m.log.shape m.stage ≡ Some kind → IsPlain kind
    → IsBody m.log.shape m.stage body
    → ((start : Replies) (c : Configuration) (a : Actor) → StandsFor now start c a (holdings_of m)
    → body ≡ own_body_at c (descriptor_made start c a.stand.past) a.stand.past a.stand.at kind)
    → 76 + length (body_text body) ≤ POST_LIMIT
plain-due now m kind body formed asked at plain fits told =
    let group : IsOfGroup m = of-group m formed in
    let least = group.least in
    plain-short m.log.shape m.stage m.seat.number kind body (omega (arith, least)) group.most asked.speaks at plain fits

-- ---- keys

pub keys-due : (now : Replies) (m : Machine) (body : Body) → IsFormed m → IsToBeAsked m → kind_of_stage m.log.shape m.stage ≡ Some Keys
    → ((c : Configuration) → AreSecretsOf c m.secrets → body ≡ keys_row c) → IsDue now m Keys body
keys-due now m body formed asked at said =
    let row : body ≡ keys_row formed.entered.0 = said formed.entered.0 formed.entered.1.secrets in
    let fits : IsBody m.log.shape m.stage body = subst (IsBody m.log.shape m.stage) (sym row)
    (keys-fit formed.entered.0 m.log.shape m.stage at) in
    let told : (start : Replies) (c : Configuration) (a : Actor) → StandsFor now start c a (holdings_of m) → body ≡ keys_row c
    = λ start c a stands. said c stands.entered.secrets in
    record { fits = fits; short = plain-due now m Keys body formed asked at tt fits told; told = told }

-- ---- votes

row-moved : (f : Shape → List (List ℕ) → ℕ → Body) (now start : Replies) (c : Configuration) (a : Actor) (m : Machine) → IsFormed m
    → StandsFor now start c a (holdings_of m)
    → f m.log.shape (past_of m.log m.stage) m.stage ≡ f (shape_in c) (contents_of a.stand.past) a.stand.at
row-moved f now start c a m formed stands =
    ap (λ (s : Shape). f s (past_of m.log m.stage) m.stage) (shape-is c m formed (seat-of c m formed stands.entered))
    ∙ ap (λ (past : List (List ℕ)). f (shape_in c) past m.stage) (past-heard now start c a m stands)
    ∙ ap (f (shape_in c) (contents_of a.stand.past)) stands.at.stage

posts-moved : (f : Shape → List Post → ℕ → Body) (now start : Replies) (c : Configuration) (a : Actor) (m : Machine) → IsFormed m
    → StandsFor now start c a (holdings_of m)
    → f m.log.shape (posts_before m.log m.stage) m.stage ≡ f (shape_in c) a.stand.past a.stand.at
posts-moved f now start c a m formed stands =
    ap (λ (s : Shape). f s (posts_before m.log m.stage) m.stage) (shape-is c m formed (seat-of c m formed stands.entered))
    ∙ ap (λ (posts : List Post). f (shape_in c) posts m.stage) (posts-heard now start c a m stands)
    ∙ ap (f (shape_in c) a.stand.past) stands.at.stage

-- what was seen is whether all is right
pub seen-right : (m : Machine) (right : Bool) → IsReady m → ((shape : Shape) (past : List (List ℕ)) (stage : ℕ)
    → HasSeen shape past stage m.seen → right ≡ all_right shape past stage)
    → right ≡ all_right m.log.shape (past_of m.log m.stage) m.stage
seen-right m right ready told = told m.log.shape (past_of m.log m.stage) m.stage ready.seen

pub check-due : (now : Replies) (m : Machine) (body : Body) → IsFormed m → IsToBeAsked m → kind_of_stage m.log.shape m.stage ≡ Some Check
    → body ≡ check_row m.log.shape (past_of m.log m.stage) m.stage → IsDue now m Check body
check-due now m body formed asked at said =
    let fits : IsBody m.log.shape m.stage body = subst (IsBody m.log.shape m.stage) (sym said)
    (check-body m.log.shape (past_of m.log m.stage) m.stage at) in
    let told : (start : Replies) (c : Configuration) (a : Actor) → StandsFor now start c a (holdings_of m)
    → body ≡ check_row (shape_in c) (contents_of a.stand.past) a.stand.at
    = λ start c a stands. said ∙ row-moved check_row now start c a m formed stands in
    record { fits = fits; short = plain-due now m Check body formed asked at tt fits told; told = told }

pub go-due : (now : Replies) (m : Machine) (shuffle : ℕ) (body : Body) → IsFormed m → IsToBeAsked m
    → kind_of_stage m.log.shape m.stage ≡ Some (Go shuffle)
    → body ≡ go_row m.log.shape (past_of m.log m.stage) m.stage m.own.inner_ciphertext → IsDue now m (Go shuffle) body
go-due now m shuffle body formed asked at said =
    let placed : IsPlaced m.log.shape m.stage (Go shuffle) = kind-place m.log.shape m.stage (Go shuffle) at in
    let group : IsOfGroup m = of-group m formed in
    let least = group.least in
    let fits : IsBody m.log.shape m.stage body = subst (IsBody m.log.shape m.stage) (sym said)
    (go-body m.log.shape (past_of m.log m.stage) m.stage shuffle m.own.inner_ciphertext at) in
    let told : (start : Replies) (c : Configuration) (a : Actor) → StandsFor now start c a (holdings_of m)
    → body ≡ go_row (shape_in c) (contents_of a.stand.past) a.stand.at
    (own_submission c (descriptor_made start c a.stand.past) (contents_of a.stand.past) shuffle).inner_ciphertext
    = λ start c a stands.
    let inner : m.own.inner_ciphertext ≡ (own_submission c (descriptor_made start c a.stand.past) (contents_of a.stand.past)
    shuffle).inner_ciphertext
    = elim (cases_eq shuffle 1) [
      | inl one ↦ subst (λ (s : ℕ). m.own.inner_ciphertext ≡ (own_submission c (descriptor_made start c a.stand.past)
          (contents_of a.stand.past) s).inner_ciphertext) (sym one)
          (let stage_is : m.stage ≡ final_stage m.log.shape 1 - 1 = placed.at ∙ ap (λ (s : ℕ). final_stage m.log.shape s - 1) one in
          first-kept now start c a m formed asked stands (omega (arith, stage_is, least)) (omega (arith, stage_is)))
      | inr other ↦ (let within = placed.kind_in in let two : shuffle ≡ 2 = omega (arith, within.0, within.1) in
          subst (λ (s : ℕ). m.own.inner_ciphertext ≡ (own_submission c (descriptor_made start c a.stand.past) (contents_of a.stand.past)
          s).inner_ciphertext) (sym two)
          (let stage_is : m.stage ≡ final_stage m.log.shape 2 - 1 = placed.at ∙ ap (λ (s : ℕ). final_stage m.log.shape s - 1) two in
          second-kept now start c a m formed asked stands (omega (arith, stage_is))))
    ] in
    said ∙ row-moved (λ s past stage. go_row s past stage m.own.inner_ciphertext) now start c a m formed stands
    ∙ ap (go_row (shape_in c) (contents_of a.stand.past) a.stand.at) inner in
    record { fits = fits; short = plain-due now m (Go shuffle) body formed asked at tt fits told; told = told }

-- ---- turns

pub turn-due : (now : Replies) (m : Machine) (shuffle : ℕ) (body : Body) → IsFormed m → IsReady m → IsToBeAsked m
    → kind_of_stage m.log.shape m.stage ≡ Some (Shuffle shuffle m.seat.number)
    → ((c : Configuration) → IsSeatOf c m.seat → AreSecretsOf c m.secrets → body ≡ turn_row c (past_of m.log m.stage) shuffle)
    → IsDue now m (Shuffle shuffle m.seat.number) body
turn-due now m shuffle body formed ready asked at said =
    let placed : IsPlaced m.log.shape m.stage (Shuffle shuffle m.seat.number) = kind-place m.log.shape m.stage
    (Shuffle shuffle m.seat.number) at in
    let within = placed.kind_in in
    let own : IsMachineOf formed.entered.0 m = formed.entered.1 in
    let group : IsOfGroup m = of-group m formed in
    let fits : IsBody m.log.shape m.stage body = subst (IsBody m.log.shape m.stage) (sym (said formed.entered.0 own.seat own.secrets))
    (turn-fits formed.entered.0 m.log m.stage shuffle m.seat.number
    (record { form = formed.log; complete = ready.past; stand = formed.stand; first = within.0; last = within.1 })
    (shape-is formed.entered.0 m formed own.seat) (sym own.seat.number) group.first group.last group.most placed.at at) in
    let told : (start : Replies) (c : Configuration) (a : Actor) → StandsFor now start c a (holdings_of m)
    → body ≡ turn_row c (contents_of a.stand.past) shuffle
    = λ start c a stands. said c (seat-of c m formed stands.entered) stands.entered.secrets
    ∙ ap (λ (past : List (List ℕ)). turn_row c past shuffle) (past-heard now start c a m stands) in
    record { fits = fits; short = plain-due now m (Shuffle shuffle m.seat.number) body formed asked at tt fits told; told = told }

-- ---- pads

-- what a member entered with, with another message
abbrev with_message : Configuration → List ℕ → Configuration
with_message c message = record c { message = message }

pub pads-due : (now : Replies) (m : Machine) (body : Body) (opened : List (Option (List ℕ))) → IsFormed m → IsToBeAsked m
    → kind_of_stage m.log.shape m.stage ≡ Some Pad
    → opened ≡ items_opened m.log.shape (past_of m.log m.stage) 1 → length opened ≡ m.log.shape.members
    → ((c : Configuration) → IsSeatOf c m.seat → AreSecretsOf c m.secrets → m.own.pad ≡ own_pad (own_pad_seeds c) c.number c.message
    → opened ≡ items_opened (shape_in c) (past_of m.log m.stage) 1 → body ≡ pads_row c m.own.descriptor (past_of m.log m.stage))
    → IsDue now m Pad body
pads-due now m body opened formed asked at are count said =
    let placed : IsPlaced m.log.shape m.stage Pad = kind-place m.log.shape m.stage Pad at in
    let own : IsMachineOf formed.entered.0 m = formed.entered.1 in
    let stage_is = placed.at in
    let c0 : Configuration = with_message formed.entered.0 own.hidden in
    let seat : IsSeatOf c0 m.seat = record {
      shape = own.seat.shape;
      group = own.seat.group;
      round = own.seat.round;
      number =
          own.seat.number;
    } in
    let secrets : AreSecretsOf c0 m.secrets = other-message formed.entered.0 own.hidden m own.secrets in
    let shape : m.log.shape ≡ shape_in c0 = shape-is c0 m formed seat in
    let items : opened ≡ items_opened (shape_in c0) (past_of m.log m.stage) 1 = are
    ∙ ap (λ (s : Shape). items_opened s (past_of m.log m.stage) 1) shape in
    let row : body ≡ pads_row c0 m.own.descriptor (past_of m.log m.stage) = said c0 seat secrets own.pad items in
    let many : length (items_opened (shape_in c0) (past_of m.log m.stage) 1) ≡ (shape_in c0).members = sym
    (ap (λ (o : List (Option (List ℕ))). length o) items) ∙ count ∙ ap (λ (s : Shape). s.members) shape in
    let fits : IsBody m.log.shape m.stage body = subst (IsBody m.log.shape m.stage) (sym row)
    (subst (λ (s : Shape). IsBody s m.stage (pads_row c0 m.own.descriptor (past_of m.log m.stage))) (sym shape)
    (pads-fit c0 m.own.descriptor (past_of m.log m.stage) m.stage (ap (λ (s : Shape). kind_of_stage s m.stage) (sym shape) ∙ at)
    own.hidden_short many)) in
    let told : (start : Replies) (c : Configuration) (a : Actor) → StandsFor now start c a (holdings_of m)
    → body ≡ pads_row c (descriptor_made start c a.stand.past) (contents_of a.stand.past)
    = λ start c a stands.
    let here = seat-of c m formed stands.entered in
    said c here stands.entered.secrets (pad-kept now start c a m asked stands (omega (arith, stage_is)))
    (are ∙ ap (λ (s : Shape). items_opened s (past_of m.log m.stage) 1) (shape-is c m formed here))
    ∙ ap (λ (d : List ℕ). pads_row c d (past_of m.log m.stage))
    (descriptor-kept now start c a m formed asked stands (omega (arith, stage_is)))
    ∙ ap (pads_row c (descriptor_made start c a.stand.past)) (past-heard now start c a m stands) in
    record { fits = fits; short = plain-due now m Pad body formed asked at tt fits told; told = told }
  where
    other-message : (c : Configuration) (message : List ℕ) (m : Machine) → AreSecretsOf c m.secrets
        → AreSecretsOf (with_message c message) m.secrets
    other-message c message m are = record {
      first = shuffle_for m.secrets.first 1 are.first;
      bulk = bulk_for m.secrets.bulk are.bulk;
      second = shuffle_for m.secrets.second 2 are.second;
    }
      where
        shuffle_for : (o : Option ShuffleSecrets) (shuffle : ℕ) → IfSome o (AreShuffleSecrets c shuffle)
            → IfSome o (AreShuffleSecrets (with_message c message) shuffle)
        shuffle_for None shuffle are = tt
        shuffle_for (Some secrets) shuffle are = record {
          inner = are.inner;
          outer = are.outer;
          order = are.order;
          inner_opening =
              are.inner_opening;
          outer_opening = are.outer_opening;
        }

        bulk_for : (o : Option BulkSecrets) → IfSome o (AreBulkSecrets c) → IfSome o (AreBulkSecrets (with_message c message))
        bulk_for None are = tt
        bulk_for (Some secrets) are = record { key = are.key; pad_seeds = are.pad_seeds }

-- ---- closing contents

closed-by : (m : Machine) → IsFormed m → IsReady m → IsClosedBy m.log m.stage m.seat.number
closed-by m formed ready =
    let group : IsOfGroup m = of-group m formed in
    record { form = formed.log; complete = ready.past; short = formed.short; few = group.most; first = group.first; last = group.last }

pub confirm-due : (now : Replies) (m : Machine) (body : Body) → IsFormed m → IsReady m → IsToBeAsked m
    → kind_of_stage m.log.shape m.stage ≡ Some Confirm
    → body ≡ confirm_row m.log.shape (posts_before m.log m.stage) m.stage → IsDue now m Confirm body
confirm-due now m body formed ready asked at said =
    let placed : IsPlaced m.log.shape m.stage Confirm = kind-place m.log.shape m.stage Confirm at in
    let stage_is = placed.at in
    let short = confirm-short m.log m.stage m.seat.number (closed-by m formed ready) placed.at in
    let past : AreShort m.log.shape m.stage (posts_before m.log m.stage) = posts-short m.log m.stage m.seat.number formed.log ready.past
    (omega (arith, stage_is)) formed.short in
    record {
      fits = subst (IsBody m.log.shape m.stage) (sym said) (confirm-body m.log.shape (posts_before m.log m.stage) m.stage at past.whole
          past.short);
      short = omega (arith, short, ap (λ (b : Body). length (body_text b)) said);
      told = λ start c a stands. said ∙ posts-moved confirm_row now start c a m formed stands;
    }

pub final-due : (now : Replies) (m : Machine) (shuffle : ℕ) (body : Body) (secrets : ShuffleSecrets) → IsFormed m → IsReady m
    → IsToBeAsked m → kind_of_stage m.log.shape m.stage ≡ Some (Final shuffle)
    → ((c : Configuration) → AreSecretsOf c m.secrets → AreShuffleSecrets c shuffle secrets)
    → body ≡ final_row m.log.shape (posts_before m.log m.stage) m.stage secrets.inner secrets.outer secrets.outer_opening
    → IsDue now m (Final shuffle) body
final-due now m shuffle body secrets formed ready asked at are said =
    let placed : IsPlaced m.log.shape m.stage (Final shuffle) = kind-place m.log.shape m.stage (Final shuffle) at in
    let within = placed.kind_in in
    let own : AreShuffleSecrets formed.entered.0 shuffle secrets = are formed.entered.0 formed.entered.1.secrets in
    let inner = ap (λ (s : List ℕ). length s) own.inner ∙ (hash_bytes _ _).0 in
    let outer = ap (λ (s : List ℕ). length s) own.outer ∙ (hash_bytes _ _).0 in
    let opening = ap (λ (s : List ℕ). length s) own.outer_opening ∙ (hash_bytes _ _).0 in
    let short = final-short m.log m.stage shuffle m.seat.number secrets.inner secrets.outer secrets.outer_opening (closed-by m formed ready)
    placed inner outer opening in
    let most : m.stage ≤ final_stage m.log.shape 2 = elim (cases_eq shuffle 1) [
      | inl one ↦ omega (arith, placed.at, ap (final_stage m.log.shape) one)
      | inr other ↦ (let two : shuffle ≡ 2 = omega (arith, within.0, within.1) in omega
          (arith, placed.at, ap (final_stage m.log.shape) two))
    ] in
    let past : AreShort m.log.shape m.stage (posts_before m.log m.stage) = posts-short m.log m.stage m.seat.number formed.log ready.past
    most formed.short in
    record {
      fits = subst (IsBody m.log.shape m.stage) (sym said) (final-body m.log.shape (posts_before m.log m.stage) m.stage shuffle
          secrets.inner secrets.outer secrets.outer_opening at past.whole past.short inner outer opening);
      short = omega (arith, short, ap (λ (b : Body). length (body_text b)) said);
      told = λ start c a stands. (
          let its = are c stands.entered.secrets in
          said ∙ posts-moved (λ s posts stage. final_row s posts stage secrets.inner secrets.outer secrets.outer_opening) now start c a m
          formed stands
          ∙ ap (λ (x : List ℕ). final_row (shape_in c) a.stand.past a.stand.at x secrets.outer secrets.outer_opening) its.inner
          ∙ ap (λ (x : List ℕ). final_row (shape_in c) a.stand.past a.stand.at (own_key_seed c (inner_place shuffle)) x
          secrets.outer_opening) its.outer
          ∙ ap (final_row (shape_in c) a.stand.past a.stand.at (own_key_seed c (inner_place shuffle))
          (own_key_seed c (outer_place shuffle))) its.outer_opening);
    }
