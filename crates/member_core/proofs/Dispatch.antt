-- What a member has to say by the kind of its stage, and that being asked at a stage that takes no secret changes nothing.
use Rattle.std.proofs.Common.{◌≡◌, ℕ, ◌≤◌, true, false, List, Option, Some, None, ap, sym, ◌∙◌, refl, subst, arith, inl, inr}
use Rattle.std.proofs.lemmas.Bool.{cases_lt}
use Rattle.phase_message.specs.declared.content.Body.{Body}
use Rattle.phase_message.specs.declared.header.Header.{Header}
use Rattle.phase_message.specs.declared.post.Post.{Post}
use Rattle.phase_message.specs.declared.stage.StageKind.{StageKind}
use Rattle.phase_message.specs.declared.stage.StageKind.TheVariants.{Keys, Submit, Shuffle, Go, Final, Pad, Check, Confirm}
use Rattle.phase_message.specs.Grammar.{IsBody, IsHeader, OfGrammar, content_text}
use Rattle.phase_message.specs.Shape.{Shape}
use Rattle.phase_message.specs.Stages.{kind_of_stage, shape_of, speaks}
use Rattle.phase_message.proofs.Table.{final_a_is, final_b_is, submit_a_is, submit_b_is}
use Rattle.stage_log.specs.Log.{contents_of, view_of}
use Rattle.shuffle_blame.specs.Asked.{past_of}
use Rattle.round_spec.specs.Say.{Configuration, content_with, own_body_at, own_body_if, own_header, shape_in}
use Rattle.round_spec.specs.Slots.{final_stage, submit_stage}
use Rattle.honest_say.specs.Seats.{IsSeatOf, header_at}
use Rattle.member_spec.specs.declared.mood.Mood.TheVariants.{Spoken}
use Rattle.member_spec.specs.Actor.{Actor, content_to_say, descriptor_made}
use Rattle.member_spec.specs.Replies.{Replies}
use Rattle.member_parts.specs.declared.own.Own.{Own}
use Rattle.member_parts.specs.declared.secrets.Secrets.{Secrets}
use Rattle.member_core.specs.declared.machine.Machine.{Machine}
use Rattle.member_core.specs.Asking.{IsDue, IsPlainKind, IsToBeAsked, StandsAsked, asked_at, content_here}
use Rattle.member_core.specs.Membership.{holdings_of}
use Rattle.member_core.specs.Needs.{HoldsNeeded}
use Rattle.member_core.specs.Sound.{IsFormed, IsReady}
use Rattle.member_core.specs.Stands.{StandsFor}
use Rattle.member_core.proofs.Changes.{ready-else}
use Rattle.member_core.proofs.BeingAsked.{asked-with, goes-on_as, needed-asked, own-asked}
use Rattle.member_core.proofs.Belonging.{past-is, seat-of, shape-is}
use Rattle.member_core.proofs.StageKinds.{IsPlaced, kind-place}

-- ---- stages that take no secret

-- a stage is of one kind
one-kind : (o : Option StageKind) (kind other : StageKind) → o ≡ Some kind → o ≡ Some other → other ≡ kind
one-kind o kind other is also = let both : Some other ≡ Some kind = sym also ∙ is in cc

-- a stage of another kind is none of those that take one
pub record IsApart (shape : Shape) (stage : ℕ) : Type 0 where
  pub submit_a : 1 ≡ stage → ⊥
  pub submit_b : submit_stage shape 2 ≡ stage → ⊥
  pub final_a : final_stage shape 1 ≡ stage → ⊥
  pub final_b : final_stage shape 2 ≡ stage → ⊥

pub plain-apart : (shape : Shape) (stage : ℕ) (kind : StageKind) → kind_of_stage shape stage ≡ Some kind → IsPlainKind kind
    → IsApart shape stage
plain-apart shape stage kind is plain = record {
  submit_a = λ e. subst IsPlainKind (sym (one-kind (kind_of_stage shape stage) kind (Submit 1) is (submit_a_is shape stage (sym e)))) plain;
  submit_b = λ e. subst IsPlainKind (sym (one-kind (kind_of_stage shape stage) kind (Submit 2) is (submit_b_is shape stage (sym e)))) plain;
  final_a = λ e. subst IsPlainKind (sym (one-kind (kind_of_stage shape stage) kind (Final 1) is (final_a_is shape stage (omega arith))))
      plain;
  final_b = λ e. subst IsPlainKind (sym (one-kind (kind_of_stage shape stage) kind (Final 2) is (final_b_is shape stage (omega arith))))
      plain;
}

-- a kind is none of these if it is neither a submission nor an end
pub plain-kind : (kind : StageKind) → ((shuffle : ℕ) → kind ≡ Submit shuffle → ⊥) → ((shuffle : ℕ) → kind ≡ Final shuffle → ⊥)
    → IsPlainKind kind
plain-kind Keys none other = tt
plain-kind (Submit shuffle) none other = none shuffle refl
plain-kind (Shuffle shuffle k) none other = tt
plain-kind (Go shuffle) none other = tt
plain-kind (Final shuffle) none other = other shuffle refl
plain-kind Pad none other = tt
plain-kind Check none other = tt
plain-kind Confirm none other = tt

-- ---- the kind of its stage

-- what is told of the seat's shape is so of the log's
pub kind-told : (m : Machine) (o : Option StageKind) → IsFormed m → o ≡ kind_of_stage (shape_of m.seat.shape) m.stage
    → kind_of_stage m.log.shape m.stage ≡ o
kind-told m o f told = ap (λ (shape : Shape). kind_of_stage shape m.stage) f.shape ∙ sym told

-- a member that speaks is at a stage of the round
pub has-kind : (m : Machine) → IsToBeAsked m → kind_of_stage m.log.shape m.stage ≡ None → ⊥
has-kind m asked none =
    let silent = ap (λ (o : Option StageKind). speaks m.log.shape o m.seat.number) none in
    let both : true ≡ false = sym asked.speaks ∙ silent in
    cc

pub kind-here : (m : Machine) → IsToBeAsked m → (kind : StageKind) × (kind_of_stage m.log.shape m.stage ≡ Some kind)
kind-here m asked = by_kind (kind_of_stage m.log.shape m.stage) refl
  where
    by_kind : (o : Option StageKind) → kind_of_stage m.log.shape m.stage ≡ o → (kind : StageKind)
        × (kind_of_stage m.log.shape m.stage ≡ Some kind)
    by_kind (Some kind) e = (kind, e)
    by_kind None e = absurd (has-kind m asked e)

-- the shuffles are two
pub second-shuffle : (shape : Shape) (stage shuffle : ℕ) → kind_of_stage shape stage ≡ Some (Submit shuffle) → (shuffle ≡ 1 → ⊥)
    → shuffle ≡ 2
second-shuffle shape stage shuffle at other =
    let place : IsPlaced shape stage (Submit shuffle) = kind-place shape stage (Submit shuffle) at in
    let bounds : (1 ≤ shuffle) × (shuffle ≤ 2) = place.kind_in in
    elim (cases_lt 1 shuffle) [
      | inl above ↦ omega (arith, bounds.1)
      | inr le ↦ absurd (other (omega (arith, bounds.0)))
    ]

-- what is due at the stage as one of a kind is due there
pub due-of : (now : Replies) (m : Machine) (kind other : StageKind) (body : Body) → kind_of_stage m.log.shape m.stage ≡ Some kind
    → kind_of_stage m.log.shape m.stage ≡ Some other → IsDue now m kind body → IsDue now m other body
due-of now m kind other body is also due =
    subst (λ (k : StageKind). IsDue now m k body) (sym (one-kind (kind_of_stage m.log.shape m.stage) kind other is also)) due

-- ---- where it was asked

-- it holds just what it needs once it was asked
pub needed-plain : (m : Machine) → HoldsNeeded (holdings_of m) → IsToBeAsked m → IsApart m.log.shape m.stage
    → HoldsNeeded (asked_at (holdings_of m) Spoken)
needed-plain m n asked apart = needed-asked m m.own asked n apart.final_a apart.submit_b apart.final_b

-- and stands as one that was asked
pub stands-plain : (now start : Replies) (c : Configuration) (a : Actor) (m : Machine) → IsToBeAsked m → IsApart m.log.shape m.stage
    → StandsFor now start c a (holdings_of m) → StandsAsked now start c a (holdings_of m)
stands-plain now start c a m asked apart s =
    asked-with now now start c a m m.secrets m.own s s.entered.secrets (goes-on_as now start c a m asked s apart.submit_a)
    (own-asked now start c a m m.secrets asked s apart.submit_a apart.submit_b)

-- ---- what is left of the member

pub same-own : (m n : Machine) → n ≡ record m { own = n.own } → n ≡ record m { secrets = n.secrets; own = n.own }
same-own m n e = e ∙ ap (λ (s : Secrets). record m { secrets = s; own = n.own }) (sym (ap (λ (x : Machine). x.secrets) e))

pub same-secrets : (m n : Machine) → n ≡ record m { secrets = n.secrets } → n ≡ record m { secrets = n.secrets; own = n.own }
same-secrets m n e = e ∙ ap (λ (o : Own). record m { secrets = n.secrets; own = o }) (sym (ap (λ (x : Machine). x.own) e))

-- ---- the content

-- a body that fits is of the grammar under the member's header
pub content-form : (m : Machine) (header : Header) (body : Body) → IsFormed m → header ≡ (content_here m body).header
    → IsHeader (shape_of m.seat.shape) header → IsBody m.log.shape m.stage body → OfGrammar m.log.shape (content_here m body)
content-form m header body f same form fits =
    (subst (IsHeader m.log.shape) same (subst (λ (shape : Shape). IsHeader shape header) (sym f.shape) form), fits)

-- ---- a member that is left with other secrets, and what it made of its own

pub ready-left : (m n : Machine) → n ≡ record m { secrets = n.secrets; own = n.own } → IsReady m → IsReady n
ready-left m n e r =
    subst IsReady (sym e) (ready-else m m.leaves m.stray m.handed n.secrets n.own m.mood r.mood r)

pub asked-left : (m n : Machine) → n ≡ record m { secrets = n.secrets; own = n.own } → IsToBeAsked m → IsToBeAsked n
asked-left m n e asked = subst IsToBeAsked (sym e) (record { going = asked.going; speaks = asked.speaks; unasked = asked.unasked })

-- what does not hang on these is so of it
pub left-so : (P : Machine → Type 0) (m n : Machine) → n ≡ record m { secrets = n.secrets; own = n.own }
    → P (record m { secrets = n.secrets; own = n.own }) → P n
left-so P m n e so = subst P (sym e) so

-- the bytes are those of the pure machine
pub content-is : (now start : Replies) (c : Configuration) (a : Actor) (m : Machine) (kind : StageKind) (body : Body) → IsFormed m
    → kind_of_stage m.log.shape m.stage ≡ Some kind → StandsFor now start c a (holdings_of m)
    → body ≡ own_body_at c (descriptor_made start c a.stand.past) a.stand.past a.stand.at kind
    → content_text (content_here m body) ≡ content_to_say start c a.stand
unfolding content_to_say content_with
content-is now start c a m kind body f at s told =
    let seat : IsSeatOf c m.seat = seat-of c m f s.entered in
    let shape : m.log.shape ≡ shape_in c = shape-is c m f seat in
    let past : past_of m.log m.stage ≡ contents_of a.stand.past = past-is m.log m.stage a.stand.past s.at.past in
    let header : (content_here m body).header ≡ own_header c a.stand.past a.stand.at = header-is c a.stand.past a.stand.at m f seat
    (ap (λ (said : List (List ℕ)). view_of m.log.shape said m.stage) past
    ∙ ap (λ (sh : Shape). view_of sh (contents_of a.stand.past) m.stage) shape
    ∙ ap (view_of (shape_in c) (contents_of a.stand.past)) s.at.stage) s.at.stage in
    let here : kind_of_stage (shape_in c) a.stand.at ≡ Some kind =
    sym (ap (λ (sh : Shape). kind_of_stage sh m.stage) shape ∙ ap (kind_of_stage (shape_in c)) s.at.stage) ∙ at in
    ap (λ (h : Header). content_text (record { header = h; body = body })) header
    ∙ ap (λ (b : Body). content_text (record { header = own_header c a.stand.past a.stand.at; body = b }))
    (told ∙ sym (ap (own_body_if c (descriptor_made start c a.stand.past) a.stand.past a.stand.at) here))
  where
    header-is : (c : Configuration) (past : List Post) (at : ℕ) (m : Machine) → IsFormed m → IsSeatOf c m.seat
        → view_of m.log.shape (past_of m.log m.stage) m.stage ≡ view_of (shape_in c) (contents_of past) at → m.stage ≡ at
        → header_at m.seat m.stage (view_of m.log.shape (past_of m.log m.stage) m.stage) ≡ own_header c past at
    header-is c past at m f seat view stage =
        let version : m.seat.shape.version ≡ c.roster.version = ap (λ (sh : Shape). sh.version) seat.shape in
        let group = seat.group in
        let round = seat.round in
        let number = seat.number in
        cc
