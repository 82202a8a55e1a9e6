-- Whomever a replay blames is a member.
use Rattle.std.proofs.Common.{arith, refl, Bool, false, List, None, Option, Some, ap, inl, inr, subst, sym, true, ◌≡◌, ◌∙◌, ◌∷◌, ◌≤◌, ◌+◌, [], ℕ}
use Rattle.shuffle_blame.specs.declared.fault.Cause.TheVariants.{View, OuterSeed, Submission, Shuffle, FalseNoGo}
use Rattle.phase_message.specs.declared.stage.StageKind.TheVariants.{Keys as AtKeys, Submit as AtSubmit, Shuffle as AtShuffle, Go as AtGo, Final as AtFinal, Pad as AtPad, Check as AtCheck, Confirm as AtConfirm}
use Rattle.shuffle_blame.specs.declared.fault.Fault.{Fault}
use Rattle.shuffle_blame.specs.Replay.{Inquiry, culprit_at, culprit_of, fault, first_member, has_layer, is_turn, layer_fault, seed_fault, shows_its_seed, submission_fault, turn_fault, view_fault, vote_fault, votes_yes}
use Rattle.phase_message.specs.Shape.{Shape}
use Rattle.phase_message.specs.declared.stage.Slot.{Slot}
use Rattle.phase_message.specs.declared.stage.StageKind.{StageKind}
use Rattle.std.proofs.lemmas.Bool.{cases_Bool, cond-false, cond-true}
use Rattle.wire_core.specs.Answers.{fault_unless, first_some}
use Rattle.wire_core.proofs.AnswerLemmas.{first_below-found, first_some-some_parts}
use Rattle.stage_log.specs.Log.{first_wrong, is_right, wrong_at, wrong_slot}
use Rattle.phase_message.specs.Stages.{is_slot, kind_of_stage}
use Rattle.std.proofs.lemmas.Option.{none-some}
use Rattle.std.specs.Prelude.{option_and_then}
use Rattle.stage_log.proofs.Pasts.{option_map-some}
use Rattle.phase_message.proofs.SlotBounds.{slot-bounds}
use Rattle.phase_message.specs.Slots.{slot_at, slots_before}
use Rattle.phase_message.proofs.SlotLists.{slot_at-is}

unless-found : {A : Type 0} (b : Bool) (x y : A) → fault_unless b x ≡ Some y → x ≡ y
unless-found true x y e = absurd (none-some y e)
unless-found false x y e = (let same = e in cc)

-- one of the members of the round
abbrev IsOneOf : Inquiry → ℕ → Type 0
IsOneOf q member = (1 ≤ member) × (member ≤ q.shape.members)

first-one : (q : Inquiry) (fault_at : ℕ → Option Fault) (found : Fault)
    → ((member : ℕ) (f : Fault) → IsOneOf q member → fault_at member ≡ Some f → IsOneOf q f.member)
    → first_member q fault_at ≡ Some found → IsOneOf q found.member
first-one q fault_at found names e =
    let at = first_below-found (λ place. fault_at (place + 1)) q.shape.members found e in
    let within = at.1 in
    names (at.0 + 1) found (omega arith, omega arith) at.2

unless-one : (q : Inquiry) (member : ℕ) (b : Bool) (x found : Fault) → x.member ≡ member → IsOneOf q member → fault_unless b x ≡ Some found
    → IsOneOf q found.member
unless-one q member b x found is one e = subst (IsOneOf q) (sym is ∙ ap (λ (f : Fault). f.member) (unless-found b x found e)) one

wrong-speaks : (shape : Shape) (past : List (List ℕ)) (number : ℕ) (slot : Slot) → wrong_at shape past number ≡ Some slot
    → is_slot shape slot.stage slot.sender ≡ true
wrong-speaks shape past number slot e = by_slot (slot_at shape number) refl
  where
    some-slot : (a b : Slot) → (let told : Slot → Option Slot = λ z. Some z in told a ≡ told b) → a ≡ b
    some-slot a b e = cc

    wrong-is : (at : Slot) → wrong_slot shape past at ≡ Some slot → at ≡ slot
    wrong-is at e = elim (cases_Bool (is_right shape past at)) [
      | inl right ↦ absurd (none-some slot (sym (cond-true (is_right shape past at) None (Some at) right) ∙ e))
      | inr wrong ↦ some-slot at slot (sym (cond-false (is_right shape past at) None (Some at) wrong) ∙ e)
    ]

    by_slot : (o : Option Slot) → slot_at shape number ≡ o → is_slot shape slot.stage slot.sender ≡ true
    by_slot None at = absurd (none-some slot (sym (ap (option_and_then (wrong_slot shape past)) at) ∙ e))
    by_slot (Some there) at =
        let same = wrong-is there (sym (ap (option_and_then (wrong_slot shape past)) at) ∙ e) in
        subst (λ (s : Slot). is_slot shape s.stage s.sender ≡ true) same (slot_at-is shape number there at).0

view-one : (q : Inquiry) (found : Fault) → view_fault q ≡ Some found → IsOneOf q found.member
view-one q found e =
    let slot = option_map-some (λ (slot : Slot). fault View slot.sender) (first_wrong q.shape q.past q.stage) found e in
    let at = first_below-found (wrong_at q.shape q.past) (slots_before q.shape q.stage) slot.0 slot.1 in
    let bounds = slot-bounds q.shape slot.0.stage slot.0.sender (wrong-speaks q.shape q.past at.0 slot.0 at.2) in
    subst (IsOneOf q) (ap (λ (f : Fault). f.member) slot.2) (bounds.1, bounds.2)

vote-one : (q : Inquiry) (found : Fault) → vote_fault q ≡ Some found → IsOneOf q found.member
vote-one q found e = first-one q (λ member. fault_unless (votes_yes q member) (fault FalseNoGo member)) found
    (λ member f one at. unless-one q member (votes_yes q member) (fault FalseNoGo member) f refl one at) e

seed-one : (q : Inquiry) (shuffle : ℕ) (found : Fault) → seed_fault q shuffle ≡ Some found → IsOneOf q found.member
seed-one q shuffle found e = first-one q (λ member. fault_unless (shows_its_seed q shuffle member) (fault OuterSeed member)) found
    (λ member f one at. unless-one q member (shows_its_seed q shuffle member) (fault OuterSeed member) f refl one at) e

submission-one : (q : Inquiry) (shuffle : ℕ) (found : Fault) → submission_fault q shuffle ≡ Some found → IsOneOf q found.member
submission-one q shuffle found e = first-one q (layer_fault q shuffle) found
    (λ member f one at. first-one q (λ layer. fault_unless (has_layer q shuffle member layer) (fault (Submission layer) member)) f
    (λ layer g its here. unless-one q member (has_layer q shuffle member layer) (fault (Submission layer) member) g refl one here) at) e

turn-one : (q : Inquiry) (found : Fault) → turn_fault q ≡ Some found → IsOneOf q found.member
turn-one q found e = first-one q (λ turn. fault_unless (is_turn q turn) (fault Shuffle turn)) found
    (λ turn f one at. unless-one q turn (is_turn q turn) (fault Shuffle turn) f refl one at) e

two-one : (q : Inquiry) (found : Fault) → first_some (view_fault q ∷ vote_fault q ∷ []) ≡ Some found → IsOneOf q found.member
two-one q found e = elim (first_some-some_parts (view_fault q) (vote_fault q ∷ []) found e) [
  | inl view ↦ view-one q found view
  | inr later ↦ elim (first_some-some_parts (vote_fault q) [] found later.1) [
    | inl vote ↦ vote-one q found vote
    | inr nothing ↦ absurd (none-some found nothing.1)
  ]
]

five-one : (q : Inquiry) (shuffle : ℕ) (found : Fault)
    → first_some (view_fault q ∷ seed_fault q shuffle ∷ submission_fault q shuffle ∷ turn_fault q ∷ vote_fault q ∷ []) ≡ Some found
    → IsOneOf q found.member
five-one q shuffle found e = elim (first_some-some_parts (view_fault q)
    (seed_fault q shuffle ∷ submission_fault q shuffle ∷ turn_fault q ∷ vote_fault q ∷ []) found e) [
      | inl view ↦ view-one q found view
      | inr a ↦ elim (first_some-some_parts (seed_fault q shuffle) (submission_fault q shuffle ∷ turn_fault q ∷ vote_fault q ∷ []) found a.1) [
        | inl seed ↦ seed-one q shuffle found seed
        | inr b ↦ elim (first_some-some_parts (submission_fault q shuffle) (turn_fault q ∷ vote_fault q ∷ []) found b.1) [
          | inl submitted ↦ submission-one q shuffle found submitted
          | inr c ↦ elim (first_some-some_parts (turn_fault q) (vote_fault q ∷ []) found c.1) [
            | inl turn ↦ turn-one q found turn
            | inr d ↦ elim (first_some-some_parts (vote_fault q) [] found d.1) [
              | inl vote ↦ vote-one q found vote
              | inr nothing ↦ absurd (none-some found nothing.1)
            ]
          ]
        ]
      ]
    ]

pub culprit-one : (q : Inquiry) (found : Fault) → culprit_of q ≡ Some found → (1 ≤ found.member) × (found.member ≤ q.shape.members)
culprit-one q found e = by_kind (kind_of_stage q.shape q.stage) e
  where
    by_kind : (o : Option StageKind) → culprit_at o q ≡ Some found → IsOneOf q found.member
    by_kind (Some (AtFinal shuffle)) e = five-one q shuffle found e
    by_kind None e = two-one q found e
    by_kind (Some AtKeys) e = two-one q found e
    by_kind (Some (AtSubmit shuffle)) e = two-one q found e
    by_kind (Some (AtShuffle shuffle k)) e = two-one q found e
    by_kind (Some (AtGo shuffle)) e = two-one q found e
    by_kind (Some AtPad) e = two-one q found e
    by_kind (Some AtCheck) e = two-one q found e
    by_kind (Some AtConfirm) e = two-one q found e
