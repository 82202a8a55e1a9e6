-- Where votes are not unanimous, the replay of what was said before them blames somebody.
use Rattle.std.proofs.Common.{◌≡◌, ℕ, zero, suc, ◌+◌, ◌-◌, ◌<◌, ◌≤◌, Bool, true, List, [], ◌∷◌, length, get_or, map, take, drop, Option, Some, None, Result, Ok, Err, ap, sym, ◌∙◌, refl, subst, arith, rules, inl, inr}
use Rattle.std.specs.Prelude.{◌⊎◌, IsSome, is_some, bytes_eq, slice_index_or, option_and_then}
use Rattle.std.specs.List.{list_all}
use Rattle.std.proofs.lemmas.Bool.{cases_Bool, and_from, true_from_ne_false}
use Rattle.std.proofs.lemmas.List.{get_or-take, get_or-drop, length-drop, length-take-le}
use Rattle.std.proofs.lemmas.Slice.Eq.{bytes_eq-Decides}
use Rattle.phase_message.specs.declared.content.Body.{Body}
use Rattle.phase_message.specs.declared.content.Body.TheVariants.{Keys, Submit, Shuffled, Abort, Go, Reveal, Dispute, Pads, Check, Confirm, Differ}
use Rattle.phase_message.specs.declared.content.Content.{Content}
use Rattle.phase_message.specs.declared.stage.StageKind.{StageKind}
use Rattle.phase_message.specs.declared.stage.StageKind.TheVariants.{Keys as AtKeys, Submit as AtSubmit, Shuffle as AtShuffle, Go as AtGo, Final as AtFinal, Pad as AtPad, Check as AtCheck, Confirm as AtConfirm}
use Rattle.phase_message.specs.declared.offence.Offence.{Offence}
use Rattle.phase_message.specs.Offence.{content_read}
use Rattle.phase_message.specs.Shape.{Shape}
use Rattle.phase_message.specs.Slots.{place_in, senders_of, slot_number, slots_before}
use Rattle.phase_message.specs.Stages.{is_member, is_sender, is_slot, kind_of_stage, speaks, vote_of}
use Rattle.phase_message.proofs.Closings.{closing-follows}
use Rattle.phase_message.proofs.Counts.{slots_next}
use Rattle.stage_log.specs.Log.{all_some, contents_at}
use Rattle.stage_log.proofs.Pasts.{all_some-map, slice_range-take}
use Rattle.phase_message.proofs.SlotLists.{slots_before-rises}
use Rattle.go_nogo.specs.declared.votes.Vote.{Vote}
use Rattle.go_nogo.specs.Votes.{are_unanimous, body_vote, has_unanimous, is_unanimous, is_yes_with, vote_of as vote_in, vote_read, votes_agree}
use Rattle.shuffle_blame.specs.Replay.{Inquiry, body_of, bytes_in, culprit_of, is_yes, votes_yes}
use Rattle.shuffle_blame.specs.Laws.{IsMember}
use Rattle.shuffle_blame.proofs.Faults.{unlike_votes_blame}
use Rattle.round_spec.specs.Verdict.{is_closing}
use Rattle.round_spec.specs.Laws.{NotUnanimousBlames}

-- ---- unanimous votes

-- the same vote everywhere
same-votes : (shape : Shape) (vote : Vote) (contents : List (List ℕ))
    → ((i : ℕ) → i < length contents → vote_in shape (get_or contents i []) ≡ Some vote)
    → map (vote_in shape) contents ≡ map (λ v. Some v) (map (λ content. vote) contents)
same-votes shape vote [] each = refl
same-votes shape vote (content ∷ contents) each =
    ap (λ (o : Option Vote). o ∷ map (vote_in shape) contents) (each 0 (omega arith))
    ∙ ap (λ (os : List (Option Vote)). Some vote ∷ os) (same-votes shape vote contents (λ i lt. each (suc i) (omega arith)))

all-yes : (vote : Vote) (contents : List (List ℕ)) → vote.yes ≡ true
    → list_all (is_yes_with vote.view) (map (λ content. vote) contents) ≡ true
all-yes vote [] says = refl
all-yes vote (content ∷ contents) says =
    and_from _ _ (and_from _ _ says ((bytes_eq-Decides vote.view vote.view).1 refl)) (all-yes vote contents says)

one-vote : (vote : Vote) (contents : List (List ℕ)) → vote.yes ≡ true → is_unanimous (map (λ content. vote) contents) ≡ true
one-vote vote [] says = refl
one-vote vote (content ∷ contents) says = all-yes vote (content ∷ contents) says

pub unanimous-same : (shape : Shape) (vote : Vote) (contents : List (List ℕ)) → vote.yes ≡ true
    → ((i : ℕ) → i < length contents → vote_in shape (get_or contents i []) ≡ Some vote) → are_unanimous shape contents ≡ true
unfolding are_unanimous
unanimous-same shape vote contents says each =
    ap (λ (os : List (Option Vote)). has_unanimous (all_some os)) (same-votes shape vote contents each)
    ∙ ap has_unanimous (all_some-map (map (λ content. vote) contents))
    ∙ one-vote vote contents says

-- ---- votes that say yes

-- a vote that says yes is read as one
abbrev IsYesVote : Shape → List ℕ → Content → Type 0
IsYesVote shape bytes content = (content_read shape bytes ≡ Ok content)
    × (vote_in shape bytes ≡ Some (record { yes = true; view = content.header.view }))

yes-body : (view : List ℕ) (body : Body) → is_yes body ≡ true → body_vote view body ≡ Some (record { yes = true; view = view })
yes-body view (Go vote) e = ap (λ (b : Bool). Some (record { yes = b; view = view })) e
yes-body view (Check vote) e = ap (λ (b : Bool). Some (record { yes = b; view = view })) e
yes-body view (Keys keys) e = absurd cc
yes-body view (Submit ciphertext) e = absurd cc
yes-body view (Shuffled list) e = absurd cc
yes-body view Abort e = absurd cc
yes-body view (Reveal votes seed) e = absurd cc
yes-body view (Dispute posts seed opening) e = absurd cc
yes-body view (Pads pads) e = absurd cc
yes-body view (Confirm votes) e = absurd cc
yes-body view (Differ posts) e = absurd cc

yes-read : (r : Result Content Offence) → is_yes (body_of r) ≡ true → (content : Content) × (r ≡ Ok content)
    × (vote_read r ≡ Some (record { yes = true; view = content.header.view }))
yes-read (Ok content) e = (content, refl, yes-body content.header.view content.body e)
yes-read (Err offence) e = absurd cc

-- ---- the stage of the votes

abbrev IsVotesOf : Shape → ℕ → StageKind → Type 0
IsVotesOf shape stage kind = (kind_of_stage shape stage ≡ Some kind) × (senders_of shape kind ≡ shape.members)
    × ((member : ℕ) → place_in (Some kind) member ≡ member - 1)
    × ((member : ℕ) → is_sender shape kind member ≡ is_member shape.members member)

votes-kind : (shape : Shape) (stage : ℕ) → is_closing shape stage ≡ true → (1 ≤ stage)
    × ((kind : StageKind) × IsVotesOf shape (stage - 1) kind)
votes-kind shape stage closing = by_kind (kind_of_stage shape stage) refl
  where
    by_kind : (o : Option StageKind) → kind_of_stage shape stage ≡ o → (1 ≤ stage) × ((kind : StageKind) × IsVotesOf shape (stage - 1) kind)
    by_kind (Some (AtFinal shuffle)) e =
        let follows = closing-follows shape stage (AtFinal shuffle) (AtGo shuffle) e refl in
        (follows.0, (AtGo shuffle, (follows.1, refl, λ member. refl, λ member. refl)))
    by_kind (Some AtConfirm) e =
        let follows = closing-follows shape stage AtConfirm AtCheck e refl in
        (follows.0, (AtCheck, (follows.1, refl, λ member. refl, λ member. refl)))
    by_kind None e = absurd (let none = sym (ap (λ (o : Option StageKind). is_some (option_and_then vote_of o)) e) ∙ closing in cc)
    by_kind (Some AtKeys) e = absurd (let none = sym (ap (λ (o : Option StageKind). is_some (option_and_then vote_of o)) e) ∙ closing in cc)
    by_kind (Some (AtSubmit shuffle)) e = absurd (let none = sym (ap (λ (o : Option StageKind). is_some (option_and_then vote_of o)) e)
        ∙ closing in cc)
    by_kind (Some (AtShuffle shuffle k)) e = absurd (let none = sym (ap (λ (o : Option StageKind). is_some (option_and_then vote_of o)) e)
        ∙ closing in cc)
    by_kind (Some (AtGo shuffle)) e = absurd (let none = sym (ap (λ (o : Option StageKind). is_some (option_and_then vote_of o)) e)
        ∙ closing in cc)
    by_kind (Some AtPad) e = absurd (let none = sym (ap (λ (o : Option StageKind). is_some (option_and_then vote_of o)) e) ∙ closing in cc)
    by_kind (Some AtCheck) e = absurd (let none = sym (ap (λ (o : Option StageKind). is_some (option_and_then vote_of o)) e)
        ∙ closing in cc)

-- the vote of a member among those of the stage
vote-place : (shape : Shape) (past : List (List ℕ)) (stage i : ℕ) (kind : StageKind) → IsVotesOf shape stage kind
    → slots_before shape (stage + 1) ≤ length past
    → i < length (contents_at shape past stage) → (i < shape.members)
    × (get_or (contents_at shape past stage) i [] ≡ slice_index_or past (slot_number shape stage (i + 1)) [])
vote-place shape past stage i kind is whole lt =
    let a : ℕ = slots_before shape stage in
    let b : ℕ = slots_before shape (stage + 1) in
    let next : b ≡ a + shape.members = slots_next shape stage kind is.0 ∙ ap (λ (k : ℕ). a + k) is.1 in
    let within : b - a ≤ length (drop a past) = omega (arith, next, length-drop a past) in
    let long : length (contents_at shape past stage) ≡ b - a = length-take-le (b - a) (drop a past) within in
    let few : i < b - a = omega (arith, long) in
    let number : a + i ≡ slot_number shape stage (i + 1) = sym (ap (λ (o : Option StageKind). a + place_in o (i + 1)) is.0
    ∙ ap (λ (k : ℕ). a + k) (is.2 (i + 1)) ∙ omega arith) in (
      omega (arith, next),
      get_or-take (b - a) (drop a past) i [] few ∙ get_or-drop a past i []
          ∙ ap (λ (k : ℕ). slice_index_or past k []) number,
    )

-- the votes stand in the front that reaches to the closing stage
pub votes-front : (shape : Shape) (past : List (List ℕ)) (stage : ℕ) → is_closing shape stage ≡ true
    → votes_agree shape (take (slots_before shape stage) past) stage ≡ votes_agree shape past stage
votes-front shape past stage closing =
    let least = (votes-kind shape stage closing).0 in
    ap (are_unanimous shape) (slice_range-take past (slots_before shape (stage - 1)) (slots_before shape (stage - 1 + 1))
    (slots_before shape stage)
    (slots_before-rises shape (stage - 1) (stage - 1 + 1) (omega arith)) (slots_before-rises shape (stage - 1 + 1) stage (omega arith)))

-- ---- blame

pub not-none : {A : Type 0} (o : Option A) → IsSome o → o ≡ None → ⊥
not-none None is e = absurd cc
not-none (Some x) is e = absurd cc

-- somebody, or nobody
some-or : {A : Type 0} (o : Option A) → (o ≡ None) ⊎ IsSome o
some-or None = inl refl
some-or (Some x) = inr refl

member-speaks : (shape : Shape) (stage member : ℕ) (kind : StageKind) → IsVotesOf shape stage kind → 1 ≤ member → member ≤ shape.members
    → is_slot shape stage member ≡ true
member-speaks shape stage member kind is least most =
    ap (λ (o : Option StageKind). speaks shape o member) is.0 ∙ is.3 member ∙ search rules

all-same : (q : Inquiry) → is_closing q.shape q.stage ≡ true → slots_before q.shape q.stage ≤ length q.past → culprit_of q ≡ None
    → votes_agree q.shape q.past q.stage ≡ true
all-same q closing whole none = by_members q.shape.members refl
  where
    follows : (1 ≤ q.stage) × ((kind : StageKind) × IsVotesOf q.shape (q.stage - 1) kind)
    follows = votes-kind q.shape q.stage closing

    back : q.stage - 1 + 1 ≡ q.stage
    back = let least = follows.0 in omega arith

    long : slots_before q.shape (q.stage - 1 + 1) ≤ length q.past
    long = subst (λ (s : ℕ). slots_before q.shape s ≤ length q.past) (sym back) whole

    says_yes : (member : ℕ) → IsMember q member → votes_yes q member ≡ true
    says_yes member is = true_from_ne_false _ (λ no_said. not-none (culprit_of q)
        (unlike_votes_blame q follows.0 (inl (member, is, no_said))) none)

    vote : (member : ℕ) → IsMember q member → (content : Content) × (content_read q.shape (bytes_in q (q.stage - 1) member) ≡ Ok content)
        × (vote_in q.shape (bytes_in q (q.stage - 1) member) ≡ Some (record { yes = true; view = content.header.view }))
    vote member is = yes-read (content_read q.shape (bytes_in q (q.stage - 1) member)) (says_yes member is)

    first : (content : Content) → Vote
    first content = record { yes = true; view = content.header.view }

    one_view : (member other : ℕ) (m : IsMember q member) (o : IsMember q other)
        → (vote member m).0.header.view ≡ (vote other o).0.header.view
    one_view member other m o = elim (cases_Bool (bytes_eq (vote member m).0.header.view (vote other o).0.header.view)) [
      | inl same ↦ (bytes_eq-Decides (vote member m).0.header.view (vote other o).0.header.view).0 same
      | inr unlike ↦ absurd (not-none (culprit_of q) (unlike_votes_blame q follows.0 (inr (record {
        member = member;
        other = other;
        vote = (vote member m).0;
        other_vote = (vote other o).0;
        said = record {
          speaks = member-speaks q.shape (q.stage - 1) member follows.1.0 follows.1.1 m.least m.most;
          read = (vote member m).1;
        };
        other_said = record {
          speaks = member-speaks q.shape (q.stage - 1) other follows.1.0 follows.1.1 o.least o.most;
          read =
              (vote other o).1;
        };
        unlike = λ same. (let t = (bytes_eq-Decides (vote member m).0.header.view (vote other o).0.header.view).1 same in cc);
      }))) none)
    ]

    by_members : (n : ℕ) → q.shape.members ≡ n → votes_agree q.shape q.past q.stage ≡ true
    by_members zero e = unanimous-same q.shape (record { yes = true; view = [] }) (contents_at q.shape q.past (q.stage - 1)) refl
        (λ i lt. absurd (let few = (vote-place q.shape q.past (q.stage - 1) i follows.1.0 follows.1.1 long lt).0 in omega (arith, e)))
    by_members (suc n) e =
        let m : IsMember q 1 = record { least = omega arith; most = omega (arith, e) } in
        unanimous-same q.shape (first (vote 1 m).0) (contents_at q.shape q.past (q.stage - 1)) refl (λ i lt.
        let at = vote-place q.shape q.past (q.stage - 1) i follows.1.0 follows.1.1 long lt in
        let few = at.0 in
        let o : IsMember q (i + 1) = record { least = omega arith; most = omega arith } in
        ap (vote_in q.shape) at.1 ∙ (vote (i + 1) o).2 ∙ ap (λ (view : List ℕ). Some (record { yes = true; view = view }))
        (one_view (i + 1) 1 o m))

pub not_unanimous_blames : NotUnanimousBlames
not_unanimous_blames q closing whole differ = elim (some-or (culprit_of q)) [
  | inl none ↦ absurd (let agree = all-same q closing whole none in cc)
  | inr is ↦ is
]
