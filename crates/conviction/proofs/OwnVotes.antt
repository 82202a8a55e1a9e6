-- The own vote is yes, at the end of a shuffle and behind the checks.
use Rattle.std.proofs.Common.{◌≡◌, ℕ, ◌+◌, ◌-◌, ◌<◌, ◌≤◌, true, false, ◌&&◌, List, take, Option, Some, None, ap, sym, ◌∙◌, refl, subst, arith, inl, inr}
use Rattle.std.specs.Prelude.{◌==◌, is_none, Contains}
use Rattle.std.proofs.lemmas.List.{take-map}
use Rattle.wire_core.specs.Answers.{fault_unless}
use Rattle.wire_core.proofs.AnswerLemmas.{first_below-found, nothing_mapped}
use Rattle.phase_message.specs.declared.content.Content.{Content}
use Rattle.phase_message.specs.declared.post.Post.{Post}
use Rattle.phase_message.specs.declared.stage.Slot.{Slot}
use Rattle.phase_message.specs.declared.stage.StageKind.{StageKind}
use Rattle.phase_message.specs.declared.stage.StageKind.TheVariants.{Go, Final, Check, Confirm}
use Rattle.phase_message.specs.Body.{body_form, form_of}
use Rattle.phase_message.specs.Grammar.{IsBody}
use Rattle.phase_message.specs.Shape.{Shape}
use Rattle.phase_message.specs.Slots.{slots_before}
use Rattle.phase_message.specs.Stages.{is_slot, kind_of_stage, speaks}
use Rattle.phase_message.proofs.Closings.{closing-follows}
use Rattle.stage_log.specs.Log.{contents_of, first_wrong}
use Rattle.shuffle_core.specs.declared.entry.Submission.{Submission}
use Rattle.go_nogo.specs.Rows.{check_row, go_row, lists_before, stands_last}
use Rattle.shuffle_blame.specs.declared.fault.Cause.TheVariants.{View, FalseNoGo}
use Rattle.shuffle_blame.specs.declared.fault.Fault.{Fault}
use Rattle.shuffle_blame.specs.Replay.{Inquiry, fault, is_yes, submit_stage, view_fault, votes_yes}
use Rattle.shuffle_blame.proofs.Endings.{ends_at}
use Rattle.shuffle_blame.proofs.Slots.{end-least}
use Rattle.shuffle_blame.proofs.Turns.{last_list_has}
use Rattle.round_spec.specs.Say.{own_body_if, own_descriptor, shape_in}
use Rattle.round_spec.specs.Rows.{IsOwnRow}
use Rattle.round_spec.specs.Runs.{HonestRun, Run}
use Rattle.conviction.specs.Blame.{IsOwnInquiry, NoGoNotOwn}
use Rattle.conviction.proofs.Bodies.{body_due, row-is}
use Rattle.conviction.proofs.Closings.{closing-kind}
use Rattle.conviction.proofs.NoGos.{IsFaultless, inner-there, inner_said, none-wrong, stands-there}
use Rattle.conviction.proofs.OwnFronts.{submission-front}
use Rattle.conviction.proofs.OwnRows.{OwnSaid, own-body, own-said, own-speaks}
use Rattle.conviction.proofs.Replays.{not_both, unless-found}
use Rattle.conviction.proofs.Shuffles.{IsEnded, body-in}
use Rattle.conviction.proofs.Submissions.{own-submitted}

-- ---- rows of votes

pub go-body : (shape : Shape) (past : List (List ℕ)) (stage shuffle : ℕ) (inner : List ℕ) → kind_of_stage shape stage ≡ Some (Go shuffle)
    → IsBody shape stage (go_row shape past stage inner)
unfolding go_row body_form
go-body shape past stage shuffle inner kind = (_, ap (λ (o : Option StageKind). form_of shape (slots_before shape stage) o 5) kind, tt)

pub check-body : (shape : Shape) (past : List (List ℕ)) (stage : ℕ) → kind_of_stage shape stage ≡ Some Check
    → IsBody shape stage (check_row shape past stage)
unfolding check_row body_form
check-body shape past stage kind = (_, ap (λ (o : Option StageKind). form_of shape (slots_before shape stage) o 9) kind, tt)

go-yes : (shape : Shape) (past : List (List ℕ)) (stage : ℕ) (inner : List ℕ) → first_wrong shape past stage ≡ None
    → stands_last shape inner (lists_before shape past stage) ≡ true → is_yes (go_row shape past stage inner) ≡ true
unfolding go_row
go-yes shape past stage inner right stands =
    ap (λ (o : Option Slot). is_none o && stands_last shape inner (lists_before shape past stage)) right ∙ stands

check-yes : (shape : Shape) (past : List (List ℕ)) (stage : ℕ) → first_wrong shape past stage ≡ None
    → is_yes (check_row shape past stage) ≡ true
unfolding check_row
check-yes shape past stage right = ap (λ (o : Option Slot). is_none o) right

-- ---- the own vote

-- the member's vote stands in the stage before, and all before it is right
pub record OwnVote (run : Run) (q : Inquiry) (is : IsOwnInquiry run q) (kind : StageKind) : Type 0 where
  pub said : OwnSaid run is.posts (q.stage - 1)
  pub at : kind_of_stage (shape_in run.config) said.row.stage ≡ Some kind
  pub past : contents_of said.row.past ≡ take (slots_before (shape_in run.config) (q.stage - 1)) (contents_of is.posts)
  pub right : first_wrong (shape_in run.config) (contents_of said.row.past) said.row.stage ≡ None

own-vote : (run : Run) (q : Inquiry) (is : IsOwnInquiry run q) (kind : StageKind) → HonestRun run → 1 ≤ q.stage
    → kind_of_stage q.shape (q.stage - 1) ≡ Some kind
    → ((member : ℕ) → speaks (shape_in run.config) (Some kind) member ≡ is_slot (shape_in run.config) 0 member) → view_fault q ≡ None
    → OwnVote run q is kind
own-vote run q is kind honest least vote all none = record {
  said = said;
  at = ap (kind_of_stage shape) said.at
      ∙ at;
  past = past;
  right = right;
}
  where
    shape : Shape
    shape = shape_in run.config

    at : kind_of_stage shape (q.stage - 1) ≡ Some kind
    at = ap (λ (s : Shape). kind_of_stage s (q.stage - 1)) (sym is.shape) ∙ vote

    said : OwnSaid run is.posts (q.stage - 1)
    said = own-said run q.stage (q.stage - 1) is.posts honest is.kept
        (ap (λ (o : Option StageKind). speaks shape o run.config.number) at ∙ all run.config.number ∙ own-speaks run.config honest.config)
        (omega (arith, least))

    past : contents_of said.row.past ≡ take (slots_before shape (q.stage - 1)) (contents_of is.posts)
    past = ap contents_of said.front ∙ sym (take-map (λ (p : Post). p.content) (slots_before shape (q.stage - 1)) is.posts)

    none_before : first_wrong shape (contents_of is.posts) q.stage ≡ None
    none_before =
        ap (λ (s : Shape). first_wrong s (contents_of is.posts) q.stage) (sym is.shape)
        ∙ ap (λ (p : List (List ℕ)). first_wrong q.shape p q.stage) (sym is.past)
        ∙ nothing_mapped (λ (slot : Slot). fault View slot.sender) (first_wrong q.shape q.past q.stage) none

    right : first_wrong shape (contents_of said.row.past) said.row.stage ≡ None
    right =
        ap (first_wrong shape (contents_of said.row.past)) said.at
        ∙ ap (λ (p : List (List ℕ)). first_wrong shape p (q.stage - 1)) past
        ∙ none-wrong shape (contents_of is.posts) (q.stage - 1) q.stage (omega arith) none_before

votes-of : (run : Run) (q : Inquiry) (is : IsOwnInquiry run q) (said : OwnSaid run is.posts (q.stage - 1))
    → votes_yes q run.config.number ≡ is_yes said.row.read.body
votes-of run q is said = ap is_yes (body-in run q is (q.stage - 1) run.config.number ∙ own-body run is.posts (q.stage - 1) said)

-- shuffle B ends late
far : (run : Run) (q : Inquiry) (shuffle : ℕ) → IsEnded run q shuffle → (shuffle == 1) ≡ false
    → (shape_in run.config).members + 4 < submit_stage q
far run q shuffle e other = elim (ends_at q.shape q.stage shuffle e.kind) [
  | inl a ↦ absurd (not_both (shuffle == 1) (ap (λ (s : ℕ). s == 1) a.0) other)
  | inr b ↦ (let at = b.1 in omega (arith, at, ap (λ (s : Shape). s.members) e.is.shape))
]

-- at the end of a shuffle in which nothing else is at fault
pub go-vote : (run : Run) (q : Inquiry) (shuffle : ℕ) → IsFaultless run q shuffle → HonestRun run → view_fault q ≡ None
    → votes_yes q run.config.number ≡ true
go-vote run q shuffle own honest none =
    votes-of run q is vote.said
    ∙ ap is_yes body
    ∙ go-yes shape (contents_of row.past) row.stage inner vote.right stands
  where
    shape : Shape
    shape = shape_in run.config

    is : IsOwnInquiry run q
    is = own.ended.is

    follows : (1 ≤ q.stage) × (kind_of_stage q.shape (q.stage - 1) ≡ Some (Go shuffle))
    follows = closing-follows q.shape q.stage (Final shuffle) (Go shuffle) own.ended.kind refl

    vote : OwnVote run q is (Go shuffle)
    vote = own-vote run q is (Go shuffle) honest follows.0 follows.1 (λ member. refl) none

    row : IsOwnRow run vote.said.text
    row = vote.said.row

    inner : List ℕ
    inner = inner_said run (contents_of row.past) shuffle

    body : row.read.body ≡ go_row shape (contents_of row.past) row.stage inner
    body =
        let due : body_due run vote.said.text row ≡ go_row shape (contents_of row.past) row.stage inner =
        ap (own_body_if run.config (own_descriptor run.config (contents_of row.past)) row.past row.stage) vote.at in
        ap (λ (x : Content). x.body)
        (row-is run vote.said.text row (subst (IsBody shape row.stage) (sym due)
        (go-body shape (contents_of row.past) row.stage shuffle inner vote.at)))
        ∙ due

    stands : stands_last shape inner (lists_before shape (contents_of row.past) row.stage) ≡ true
    stands =
        let long : submit_stage q < q.stage - 1 = (let late = end-least q.shape q.stage shuffle own.ended.kind in omega arith) in
        let late = end-least q.shape q.stage shuffle own.ended.kind in
        let submitted = own-submitted run q shuffle honest is own.ended.kind own.seeds in
        let last = last_list_has q (let many = (is.shows shuffle own.ended.kind).many in omega arith) own.turns in
        let said : List (List ℕ) = contents_of is.posts in
        let here =
        submission-front run.config said (q.stage - 1) shuffle (omega (arith, long))
        (λ other. (let some = far run q shuffle own.ended other in omega (arith, some, long))) in
        let first = submission-front run.config said (submit_stage q) shuffle (omega (arith, late)) (far run q shuffle own.ended) in
        let same : inner ≡ inner_said run submitted.said shuffle =
        ap (λ (p : List (List ℕ)). inner_said run p shuffle) vote.past
        ∙ ap (λ (s : Submission). s.inner_ciphertext) (here ∙ sym first)
        ∙ ap (λ (p : List (List ℕ)). inner_said run p shuffle) (sym submitted.front) in
        ap (λ (stage : ℕ). stands_last shape inner (lists_before shape (contents_of row.past) stage)) vote.said.at
        ∙ ap (λ (p : List (List ℕ)). stands_last shape inner (lists_before shape p (q.stage - 1))) vote.past
        ∙ stands-there run q shuffle own inner honest last (subst (Contains last.list) (sym same)
        (inner-there run q shuffle own honest last submitted))

-- behind the checks
pub check-vote : (run : Run) (q : Inquiry) → HonestRun run → IsOwnInquiry run q → kind_of_stage q.shape q.stage ≡ Some Confirm
    → view_fault q ≡ None
    → votes_yes q run.config.number ≡ true
check-vote run q honest is kind none =
    let shape = shape_in run.config in
    let follows = closing-follows q.shape q.stage Confirm Check kind refl in
    let vote = own-vote run q is Check honest follows.0 follows.1 (λ member. refl) none in
    let row = vote.said.row in
    let due : body_due run vote.said.text row ≡ check_row shape (contents_of row.past) row.stage =
    ap (own_body_if run.config (own_descriptor run.config (contents_of row.past)) row.past row.stage) vote.at in
    let body =
    ap (λ (x : Content). x.body) (row-is run vote.said.text row
    (subst (IsBody shape row.stage) (sym due) (check-body shape (contents_of row.past) row.stage vote.at)))
    ∙ due in
    votes-of run q is vote.said ∙ ap is_yes body ∙ check-yes shape (contents_of row.past) row.stage vote.right

pub no_go_not_own : NoGoNotOwn
no_go_not_own run q found honest is closing view rest e own =
    let at = first_below-found (λ place. fault_unless (votes_yes q (place + 1)) (fault FalseNoGo (place + 1))) q.shape.members found e in
    let parts = unless-found (votes_yes q (at.0 + 1)) (fault FalseNoGo (at.0 + 1)) found at.2 in
    let member : at.0 + 1 ≡ run.config.number = ap (λ (f : Fault). f.member) parts.1 ∙ own in
    let yes_own : votes_yes q run.config.number ≡ true = elim (closing-kind (kind_of_stage q.shape q.stage) closing) [
      | inl (shuffle, kind) ↦
          (let none = rest shuffle kind in go-vote run q shuffle
          (record { ended = record { is = is; kind = kind }; seeds = none.0; submissions = none.1; turns = none.2 }) honest view)
      | inr kind ↦ check-vote run q honest is kind view
    ] in
    not_both (votes_yes q run.config.number) yes_own (ap (votes_yes q) (sym member) ∙ parts.0)
