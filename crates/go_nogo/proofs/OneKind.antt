-- Justified closing contents: what they say of the votes, and that the own one is justified.
use Rattle.std.proofs.Common.{◌≡◌, ℕ, ◌+◌, ◌-◌, ◌≤◌, Bool, true, false, List, length, take, ap, sym, ◌∙◌, arith, inl, inr}
use Rattle.std.specs.Prelude.{IsTrue, ◌&&◌, not, bytes_eq}
use Rattle.std.proofs.lemmas.Bool.{and_parts, and_from, cases_Bool, cond-true, cond-false, not-true}
use Rattle.std.proofs.lemmas.List.{take_all}
use Rattle.std.proofs.lemmas.Slice.Eq.{bytes_eq-Decides}
use Rattle.phase_message.specs.declared.content.Body.TheVariants.{Reveal, Dispute, Confirm, Differ}
use Rattle.phase_message.specs.declared.content.Content.{Content}
use Rattle.phase_message.specs.declared.header.Header.{Header}
use Rattle.phase_message.specs.declared.post.Post.{Post}
use Rattle.phase_message.specs.Shape.{Shape}
use Rattle.phase_message.specs.Slots.{slots_before}
use Rattle.phase_message.proofs.SlotLists.{slots_before-rises}
use Rattle.stage_log.specs.Log.{contents_at, contents_of, view_of}
use Rattle.stage_log.proofs.Fronts.{view_of-take}
use Rattle.stage_log.proofs.Pasts.{slice_range-take}
use Rattle.go_nogo.specs.Closing.{IsClosing, embedded_of, is_assent, is_justified, posts_embedded}
use Rattle.go_nogo.specs.Rows.{confirm_content, confirm_row, final_content, final_row, posts_at, written}
use Rattle.go_nogo.specs.Votes.{are_unanimous, votes_agree}
use Rattle.go_nogo.proofs.Justification.{votes-before}

-- the votes of a front that reaches to the closing stage
votes_agree-front : (shape : Shape) (past : List (List ℕ)) (stage : ℕ) → 1 ≤ stage
    → votes_agree shape (take (slots_before shape stage) past) stage ≡ votes_agree shape past stage
votes_agree-front shape past stage least =
    ap (are_unanimous shape) (slice_range-take past (slots_before shape (stage - 1)) (slots_before shape (stage - 1 + 1))
    (slots_before shape stage)
    (slots_before-rises shape (stage - 1) (stage - 1 + 1) (omega arith)) (slots_before-rises shape (stage - 1 + 1) stage (omega arith)))

-- what one that assents is asked for, and what another is asked for, over a past
assent_is : (shape : Shape) (past : List (List ℕ)) (content : Content) → is_assent content.body ≡ true
    → is_justified shape content (embedded_of shape content past) ≡ votes_agree shape past content.header.stage
unfolding is_justified
assent_is shape past content assents =
    let embedded : List (List ℕ) = embedded_of shape content past in
    let own : embedded ≡ contents_at shape past (content.header.stage - 1) = cond-true (is_assent content.body) _ _ assents in
    cond-true (is_assent content.body) (are_unanimous shape embedded) _ assents ∙ ap (are_unanimous shape) own

objection_is : (shape : Shape) (past : List (List ℕ)) (content : Content) → is_assent content.body ≡ false → 1 ≤ content.header.stage
    → is_justified shape content (embedded_of shape content past)
    ≡ (not (votes_agree shape past content.header.stage) && bytes_eq content.header.view (view_of shape past content.header.stage))
unfolding is_justified
objection_is shape past content objects least =
    let stage : ℕ = content.header.stage in
    let embedded : List (List ℕ) = embedded_of shape content past in
    let own : embedded ≡ take (slots_before shape stage) past = cond-false (is_assent content.body) _ _ objects in
    cond-false (is_assent content.body) (are_unanimous shape embedded)
    (not (votes_agree shape embedded stage) && bytes_eq content.header.view (view_of shape embedded stage)) objects
    ∙ ap (λ (p : List (List ℕ)). not (votes_agree shape p stage) && bytes_eq content.header.view (view_of shape p stage)) own
    ∙ ap (λ (b : Bool). not b && bytes_eq content.header.view (view_of shape (take (slots_before shape stage) past) stage))
    (votes_agree-front shape past stage least)
    ∙ ap (λ (v : List ℕ). not (votes_agree shape past stage) && bytes_eq content.header.view v)
    (view_of-take shape past stage stage (omega arith))

-- where it is justified, the votes of the past decide its kind
pub one-kind : (shape : Shape) (past : List (List ℕ)) (content : Content) → IsClosing shape content
    → IsTrue (is_justified shape content (embedded_of shape content past))
    → is_assent content.body ≡ votes_agree shape past content.header.stage
one-kind shape past content closing justified =
    let least = (votes-before shape content closing).0 in
    elim (cases_Bool (is_assent content.body)) [
      | inl assents ↦ assents ∙ sym (sym (assent_is shape past content assents) ∙ justified)
      | inr objects ↦
          let parts = and_parts _ _ (sym (objection_is shape past content objects least) ∙ justified) in
          objects ∙ sym (not-true (votes_agree shape past content.header.stage) parts.0)
    ]

-- one of this kind that carries the view of the past is justified
justified-own : (shape : Shape) (past : List (List ℕ)) (content : Content) → IsClosing shape content
    → content.header.view ≡ view_of shape past content.header.stage
    → is_assent content.body ≡ votes_agree shape past content.header.stage
    → is_justified shape content (embedded_of shape content past) ≡ true
justified-own shape past content closing view kind =
    let least = (votes-before shape content closing).0 in
    elim (cases_Bool (is_assent content.body)) [
      | inl assents ↦ assent_is shape past content assents ∙ sym kind ∙ assents
      | inr objects ↦
          objection_is shape past content objects least
          ∙ and_from _ _ (ap not (sym kind ∙ objects)) ((bytes_eq-Decides _ _).1 view)
    ]

-- ---- the rows

final-kind : (shape : Shape) (posts : List Post) (stage : ℕ) (inner_seed outer_seed outer_opening : List ℕ)
    → is_assent (final_row shape posts stage inner_seed outer_seed outer_opening) ≡ votes_agree shape (contents_of posts) stage
unfolding final_row
final-kind shape posts stage inner_seed outer_seed outer_opening =
    elim (cases_Bool (votes_agree shape (contents_of posts) stage)) [
      | inl agree ↦ ap is_assent (cond-true (votes_agree shape (contents_of posts) stage)
          (Reveal (written (posts_at shape posts (stage - 1))) inner_seed) (Dispute (written posts) outer_seed outer_opening) agree)
          ∙ sym agree
      | inr differ ↦ ap is_assent (cond-false (votes_agree shape (contents_of posts) stage)
          (Reveal (written (posts_at shape posts (stage - 1))) inner_seed) (Dispute (written posts) outer_seed outer_opening) differ)
          ∙ sym differ
    ]

confirm-kind : (shape : Shape) (posts : List Post) (stage : ℕ) → is_assent (confirm_row shape posts stage) ≡ votes_agree shape
    (contents_of posts) stage
unfolding confirm_row
confirm-kind shape posts stage =
    elim (cases_Bool (votes_agree shape (contents_of posts) stage)) [
      | inl agree ↦ ap is_assent (cond-true (votes_agree shape (contents_of posts) stage)
          (Confirm (written (posts_at shape posts (stage - 1)))) (Differ (written posts)) agree) ∙ sym agree
      | inr differ ↦ ap is_assent (cond-false (votes_agree shape (contents_of posts) stage)
          (Confirm (written (posts_at shape posts (stage - 1)))) (Differ (written posts)) differ) ∙ sym differ
    ]

pub final-justified : (shape : Shape) (posts : List Post) (header : Header) (inner_seed outer_seed outer_opening : List ℕ)
    → IsClosing shape (final_content shape posts header inner_seed outer_seed outer_opening)
    → header.view ≡ view_of shape (contents_of posts) header.stage
    → IsTrue (is_justified shape (final_content shape posts header inner_seed outer_seed outer_opening)
    (embedded_of shape (final_content shape posts header inner_seed outer_seed outer_opening) (contents_of posts)))
final-justified shape posts header inner_seed outer_seed outer_opening closing view =
    justified-own shape (contents_of posts) (final_content shape posts header inner_seed outer_seed outer_opening) closing view
    (final-kind shape posts header.stage inner_seed outer_seed outer_opening)

pub confirm-justified : (shape : Shape) (posts : List Post) (header : Header)
    → IsClosing shape (confirm_content shape posts header) → header.view ≡ view_of shape (contents_of posts) header.stage
    → IsTrue (is_justified shape (confirm_content shape posts header)
    (embedded_of shape (confirm_content shape posts header) (contents_of posts)))
confirm-justified shape posts header closing view =
    justified-own shape (contents_of posts) (confirm_content shape posts header) closing view (confirm-kind shape posts header.stage)

-- ---- what the rows embed

pub final-embeds : (shape : Shape) (posts : List Post) (header : Header) (inner_seed outer_seed outer_opening : List ℕ)
    → length posts ≡ slots_before shape header.stage
    → posts_embedded (final_row shape posts header.stage inner_seed outer_seed outer_opening)
    ≡ written (embedded_of shape (final_content shape posts header inner_seed outer_seed outer_opening) posts)
unfolding final_row
final-embeds shape posts header inner_seed outer_seed outer_opening whole =
    let stage : ℕ = header.stage in
    let content : Content = final_content shape posts header inner_seed outer_seed outer_opening in
    let kind = final-kind shape posts stage inner_seed outer_seed outer_opening in
    let agrees : Bool = votes_agree shape (contents_of posts) stage in
    elim (cases_Bool (votes_agree shape (contents_of posts) stage)) [
      | inl agree ↦
          ap posts_embedded (cond-true agrees (Reveal (written (posts_at shape posts (stage - 1))) inner_seed)
          (Dispute (written posts) outer_seed outer_opening) agree)
          ∙ sym (ap written (cond-true (is_assent content.body) (posts_at shape posts (stage - 1)) (take (slots_before shape stage) posts)
          (kind ∙ agree)))
      | inr differ ↦
          ap posts_embedded (cond-false agrees (Reveal (written (posts_at shape posts (stage - 1))) inner_seed)
          (Dispute (written posts) outer_seed outer_opening) differ)
          ∙ sym (ap written (cond-false (is_assent content.body) (posts_at shape posts (stage - 1)) (take (slots_before shape stage) posts)
          (kind ∙ differ) ∙ take_all (slots_before shape stage) posts (omega (arith, whole))))
    ]

pub confirm-embeds : (shape : Shape) (posts : List Post) (header : Header) → length posts ≡ slots_before shape header.stage
    → posts_embedded (confirm_row shape posts header.stage) ≡ written (embedded_of shape (confirm_content shape posts header) posts)
unfolding confirm_row
confirm-embeds shape posts header whole =
    let stage : ℕ = header.stage in
    let content : Content = confirm_content shape posts header in
    let kind = confirm-kind shape posts stage in
    let agrees : Bool = votes_agree shape (contents_of posts) stage in
    elim (cases_Bool (votes_agree shape (contents_of posts) stage)) [
      | inl agree ↦
          ap posts_embedded (cond-true agrees (Confirm (written (posts_at shape posts (stage - 1)))) (Differ (written posts)) agree)
          ∙ sym (ap written (cond-true (is_assent content.body) (posts_at shape posts (stage - 1)) (take (slots_before shape stage) posts)
          (kind ∙ agree)))
      | inr differ ↦
          ap posts_embedded (cond-false agrees (Confirm (written (posts_at shape posts (stage - 1)))) (Differ (written posts)) differ)
          ∙ sym (ap written (cond-false (is_assent content.body) (posts_at shape posts (stage - 1)) (take (slots_before shape stage) posts)
          (kind ∙ differ) ∙ take_all (slots_before shape stage) posts (omega (arith, whole))))
    ]
