-- What an honest member says where votes are closed: it is justified, and embeds what the member kept.
use Rattle.std.proofs.Common.{◌≡◌, ℕ, suc, ◌+◌, ◌-◌, ◌^◌, ◌<◌, ◌⊎◌, true, List, [], ◌∷◌, length, drop, Option, Some, None, Ok, ap, sym, ◌∙◌, refl, subst, arith, inl, inr}
use Rattle.std.specs.Prelude.{IsSome, option_and_then, zip}
use Rattle.std.specs.List.{AllByRecursion, slice_get}
use Rattle.std.proofs.lemmas.Bool.{cases_Bool, cond-true, cond-false}
use Rattle.std.proofs.lemmas.List.{length-drop, length-map, length-take-le}
use Rattle.wire_core.proofs.ByteLists.{hash_bytes}
use Rattle.phase_message.specs.declared.content.Body.TheVariants.{Reveal, Dispute, Confirm as ConfirmBody, Differ}
use Rattle.phase_message.specs.declared.content.Content.{Content}
use Rattle.phase_message.specs.declared.post.Post.{Post}
use Rattle.phase_message.specs.declared.stage.Slot.{Slot}
use Rattle.phase_message.specs.declared.stage.StageKind.{StageKind}
use Rattle.phase_message.specs.declared.stage.StageKind.TheVariants.{Keys, Submit, Shuffle, Go, Final, Pad, Check, Confirm}
use Rattle.phase_message.specs.Body.{body_form, form_of}
use Rattle.phase_message.specs.Grammar.{IsBody}
use Rattle.phase_message.specs.Post.{post_spelling}
use Rattle.phase_message.specs.Shape.{Shape}
use Rattle.phase_message.specs.Slots.{senders_of, slot_at, slots_before, slots_of}
use Rattle.phase_message.specs.Stages.{kind_of_stage, vote_of}
use Rattle.phase_message.proofs.Closings.{closing-follows}
use Rattle.phase_message.proofs.Counts.{slots_next}
use Rattle.phase_message.proofs.SlotLists.{length-slots_of, slots_before-most}
use Rattle.signed_post.proofs.Lengths.{posts_are_short}
use Rattle.stage_log.specs.Log.{before, contents_of}
use Rattle.stage_log.specs.Table.{kept_in}
use Rattle.go_nogo.specs.Closing.{embedded_of, is_justified, posts_embedded, slots_embedded}
use Rattle.go_nogo.specs.Rows.{confirm_content, confirm_row, final_content, final_row, posts_at, written}
use Rattle.go_nogo.specs.Votes.{votes_agree}
use Rattle.go_nogo.proofs.OneKind.{confirm-embeds, confirm-justified, final-embeds, final-justified}
use Rattle.go_nogo.proofs.VoteSlots.{get_drop}
use Rattle.shuffle_blame.specs.Replay.{outer_place}
use Rattle.round_spec.specs.Slots.{inner_place}
use Rattle.round_spec.specs.Embedded.{is_content_justified, is_justified_by, posts_for, posts_in_content}
use Rattle.round_spec.specs.Say.{own_body_if, own_descriptor, own_header, own_key_seed, own_opening, shape_in}
use Rattle.round_spec.specs.Rows.{IsOwnRow}
use Rattle.round_spec.specs.Runs.{ChecksIn, HonestRun, Run}
use Rattle.conviction.proofs.Bodies.{content_due, row-is}
use Rattle.conviction.proofs.Pasts.{checks-admitted, checks-for-slot, embedded-few, embedded-get, embedded-map, past-kept, past-length, posts-found, take-get}

-- ---- the posts of the past

-- the past of an honest run: how long it is, and what stands at each place
pub record IsPast (run : Run) (stage : ℕ) (past : List Post) : Type 0 where
  pub long : length past ≡ slots_before (shape_in run.config) stage
  pub checks : (k : ℕ) (slot : Slot) (post : Post) → slot_at (shape_in run.config) k ≡ Some slot → slice_get past k ≡ Some post
      → ChecksIn run.config slot post
  pub short : (k : ℕ) (post : Post) → slice_get past k ≡ Some post → length (post_spelling post) < 2 ^ 32

some-slot : (a b : Slot) → (let told : Slot → Option Slot = λ z. Some z in told a ≡ told b) → a ≡ b
some-slot a b e = cc

pub is-past : (run : Run) (stage : ℕ) (past : List Post) → HonestRun run → before run.log stage ≡ Some past → IsPast run stage past
is-past run stage past honest e = record {
  long = past-length run.log stage past honest.log e ∙ ap (λ (shape : Shape). slots_before shape stage) honest.shape;
  checks = checks;
  short = λ k post at. (let kept = past-kept run.log stage k past post honest.log e at in
      let admitted = checks-admitted run.config kept.slot post (honest.posts kept.slot post kept.kept) in
      let most = admitted.1.frame.most in
      let few = posts_are_short run.config.roster run.config.round post admitted.0 admitted.1 in omega arith);
}
  where
    checks : (k : ℕ) (slot : Slot) (post : Post) → slot_at (shape_in run.config) k ≡ Some slot → slice_get past k ≡ Some post
        → ChecksIn run.config slot post
    checks k slot post there at =
        let kept = past-kept run.log stage k past post honest.log e at in
        let same : kept.slot ≡ slot = some-slot kept.slot slot (sym kept.at ∙ ap (λ (shape : Shape). slot_at shape k) honest.shape ∙ there)
        in
        honest.posts slot post (subst (λ (s : Slot). kept_in run.log s ≡ Some post) same kept.kept)

-- ---- what a content embeds

-- a content that embeds posts of the past is found to embed them
pub own-embeds : (run : Run) (stage : ℕ) (past : List Post) (content : Content) → IsPast run stage past
    → posts_embedded content.body ≡ written (embedded_of (shape_in run.config) content past)
    → posts_in_content run.config.roster run.config.round content ≡ Ok (embedded_of (shape_in run.config) content past)
own-embeds run stage past content is embeds =
    let shape = shape_in run.config in
    let some = is.long in
    ap (λ (items : List (List ℕ)). posts_for run.config.roster run.config.round 0 (zip (slots_embedded shape content) items)) embeds
    ∙ posts-found run.config.roster run.config.round 0 (slots_embedded shape content) (embedded_of shape content past)
    (embedded-few shape content past (slots_of shape) (omega (arith, some, slots_before-most shape stage, length-slots_of shape)))
    (λ k slot post at there. checks-for-slot run.config slot post
    (is.checks _ slot post (embedded-get shape content (slots_of shape) k slot at) (embedded-get shape content past k post there)))

-- and is justified where the votes in it say so
pub own-justified : (run : Run) (stage : ℕ) (past : List Post) (content : Content) → IsPast run stage past
    → posts_embedded content.body ≡ written (embedded_of (shape_in run.config) content past)
    → is_justified (shape_in run.config) content (embedded_of (shape_in run.config) content (contents_of past)) ≡ true
    → is_content_justified run.config.roster run.config.round content ≡ true
unfolding is_content_justified
own-justified run stage past content is embeds justified =
    ap (is_justified_by (shape_in run.config) content) (own-embeds run stage past content is embeds)
    ∙ ap (is_justified (shape_in run.config) content) (embedded-map (λ (post : Post). post.content) (shape_in run.config) content past)
    ∙ justified

-- ---- closing bodies are of the grammar

all-written : (xs : List Post) → ((k : ℕ) (post : Post) → slice_get xs k ≡ Some post → length (post_spelling post) < 2 ^ 32)
    → AllByRecursion (λ item. length item < 2 ^ 32) (written xs)
all-written [] short = tt
all-written (x ∷ xs) short = (short 0 x refl, all-written xs (λ k post at. short (suc k) post at))

stage-short : (shape : Shape) (posts : List Post) (stage : ℕ) →
    ((k : ℕ) (post : Post) → slice_get posts k ≡ Some post → length (post_spelling post) < 2 ^ 32)
    → AllByRecursion (λ item. length item < 2 ^ 32) (written (posts_at shape posts stage))
stage-short shape posts stage short =
    let a : ℕ = slots_before shape stage in
    let b : ℕ = slots_before shape (stage + 1) in
    all-written (posts_at shape posts stage) (λ k post at. short (a + k) post
    (sym (get_drop posts a k) ∙ (take-get (drop a posts) (b - a) k post at).1))

-- as many votes as members stand before a closing stage
votes-count : (shape : Shape) (posts : List Post) (stage : ℕ) (kind vote : StageKind) → kind_of_stage shape stage ≡ Some kind
    → vote_of kind ≡ Some vote
    → senders_of shape vote ≡ shape.members
    → length posts ≡ slots_before shape stage → length (written (posts_at shape posts (stage - 1))) ≡ shape.members
votes-count shape posts stage kind vote at closes all whole =
    let follows = closing-follows shape stage kind vote at closes in
    let least = follows.0 in
    let a : ℕ = slots_before shape (stage - 1) in
    let b : ℕ = slots_before shape (stage - 1 + 1) in
    let next : b ≡ a + senders_of shape vote = slots_next shape (stage - 1) vote follows.1 in
    let back : stage - 1 + 1 ≡ stage = omega arith in
    let end : b ≡ slots_before shape stage = ap (λ (s : ℕ). slots_before shape s) back in
    length-map (posts_at shape posts (stage - 1)) post_spelling
    ∙ length-take-le (b - a) (drop a posts) (omega (arith, whole, end, next, length-drop a posts))
    ∙ omega (arith, next, all)

pub final-body : (shape : Shape) (posts : List Post) (stage shuffle : ℕ) (inner outer opening : List ℕ)
    → kind_of_stage shape stage ≡ Some (Final shuffle)
    → length posts ≡ slots_before shape stage
    → ((k : ℕ) (post : Post) → slice_get posts k ≡ Some post → length (post_spelling post) < 2 ^ 32) → length inner ≡ 32 → length outer ≡ 32
    → length opening ≡ 32
    → IsBody shape stage (final_row shape posts stage inner outer opening)
unfolding final_row body_form
final-body shape posts stage shuffle inner outer opening kind whole short i o p =
    elim (cases_Bool (votes_agree shape (contents_of posts) stage)) [
      | inl agree ↦
          subst (IsBody shape stage)
          (sym (cond-true (votes_agree shape (contents_of posts) stage) (Reveal (written (posts_at shape posts (stage - 1))) inner)
          (Dispute (written posts) outer opening) agree)) (
            _,
            ap (λ (k : Option StageKind). form_of shape (slots_before shape stage) k 6) kind,
            (
              (stage-short shape posts (stage - 1) short, votes-count shape posts stage (Final shuffle) (Go shuffle) kind refl refl whole),
              i,
            ),
          )
      | inr differ ↦
          subst (IsBody shape stage)
          (sym (cond-false (votes_agree shape (contents_of posts) stage) (Reveal (written (posts_at shape posts (stage - 1))) inner)
          (Dispute (written posts) outer opening) differ)) (
            _,
            ap (λ (k : Option StageKind). form_of shape (slots_before shape stage) k 7) kind,
            ((all-written posts short, length-map posts post_spelling ∙ whole), o, p),
          )
    ]

pub confirm-body : (shape : Shape) (posts : List Post) (stage : ℕ) → kind_of_stage shape stage ≡ Some Confirm
    → length posts ≡ slots_before shape stage
    → ((k : ℕ) (post : Post) → slice_get posts k ≡ Some post → length (post_spelling post) < 2 ^ 32)
    → IsBody shape stage (confirm_row shape posts stage)
unfolding confirm_row body_form
confirm-body shape posts stage kind whole short =
    elim (cases_Bool (votes_agree shape (contents_of posts) stage)) [
      | inl agree ↦
          subst (IsBody shape stage)
          (sym (cond-true (votes_agree shape (contents_of posts) stage) (ConfirmBody (written (posts_at shape posts (stage - 1))))
          (Differ (written posts)) agree)) (
            _,
            ap (λ (k : Option StageKind). form_of shape (slots_before shape stage) k 10) kind,
            (stage-short shape posts (stage - 1) short, votes-count shape posts stage Confirm Check kind refl refl whole),
          )
      | inr differ ↦
          subst (IsBody shape stage)
          (sym (cond-false (votes_agree shape (contents_of posts) stage) (ConfirmBody (written (posts_at shape posts (stage - 1))))
          (Differ (written posts)) differ)) (
            _,
            ap (λ (k : Option StageKind). form_of shape (slots_before shape stage) k 11) kind,
            (all-written posts short, length-map posts post_spelling ∙ whole),
          )
    ]

-- ---- the own closing content

-- a closing stage is the end of a shuffle or stands behind the checks
pub closing-kind : (o : Option StageKind) → IsSome (option_and_then vote_of o) → ((shuffle : ℕ) × (o ≡ Some (Final shuffle)))
    ⊎ (o ≡ Some Confirm)
closing-kind (Some (Final shuffle)) is = inl (shuffle, refl)
closing-kind (Some Confirm) is = inr refl
closing-kind None is = absurd cc
closing-kind (Some Keys) is = absurd cc
closing-kind (Some (Submit shuffle)) is = absurd cc
closing-kind (Some (Shuffle shuffle k)) is = absurd cc
closing-kind (Some (Go shuffle)) is = absurd cc
closing-kind (Some Pad) is = absurd cc
closing-kind (Some Check) is = absurd cc

-- what an own closing content is
pub record OwnClosing (run : Run) (past : List Post) (content : Content) : Type 0 where
  pub justified : is_content_justified run.config.roster run.config.round content ≡ true
  pub embeds : posts_in_content run.config.roster run.config.round content ≡ Ok (embedded_of (shape_in run.config) content past)

-- at the end of a shuffle it is this
abbrev pub own_final : (run : Run) → ℕ → List Post → ℕ → Content
own_final run shuffle past stage = final_content (shape_in run.config) past (own_header run.config past stage)
    (own_key_seed run.config (inner_place shuffle)) (own_key_seed run.config (outer_place shuffle)) (own_opening run.config shuffle 2)

abbrev due-at : (run : Run) (content : List ℕ) → IsOwnRow run content → Option StageKind → Content
due-at run content row o = record {
  header = own_header run.config row.past row.stage;
  body = own_body_if run.config (own_descriptor run.config (contents_of row.past)) row.past row.stage o;
}

pub final-is : (run : Run) (content : List ℕ) (row : IsOwnRow run content) (shuffle : ℕ) → HonestRun run
    → kind_of_stage (shape_in run.config) row.stage ≡ Some (Final shuffle)
    → row.read ≡ own_final run shuffle row.past row.stage
final-is run content row shuffle honest kind =
    let is = is-past run row.stage row.past honest row.before in
    let due : content_due run content row ≡ own_final run shuffle row.past row.stage = ap (due-at run content row) kind in
    let body =
    final-body (shape_in run.config) row.past row.stage shuffle _ _ _ kind is.long is.short (hash_bytes _ _).0 (hash_bytes _ _).0
    (hash_bytes _ _).0 in
    row-is run content row (subst (λ (c : Content). IsBody (shape_in run.config) row.stage c.body) (sym due) body) ∙ due

pub confirm-is : (run : Run) (content : List ℕ) (row : IsOwnRow run content) → HonestRun run
    → kind_of_stage (shape_in run.config) row.stage ≡ Some Confirm
    → row.read ≡ confirm_content (shape_in run.config) row.past (own_header run.config row.past row.stage)
confirm-is run content row honest kind =
    let is = is-past run row.stage row.past honest row.before in
    let own : Content = confirm_content (shape_in run.config) row.past (own_header run.config row.past row.stage) in
    let due : content_due run content row ≡ own = ap (due-at run content row) kind in
    let body = confirm-body (shape_in run.config) row.past row.stage kind is.long is.short in
    row-is run content row (subst (λ (c : Content). IsBody (shape_in run.config) row.stage c.body) (sym due) body) ∙ due

pub own-closing : (run : Run) (content : List ℕ) (row : IsOwnRow run content) → HonestRun run
    → IsSome (option_and_then vote_of (kind_of_stage (shape_in run.config) row.stage)) → OwnClosing run row.past row.read
own-closing run content row honest closing = elim (closing-kind (kind_of_stage (shape_in run.config) row.stage) closing) [
  | inl (shuffle, kind) ↦ subst (OwnClosing run row.past) (sym (final-is run content row shuffle honest kind)) (at_final shuffle)
  | inr kind ↦ subst (OwnClosing run row.past) (sym (confirm-is run content row honest kind)) at_confirm
]
  where
    shape : Shape
    shape = shape_in run.config

    is : IsPast run row.stage row.past
    is = is-past run row.stage row.past honest row.before

    at_final : (shuffle : ℕ) → OwnClosing run row.past (own_final run shuffle row.past row.stage)
    at_final shuffle =
        let header = own_header run.config row.past row.stage in
        let inner : List ℕ = own_key_seed run.config (inner_place shuffle) in
        let outer : List ℕ = own_key_seed run.config (outer_place shuffle) in
        let opening : List ℕ = own_opening run.config shuffle 2 in
        let embeds = final-embeds shape row.past header inner outer opening is.long in
        record {
          justified =
              own-justified run row.stage row.past (own_final run shuffle row.past row.stage) is embeds
              (final-justified shape row.past header inner outer opening closing refl);
          embeds = own-embeds run row.stage row.past (own_final run shuffle row.past row.stage) is embeds;
        }

    at_confirm : OwnClosing run row.past (confirm_content (shape_in run.config) row.past (own_header run.config row.past row.stage))
    at_confirm =
        let header = own_header run.config row.past row.stage in
        let embeds = confirm-embeds shape row.past header is.long in
        record {
          justified =
              own-justified run row.stage row.past (confirm_content shape row.past header) is embeds
              (confirm-justified shape row.past header closing refl);
          embeds = own-embeds run row.stage row.past (confirm_content shape row.past header) is embeds;
        }
