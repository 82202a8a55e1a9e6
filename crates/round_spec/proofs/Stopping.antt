-- Where the course of a whole round stops.
use Rattle.std.proofs.Common.{◌≡◌, ◌⊎◌, ℕ, zero, suc, ◌+◌, ◌<◌, ◌≤◌, true, false, List, [], ◌∷◌, ◌++◌, length, take, Option, Some, None, Result, Ok, ap, sym, ◌∙◌, refl, arith, rules, inl, inr}
use Rattle.std.specs.Prelude.{◌==◌, ◌^◌, is_some, option_map, option_and_then, slice_index_or}
use Rattle.std.specs.List.{slice_get}
use Rattle.std.proofs.lemmas.Bool.{cases_Bool, cond-true, cond-false}
use Rattle.std.proofs.lemmas.Option.{slice_get-get_or}
use Rattle.wire_core.specs.declared.cursor.Short.{Short}
use Rattle.wire_core.specs.declared.tag.Tag.TheVariants.{View}
use Rattle.wire_core.proofs.AnswerLemmas.{nothing_mapped}
use Rattle.wire_core.proofs.ByteLists.{hash_bytes}
use Rattle.phase_message.specs.declared.content.Content.{Content}
use Rattle.phase_message.specs.declared.header.Header.{Header}
use Rattle.phase_message.specs.declared.post.Post.{Post}
use Rattle.phase_message.specs.declared.stage.Slot.{Slot}
use Rattle.phase_message.specs.declared.stage.StageKind.{StageKind}
use Rattle.phase_message.specs.declared.stage.StageKind.TheVariants.{Final}
use Rattle.phase_message.specs.Grammar.{body_text, content_text, kind_number}
use Rattle.phase_message.specs.Header.{header_of}
use Rattle.phase_message.specs.Offence.{content_read}
use Rattle.phase_message.specs.Shape.{Shape}
use Rattle.phase_message.specs.Slots.{slot_number, slots_before, stage_count}
use Rattle.phase_message.specs.Stages.{is_member, is_slot, kind_of_stage, speaks, vote_of}
use Rattle.phase_message.proofs.SlotLists.{past-stage, slot_number-within}
use Rattle.phase_message.proofs.Table.{final_b_is}
use Rattle.phase_message.proofs.Whole.{begins-header_of, content-header}
use Rattle.stage_log.specs.Log.{contents_of, view_of}
use Rattle.round_spec.specs.Say.{Configuration, content_with, own_content, own_descriptor, own_header, own_post, shape_in}
use Rattle.round_spec.specs.Verdict.{ClosedStage, Convicts, Done, Goes, Verdict, closing_content, no_post}
use Rattle.round_spec.specs.Course.{Others, Stand, closing_of, course_from, course_of, first_stand, is_open, next_stand, stage_filled, stand_behind}
use Rattle.round_spec.specs.Cases.{IsMemberOf, IsWhole}
use Rattle.round_spec.specs.Reached.{CourseStops, IsReached, NameSlots, post_due}
use Rattle.round_spec.proofs.Courses.{cases_Some, course-next, course-stays, next-ended}
use Rattle.round_spec.proofs.Reached.{behind-at, next-parts, stands_are_reached}
use Rattle.round_spec.proofs.Verdicts.{final_b_ends}

-- ---- own contents name their slots

view-long : (shape : Shape) (past : List (List ℕ)) (stage : ℕ) → length (view_of shape past stage) ≡ 32
view-long shape past zero = (hash_bytes View []).0
view-long shape past (suc stage) = (hash_bytes View _).0

same-header : (a b : Header) (r : Result Header Short) → r ≡ Ok a → r ≡ Ok b → a ≡ b
same-header a b r e e' = let both = sym e ∙ e' in cc

-- the header that stands before an own content
pub own-header : (c : Configuration) (posts : List Post) (stage : ℕ) → c.round < 2 ^ 64
    → header_of (own_content c posts stage) ≡ Ok (own_header c posts stage)
unfolding own_content content_with
own-header c posts stage small =
    let x : Content = content_with c (own_descriptor c (contents_of posts)) posts stage in
    begins-header_of (content_text x) (own_header c posts stage) (record {
      widths = record {
        group_long = (hash_bytes _ _).0;
        round_small = small;
        view_long = view-long (shape_in c) (contents_of posts) stage;
      };
      rest = (kind_number x.body ∷ []) ++ body_text x.body;
      spelled = refl;
    })

pub own-names : (c : Configuration) (posts : List Post) (stage : ℕ) (content : Content) → c.round < 2 ^ 64
    → content_read (shape_in c) (own_post c posts stage).content ≡ Ok content
    → content.header ≡ own_header c posts stage
unfolding own_post
own-names c posts stage content small reads =
    same-header content.header (own_header c posts stage) (header_of (own_content c posts stage))
    (content-header (shape_in c) (own_content c posts stage) content reads) (own-header c posts stage small)

-- ---- the last stage

due-names : (c : Configuration) (others : Others) (past : List Post) (stage sender : ℕ) (post : Post) (content : Content) → c.round < 2 ^ 64
    → NameSlots c others
    → post_due c others past stage sender ≡ Some post → content_read (shape_in c) post.content ≡ Ok content → content.header.stage ≡ stage
due-names c others past stage sender post content small names due reads = elim (cases_Bool (sender == c.number)) [
  | inl own ↦
      let is : own_post c (take (slots_before (shape_in c) stage) past) stage ≡ post = told_same _ _
      (sym (cond-true (sender == c.number) (Some (own_post c (take (slots_before (shape_in c) stage) past) stage)) _ own) ∙ due) in
      ap (λ (h : Header). h.stage) (own-names c (take (slots_before (shape_in c) stage) past) stage content small
      (ap (λ (p : Post). content_read (shape_in c) p.content) is ∙ reads))
  | inr other ↦
      ap (λ (slot : Slot). slot.stage) (names (record { stage = stage; sender = sender }) post content
      (sym (cond-false (sender == c.number) (Some (own_post c (take (slots_before (shape_in c) stage) past) stage))
      (others (record { stage = stage; sender = sender })) other) ∙ due) reads)
]
  where
    told_same : (x y : Post) → (let told : Post → Option Post = λ z. Some z in told x ≡ told y) → x ≡ y
    told_same x y e = cc

due-there : (past : List Post) (number : ℕ) (o : Option Post) (content : Content) (shape : Shape) → slice_get past number ≡ o
    → content_read shape (slice_index_or past number no_post).content ≡ Ok content
    → number < length past → (post : Post) × (o ≡ Some post) × (content_read shape post.content ≡ Ok content)
due-there past number o content shape e reads lt =
    let there = slice_get-get_or past number no_post lt in
    (slice_index_or past number no_post, sym e ∙ there, reads)

-- a stand behind the end of shuffle B is not open
last-ends : (c : Configuration) (others : Others) (stand : Stand) → c.round < 2 ^ 64 → 1 ≤ (shape_in c).members → NameSlots c others
    → IsReached c others stand
    → stand.at ≡ stage_count (shape_in c) → is_open stand.verdict ≡ false
last-ends c others stand small least names is end = ended stand.verdict (λ goes. final_b_ends v whole kind (is.last stage back ∙ goes))
  where
    stage : ℕ
    stage = (shape_in c).members + (shape_in c).members + 9

    back : stage + 1 ≡ stand.at
    back = omega (arith, end)

    kind : kind_of_stage (shape_in c) stage ≡ Some (Final 2)
    kind = final_b_is (shape_in c) stage refl

    v : ClosedStage
    v = closing_of c stand.past stage

    ended : (verdict : Verdict) → (verdict ≡ Goes → ⊥) → is_open verdict ≡ false
    ended Goes no_goes = absurd (no_goes refl)
    ended Done no_goes = refl
    ended (Convicts t) no_goes = refl

    named : (member : ℕ) (content : Content) → IsMemberOf v member → closing_content v member ≡ Ok content → content.header.stage ≡ stage
    named member content in_round reads =
        let first = in_round.least in
        let last = in_round.most in
        let speaks_there : is_slot (shape_in c) stage member ≡ true = ap (λ (o : Option StageKind). speaks (shape_in c) o member) kind
        ∙ is_there member first last in
        let within = slot_number-within (shape_in c) stage member speaks_there in
        let after = within.1 in
        let n : slots_before (shape_in c) (stage + 1) ≡ length stand.past = ap (λ (s : ℕ). slots_before (shape_in c) s) back
        ∙ sym is.whole in
        let there = due-there stand.past (slot_number (shape_in c) stage member) _ content (shape_in c)
        (is.posts stage member speaks_there (omega (arith, back))) reads (omega (arith, n)) in
        due-names c others stand.past stage member there.0 content small names there.1 there.2
      where
        is_there : (member : ℕ) → 1 ≤ member → member ≤ (shape_in c).members → is_member (shape_in c).members member ≡ true
        is_there member first last = search rules

    whole : IsWhole v
    whole = record {
      members = least;
      closing = ap (λ (o : Option StageKind). is_some (option_and_then vote_of o)) kind;
      posts = is.whole ∙ ap (λ (s : ℕ). slots_before (shape_in c) s) (sym back);
      named = named;
    }

-- ---- the course

-- a course of so many stages has no next stand, or all of them are passed
fuel : (c : Configuration) (others : Others) (stages : ℕ) (stand : Stand) → (next_stand c others (course_from c others stages stand) ≡ None)
    ⊎ ((course_from c others stages stand).at ≡ stand.at + stages)
unfolding course_from
fuel c others zero stand = inr (omega arith)
fuel c others (suc stages) stand = elim (cases_Some (next_stand c others stand)) [
  | inl none ↦ inl (ap (next_stand c others) (course-stays c others (suc stages) stand none) ∙ none)
  | inr next ↦
      let step : next.0.at ≡ stand.at + 1 = step_is next.0 next.1 in
      let here = course-next c others stages stand next.0 next.1 in
      elim (fuel c others stages next.0) [
        | inl none ↦ inl (ap (next_stand c others) here ∙ none)
        | inr all ↦ inr (ap (λ (s : Stand). s.at) here ∙ all ∙ omega (arith, step))
      ]
]
  where
    step_is : (next : Stand) → next_stand c others stand ≡ Some next → next.at ≡ stand.at + 1
    step_is next e = (let parts = next-parts c others stand next e in sym (ap (λ (s : Stand). s.at) parts.1.2)
        ∙ behind-at c stand parts.1.0)

-- nothing is next of an open stand: the stage is not filled
unfilled : (c : Configuration) (others : Others) (stand : Stand) → next_stand c others stand ≡ None → is_open stand.verdict ≡ true
    → stage_filled c others stand ≡ None
unfolding next_stand
unfilled c others stand none still =
    nothing_mapped (stand_behind c stand) (stage_filled c others stand)
    (sym (cond-true (is_open stand.verdict) (option_map (stand_behind c stand) (stage_filled c others stand)) None still) ∙ none)

pub course_stops : CourseStops
unfolding course_of
course_stops c others small least names = record {
  no_next = none;
  stage = λ still. by_kind still (kind_of_stage (shape_in c) end.at) refl;
  unfilled = λ still. unfilled c others end none still;
}
  where
    end : Stand
    end = course_from c others (stage_count (shape_in c)) first_stand

    is : IsReached c others end
    is = stands_are_reached c others (stage_count (shape_in c))

    at_end : kind_of_stage (shape_in c) end.at ≡ None → end.at ≡ stage_count (shape_in c)
    at_end e = (let beyond = past-stage (shape_in c) end.at e in let within = is.within in omega arith)

    none : next_stand c others end ≡ None
    none = elim (fuel c others (stage_count (shape_in c)) first_stand) [
      | inl stopped ↦ stopped
      | inr all ↦ next-ended c others end (last-ends c others end small least names is
          (let at : end.at ≡ 0 + stage_count (shape_in c) = all in omega (arith, at)))
    ]

    by_kind : is_open end.verdict ≡ true → (o : Option StageKind) → kind_of_stage (shape_in c) end.at ≡ o → (kind : StageKind)
        × (kind_of_stage (shape_in c) end.at ≡ Some kind)
    by_kind still (Some kind) e = (kind, e)
    by_kind still None e = absurd (let over = last-ends c others end small least names is (at_end e) in let both = sym still ∙ over in cc)
