-- What the runs of honest members sent.
use Rattle.std.proofs.Common.{◌≡◌, ℕ, ◌<◌, List, length, Option, Some, Result, Ok, ap, sym, ◌∙◌, refl, subst, arith, inl, inr}
use Rattle.std.specs.Prelude.{Contains, ◌==◌, slice_index_or}
use Rattle.std.specs.List.{range_with_len}
use Rattle.std.proofs.lemmas.Bool.{cases_lt, eqb-true}
use Rattle.std.proofs.lemmas.List.Elements.{All-contains}
use Rattle.std.proofs.lemmas.Option.{slice_get-get_or}
use Rattle.wire_core.specs.declared.cursor.Short.{Short}
use Rattle.wire_core.specs.Answers.{fault_as}
use Rattle.wire_core.proofs.Readings.{bind_ok, fault_as_ok}
use Rattle.phase_message.specs.declared.content.Content.{Content}
use Rattle.phase_message.specs.declared.header.Header.{Header}
use Rattle.phase_message.specs.declared.post.Post.{Post}
use Rattle.phase_message.specs.Header.{header_of}
use Rattle.phase_message.specs.Offence.{content_read}
use Rattle.phase_message.specs.Slots.{stage_count}
use Rattle.phase_message.proofs.Whole.{content-is_spelled}
use Rattle.group_roster.specs.Roster.{Roster, shape_of_roster}
use Rattle.signed_post.specs.declared.post.PostRefusal.TheVariants.{Body}
use Rattle.signed_post.specs.Admission.{admission_of, check_of}
use Rattle.stage_log.specs.Log.{before}
use Rattle.stage_log.specs.Table.{kept_in}
use Rattle.stage_log.proofs.Fronts.{before-front}
use Rattle.round_spec.specs.Say.{Configuration, own_content, own_header, own_post, shape_in}
use Rattle.round_spec.specs.Runs.{AreApart, ChecksIn, HonestRun, IsOwnPost, Run, contents_sent, own_slot, posts_said, runs_of, sent}
use Rattle.round_spec.specs.Rows.{IsOwnRow, IsRunOf, OnePerSlot, OwnRow, RowPast, RunOfContent, RunUnique}
use Rattle.round_spec.proofs.Contained.{contains-filter, contains-filter_map, contains-flat, contains-map}
use Rattle.round_spec.proofs.Stopping.{own-header}

-- a post that checks is admitted, and its content is read
pub checks-parts : (roster : Roster) (round : ℕ) (post : Post) (content : Content) → check_of roster round post ≡ Ok content
    → (header : Header) × (admission_of roster round post ≡ Ok header) × (content_read (shape_of_roster roster) post.content ≡ Ok content)
unfolding check_of
checks-parts roster round post content e =
    let header = bind_ok (admission_of roster round post) (λ header. fault_as (λ offence. Body offence.at offence.rule)
    (content_read (shape_of_roster roster) post.content)) content e in (
      header.0,
      header.1,
      fault_as_ok (λ offence. Body offence.at offence.rule) (content_read (shape_of_roster roster) post.content) content
          header.2,
    )

-- ---- what one run sent

own-content : (c : Configuration) (posts : List Post) (stage : ℕ) → (own_post c posts stage).content ≡ own_content c posts stage
unfolding own_post
own-content c posts stage = refl

pub own_row : OwnRow
unfolding sent
own_row run content honest listed =
    let found = contains-map (λ (post : Post). post.content) (posts_said run) content listed in
    let at = contains-filter_map (λ stage. kept_in run.log (own_slot run stage)) (range_with_len 0 (stage_count run.log.shape)) found.0
    found.1 in
    row at.0 found.0 at.2 found.2 (honest.own at.0 found.0 at.2) (honest.posts (own_slot run at.0) found.0 at.2)
  where
    row : (stage : ℕ) (post : Post) → kept_in run.log (own_slot run stage) ≡ Some post → post.content ≡ content → IsOwnPost run stage post
        → ChecksIn run.config (own_slot run stage) post → IsOwnRow run content
    row stage post kept is own checks =
        let said : content ≡ own_content run.config own.past stage = sym is ∙ ap (λ (p : Post). p.content) own.said
        ∙ own-content run.config own.past stage in
        let parts = checks-parts run.config.roster run.config.round post checks.content checks.checks in
        let spelled = content-is_spelled (shape_in run.config) post.content checks.content checks.content_bytes parts.2 in
        record {
          stage = stage;
          post = post;
          kept = kept;
          content_is = is;
          past = own.past;
          before = own.before;
          goes = own.goes;
          said = said;
          read = checks.content;
          grammar = spelled.1;
          spelled = sym is ∙ spelled.0;
          header = ap header_of said ∙ own-header run.config own.past stage honest.config.enter.round;
        }

posts-same : (x y : List Post) → (let told : List Post → Option (List Post) = λ z. Some z in told x ≡ told y) → x ≡ y
posts-same x y e = cc

pub row_past : RowPast
row_past run stage later past later_past le here there = posts-same past _ (sym here ∙ before-front run.log stage later later_past le there)

-- ---- the run of a round

headers-same : (a b : Header) (r : Result Header Short) → r ≡ Ok a → r ≡ Ok b → a ≡ b
headers-same a b r e e' = let both = sym e ∙ e' in cc

pub run_of_content : RunOfContent
unfolding contents_sent
run_of_content roster runs number content header honest listed reads =
    let found = contains-flat sent (runs_of runs number) content listed in
    let of_member = contains-filter (λ (run : Run). run.config.number == number) runs found.0 found.1 in
    let row = own_row found.0 content (All-contains HonestRun runs found.0 honest.honest of_member.0) found.2 in
    let same = headers-same (own_header found.0.config row.past row.stage) header (header_of content) row.header reads in (
      found.0,
      record {
        listed = of_member.0;
        number = eqb-true found.0.config.number number of_member.1;
        round = ap
            (λ (h : Header). h.round) same;
      },
      found.2,
    )

runs-same : (x y : Run) → (let told : Run → Option Run = λ z. Some z in told x ≡ told y) → x ≡ y
runs-same x y e = cc

-- what stands at a place does not depend on what would stand past the end
at-place : (runs : List Run) (k : ℕ) (run d : Run) → k < length runs → slice_index_or runs k run ≡ run → slice_index_or runs k d ≡ run
at-place runs k run d lt e = runs-same _ _ (sym (slice_get-get_or runs k d lt) ∙ slice_get-get_or runs k run lt) ∙ e

pub run_unique : RunUnique
run_unique roster runs number round run other honest is is_other = by_place is.listed is_other.listed
  where
    apart : (k l : ℕ) (a b : Run) → k < l → l < length runs → slice_index_or runs k a ≡ a → slice_index_or runs l b ≡ b
        → a.config.number ≡ b.config.number → a.config.round ≡ b.config.round → ⊥
    apart k l a b lt within at there numbers rounds =
        let far = honest.apart k l a lt within in
        let both : AreApart a b = subst (λ (x : Run). AreApart x b) at
        (subst (λ (y : Run). AreApart (slice_index_or runs k a) y) (at-place runs l b a within there) far) in
        both numbers rounds

    by_place : Contains runs run → Contains runs other → run ≡ other
    by_place (k, lt, at) (l, lt', there) = elim (cases_lt k l) [
      | inl earlier ↦ absurd (apart k l run other earlier lt' at there (is.number ∙ sym is_other.number) (is.round ∙ sym is_other.round))
      | inr later ↦ elim (cases_lt l k) [
        | inl before ↦ absurd (apart l k other run before lt there at (is_other.number ∙ sym is.number) (is_other.round ∙ sym is.round))
        | inr same ↦ (let e : l ≡ k = omega arith in sym at ∙ sym (ap (λ (m : ℕ). slice_index_or runs m run) e)
            ∙ at-place runs l other run lt' there)
      ]
    ]

some-post : (x y : Post) → (let told : Post → Option Post = λ z. Some z in told x ≡ told y) → x ≡ y
some-post x y e = cc

-- two contents of one run at one stage
same-stage : (run : Run) (a b : List ℕ) (h g : Header) → HonestRun run → Contains (sent run) a → Contains (sent run) b → header_of a ≡ Ok h
    → header_of b ≡ Ok g → h.stage ≡ g.stage → a ≡ b
same-stage run a b h g honest listed_a listed_b reads_a reads_b stages =
    let row_a = own_row run a honest listed_a in
    let row_b = own_row run b honest listed_b in
    let stage_a : row_a.stage ≡ h.stage = ap (λ (x : Header). x.stage)
    (headers-same (own_header run.config row_a.past row_a.stage) h (header_of a) row_a.header reads_a) in
    let stage_b : row_b.stage ≡ g.stage = ap (λ (x : Header). x.stage)
    (headers-same (own_header run.config row_b.past row_b.stage) g (header_of b) row_b.header reads_b) in
    let one : row_a.stage ≡ row_b.stage = stage_a ∙ stages ∙ sym stage_b in
    let posts : row_a.post ≡ row_b.post = some-post _ _ (sym row_a.kept ∙ ap (λ (s : ℕ). kept_in run.log (own_slot run s)) one ∙ row_b.kept)
    in
    sym row_a.content_is ∙ ap (λ (p : Post). p.content) posts ∙ row_b.content_is

pub one_per_slot : OnePerSlot
one_per_slot roster runs number a b h g honest listed_a listed_b reads_a reads_b rounds stages =
    let run_a = run_of_content roster runs number a h honest listed_a reads_a in
    let run_b = run_of_content roster runs number b g honest listed_b reads_b in
    let is_b : IsRunOf runs number h.round run_b.0 = record {
      listed = run_b.1.listed;
      number = run_b.1.number;
      round = run_b.1.round
          ∙ sym rounds;
    } in
    let same : run_b.0 ≡ run_a.0 = run_unique roster runs number h.round run_b.0 run_a.0 honest is_b run_a.1 in
    same-stage run_a.0 a b h g (All-contains HonestRun runs run_a.0 honest.honest run_a.1.listed) run_a.2
    (subst (λ (run : Run). Contains (sent run) b) same run_b.2) reads_a reads_b stages
