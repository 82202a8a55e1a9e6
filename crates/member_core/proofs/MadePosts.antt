-- The posts that a member made, one after the other.
use Rattle.std.proofs.Common.{◌≡◌, ℕ, zero, suc, ◌+◌, ◌-◌, ◌<◌, ◌≤◌, List, ◌++◌, Option, Some, None, refl, ap, sym, ◌∙◌, arith}
use Rattle.std.specs.Prelude.{filter_map}
use Rattle.std.specs.List.{cons_option, range_with_len, slice_get}
use Rattle.std.specs.Option.{option_to_list}
use Rattle.phase_message.specs.declared.post.Post.{Post}
use Rattle.phase_message.specs.Slots.{stage_count}
use Rattle.stage_log.specs.Table.{Log}
use Rattle.member_core.specs.Membership.{own_posts_kept}
use Rattle.member_core.proofs.OwnPosts.{own_kept}

-- those from a stage on, and behind them the one that it does not keep
unfoldable pub posts_from : Log → ℕ → Option Post → ℕ → List Post
posts_from log number stray stage =
    filter_map (own_kept log number) (range_with_len stage (stage_count log.shape - stage)) ++ option_to_list stray

pub from-first : (log : Log) (number : ℕ) (stray : Option Post) → own_posts_kept log number
    ++ option_to_list stray ≡ posts_from log number stray 0
unfolding posts_from own_posts_kept
from-first log number stray =
    let all : stage_count log.shape ≡ stage_count log.shape - 0 = omega arith in
    ap (λ (n : ℕ). filter_map (own_kept log number) (range_with_len 0 n) ++ option_to_list stray) all

cons-more : (o : Option Post) (xs ys : List Post) → cons_option o xs ++ ys ≡ cons_option o (xs ++ ys)
cons-more None xs ys = refl
cons-more (Some post) xs ys = refl

pub from-next : (log : Log) (number : ℕ) (stray : Option Post) (stage : ℕ) → stage < stage_count log.shape
    → posts_from log number stray stage ≡ cons_option (own_kept log number stage) (posts_from log number stray (stage + 1))
unfolding posts_from
from-next log number stray stage lt =
    let n : ℕ = stage_count log.shape in
    let split : n - stage ≡ suc (n - (stage + 1)) = omega (arith, lt) in
    ap (λ (k : ℕ). filter_map (own_kept log number) (range_with_len stage k) ++ option_to_list stray) split
    ∙ cons-more (own_kept log number stage) (filter_map (own_kept log number) (range_with_len (stage + 1) (n - (stage + 1))))
    (option_to_list stray)

pub from-last : (log : Log) (number : ℕ) (stray : Option Post) (stage : ℕ) → stage_count log.shape ≤ stage
    → posts_from log number stray stage ≡ option_to_list stray
unfolding posts_from
from-last log number stray stage le =
    let none : stage_count log.shape - stage ≡ zero = omega (arith, le) in
    ap (λ (k : ℕ). filter_map (own_kept log number) (range_with_len stage k) ++ option_to_list stray) none

-- what stands at a place among them, where a stage has this
pub first-from : (log : Log) (number : ℕ) (stray : Option Post) (stage : ℕ) (post : Post) → stage < stage_count log.shape
    → own_kept log number stage ≡ Some post → slice_get (posts_from log number stray stage) 0 ≡ Some post
first-from log number stray stage post lt e =
    ap (λ (posts : List Post). slice_get posts 0) (from-next log number stray stage lt
    ∙ ap (λ (o : Option Post). cons_option o (posts_from log number stray (stage + 1))) e)

pub later-from : (log : Log) (number : ℕ) (stray : Option Post) (stage place : ℕ) (post : Post) → stage < stage_count log.shape
    → own_kept log number stage ≡ Some post → (place ≡ 0 → ⊥)
    → slice_get (posts_from log number stray (stage + 1)) (place - 1) ≡ slice_get (posts_from log number stray stage) place
later-from log number stray stage zero post lt e some = absurd (some refl)
later-from log number stray stage (suc place) post lt e some =
    let back : suc place - 1 ≡ place = omega arith in
    ap (slice_get (posts_from log number stray (stage + 1))) back
    ∙ sym (ap (λ (posts : List Post). slice_get posts (suc place)) (from-next log number stray stage lt
    ∙ ap (λ (o : Option Post). cons_option o (posts_from log number stray (stage + 1))) e))

pub same-from : (log : Log) (number : ℕ) (stray : Option Post) (stage place : ℕ) → stage < stage_count log.shape
    → own_kept log number stage ≡ None
    → slice_get (posts_from log number stray (stage + 1)) place ≡ slice_get (posts_from log number stray stage) place
same-from log number stray stage place lt e =
    sym (ap (λ (posts : List Post). slice_get posts place) (from-next log number stray stage lt
    ∙ ap (λ (o : Option Post). cons_option o (posts_from log number stray (stage + 1))) e))
