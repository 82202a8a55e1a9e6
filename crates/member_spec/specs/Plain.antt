-- What a member of a plain conduct comes to: the result of its deliveries and the posts that they ask for, by a run that
-- is honest, with at most one end of each shuffle and within the room of a round.
use Rattle.std.specs.Prelude.{◌≡◌, ℕ, ◌≤◌, List, length, All, Contains, Bool, false, ◌==◌, Some, Ok, Err, Result, count_by}
use Rattle.wire_core.specs.Bytes.{IsBytes}
use Rattle.wire_core.specs.declared.cursor.Short.{Short}
use Rattle.phase_message.specs.declared.content.Body.{Body}
use Rattle.phase_message.specs.declared.content.Body.TheVariants.{Dispute, Reveal}
use Rattle.phase_message.specs.declared.content.Content.{Content}
use Rattle.phase_message.specs.declared.header.Header.{Header}
use Rattle.phase_message.specs.declared.post.Post.{Post}
use Rattle.phase_message.specs.declared.stage.Slot.{Slot}
use Rattle.phase_message.specs.declared.stage.StageKind.{StageKind}
use Rattle.phase_message.specs.declared.stage.StageKind.TheVariants.{Final}
use Rattle.phase_message.specs.Header.{header_of}
use Rattle.phase_message.specs.Offence.{content_read}
use Rattle.phase_message.specs.Post.{post_spelling}
use Rattle.phase_message.specs.Stages.{kind_of_stage}
use Rattle.stage_log.specs.Table.{Log, kept_in}
use Rattle.shuffle_blame.specs.Replay.{outer_place}
use Rattle.round_spec.specs.Slots.{final_stage, inner_place}
use Rattle.round_spec.specs.Say.{Configuration, own_key_seed, own_opening, shape_in}
use Rattle.round_spec.specs.Result.{log_after, posts_of, result_of}
use Rattle.round_spec.specs.Runs.{CanEnter, HonestRun, IsConfiguration, posts_said}
use Rattle.member_spec.specs.Actor.{Actor, actor_after}
use Rattle.member_spec.specs.Outcomes.{outcome_of}
use Rattle.member_spec.specs.Replies.{IsPlain, Replies}
use Rattle.member_spec.specs.Sizes.{bytes_kept, greatest_log, greatest_post}

-- ---- the result

-- a member has come to the result of deliveries: how the round stands, the posts, and the log
pub record ComesTo (c : Configuration) (delivered : List (List ℕ)) (a : Actor) : Type 0 where
  pub outcome : outcome_of c a ≡ result_of c delivered
  pub posts : a.made ≡ posts_of c delivered
  pub log : a.log ≡ log_after c delivered

-- so it is with every plain conduct, whether the member's key is the roster's or not
abbrev pub PlainComesToResult : Type 0
PlainComesToResult = (replies : Replies) (c : Configuration) (delivered : List (List ℕ)) → IsPlain replies → CanEnter c →
    All IsBytes delivered → ComesTo c delivered (actor_after replies c delivered)

-- its run is honest, where its key is the roster's
abbrev pub PlainRunIsHonest : Type 0
PlainRunIsHonest = (replies : Replies) (c : Configuration) (delivered : List (List ℕ)) → IsPlain replies → IsConfiguration c →
    All IsBytes delivered → HonestRun (record { config = c; log = (actor_after replies c delivered).log })

-- and the posts that it has made are just its own posts in the log of that run
abbrev pub PlainPostsAreSaid : Type 0
PlainPostsAreSaid = (replies : Replies) (c : Configuration) (delivered : List (List ℕ)) → IsPlain replies → CanEnter c →
    All IsBytes delivered → (actor_after replies c delivered).made ≡ posts_said
    (record { config = c; log = (actor_after replies c delivered).log })

-- ---- one end of a shuffle

-- whether a header is of the end of a shuffle
abbrev pub ends_shuffle : Configuration → ℕ → Result Header Short → Bool
ends_shuffle c shuffle (Ok header) = header.stage == final_stage (shape_in c) shuffle
ends_shuffle c shuffle (Err short) = false

-- whether a post is
abbrev pub is_end : Configuration → ℕ → Post → Bool
is_end c shuffle post = ends_shuffle c shuffle (header_of post.content)

-- a body shows the inner seed of a shuffle, or the outer seed with the outer opening
abbrev pub ShowsOneSeed : Configuration → ℕ → Body → Type 0
ShowsOneSeed c shuffle (Reveal votes seed) = seed ≡ own_key_seed c (inner_place shuffle)
ShowsOneSeed c shuffle (Dispute posts seed opening) = (seed ≡ own_key_seed c (outer_place shuffle)) × (opening ≡ own_opening c shuffle 2)
ShowsOneSeed c shuffle body = ⊥

-- among posts at most one ends the shuffle, and it shows one of the two seeds
pub record EndsOnce (c : Configuration) (made : List Post) (shuffle : ℕ) : Type 0 where
  pub single : count_by (is_end c shuffle) made ≤ 1
  pub shows : (post : Post) (content : Content) → Contains made post → content_read (shape_in c) post.content ≡ Ok content →
      kind_of_stage (shape_in c) content.header.stage ≡ Some (Final shuffle) → ShowsOneSeed c shuffle content.body

-- so it is among the posts of a plain conduct
abbrev pub PlainEndsOnce : Type 0
PlainEndsOnce = (replies : Replies) (c : Configuration) (delivered : List (List ℕ)) (shuffle : ℕ) → IsPlain replies →
    CanEnter c → All IsBytes delivered → EndsOnce c (actor_after replies c delivered).made shuffle

-- ---- room

-- what a log keeps has at most the bytes of the greatest post in each slot, and of all of these together
pub record KeepsAtMost (c : Configuration) (log : Log) : Type 0 where
  pub each : (slot : Slot) (post : Post) (kind : StageKind) → kept_in log slot ≡ Some post →
      kind_of_stage (shape_in c) slot.stage ≡ Some kind → length (post_spelling post) ≤ greatest_post (shape_in c) kind
  pub all : bytes_kept log ≤ greatest_log (shape_in c)

-- so it is with the log of every plain conduct
abbrev pub PlainKeepsAtMost : Type 0
PlainKeepsAtMost = (replies : Replies) (c : Configuration) (delivered : List (List ℕ)) → IsPlain replies → CanEnter c →
    All IsBytes delivered → KeepsAtMost c (actor_after replies c delivered).log
