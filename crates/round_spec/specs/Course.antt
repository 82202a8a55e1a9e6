-- The course of a round as one member sees it: it fills one stage after the other with what it says itself and with
-- what the others said, until a stage is not complete or a closing stage has a verdict that ends the round.
use Rattle.std.specs.Prelude.{ℕ, zero, suc, ◌+◌, List, [], ◌++◌, map, take, Bool, true, false, ◌&&◌, ◌||◌, ◌==◌, nat_lt, Option, Some, None, option_and_then, option_map, filter_map, if◌then◌else◌}
use Rattle.std.specs.List.{range_with_len}
use Rattle.phase_message.specs.declared.post.Post.{Post}
use Rattle.phase_message.specs.declared.stage.Slot.{Slot}
use Rattle.phase_message.specs.declared.stage.StageKind.{StageKind}
use Rattle.phase_message.specs.Shape.{Shape}
use Rattle.phase_message.specs.Slots.{senders_in, slots_before, slots_of, stage_count}
use Rattle.phase_message.specs.Stages.{is_slot, kind_of_stage}
use Rattle.stage_log.specs.Log.{all_some}
use Rattle.stage_log.specs.Table.{Log}
use Rattle.round_spec.specs.Say.{Configuration, own_post, shape_in}
use Rattle.round_spec.specs.Verdict.{ClosedStage, Verdict, Goes, Done, Convicts, verdict_of}

-- ---- one stage

-- where a member stands: the stage that is being filled, the posts of all slots before it, and the verdict of the last
-- stage that was passed, which is that the round goes on as long as it is open
pub record Stand : Type 0 where
  pub at : ℕ
  pub past : List Post
  pub verdict : Verdict

-- where it begins
abbrev pub first_stand : Stand
first_stand = record { at = 0; past = []; verdict = Goes }

-- whether a verdict leaves the round open
abbrev pub is_open : Verdict → Bool
is_open Goes = true
is_open Done = false
is_open (Convicts transcript) = false

-- the posts of the other members, as far as they have come
abbrev pub Others : Type 0
Others = Slot → Option Post

-- the post of a sender of the stage that is being filled: the member's own is there at once
abbrev pub post_of : Configuration → Others → Stand → ℕ → Option Post
post_of c others stand sender =
    if sender == c.number then Some (own_post c stand.past stand.at)
    else others (record { stage = stand.at; sender = sender })

-- the posts of all senders of a stage of a kind, if all are there
abbrev pub posts_of_kind : Configuration → Others → Stand → StageKind → Option (List Post)
posts_of_kind c others stand kind = all_some (map (post_of c others stand) (senders_in (shape_in c) kind))

-- the posts of the stage that is being filled, if it is a stage of the round and all are there
unfoldable pub stage_filled : Configuration → Others → Stand → Option (List Post)
stage_filled c others stand = option_and_then (posts_of_kind c others stand) (kind_of_stage (shape_in c) stand.at)

-- the stage that comes after a passed one
abbrev pub stage_after : Shape → Verdict → ℕ → ℕ
stage_after shape verdict stage = stage + 1

-- what a verdict is on, in the round of a member
abbrev pub closing_of : Configuration → List Post → ℕ → ClosedStage
closing_of c posts stage = record { roster = c.roster; round = c.round; posts = posts; stage = stage }

-- where it stands once these posts have filled the stage
unfoldable pub stand_behind : Configuration → Stand → List Post → Stand
stand_behind c stand posts =
    let verdict = verdict_of (closing_of c (stand.past ++ posts) stand.at) in
    record { at = stage_after (shape_in c) verdict stand.at; past = stand.past ++ posts; verdict = verdict }

-- ---- the course

-- where it stands after the stage that is being filled, if the round is open and the stage is filled
unfoldable pub next_stand : Configuration → Others → Stand → Option Stand
next_stand c others stand =
    if is_open stand.verdict then option_map (stand_behind c stand) (stage_filled c others stand) else None

-- going on from the next stand, if there is one
abbrev pub stand_or_next : (Stand → Stand) → Stand → Option Stand → Stand
stand_or_next go stand None = stand
stand_or_next go stand (Some next) = go next

-- the course from a stand, of at most so many stages that are passed
unfoldable pub course_from : Configuration → Others → ℕ → Stand → Stand
course_from c others zero stand = stand
course_from c others (suc stages) stand = stand_or_next (course_from c others stages) stand (next_stand c others stand)

-- the course of a whole round
unfoldable pub course_of : Configuration → Others → Stand
course_of c others = course_from c others (stage_count (shape_in c)) first_stand

-- ---- the settled log

-- whether the member has its own post at a stage: it speaks there, and the stage was passed or is being filled in a
-- round that is open
abbrev pub has_spoken : Configuration → Stand → ℕ → Bool
has_spoken c stand stage =
    is_slot (shape_in c) stage c.number && (nat_lt stage stand.at || (is_open stand.verdict && (stage == stand.at)))

-- the posts before a stage
abbrev pub posts_before_stage : Configuration → Stand → ℕ → List Post
posts_before_stage c stand stage = take (slots_before (shape_in c) stage) stand.past

-- its own post at a stage, if it has one
abbrev pub own_post_at : Configuration → Stand → ℕ → Option Post
own_post_at c stand stage = if has_spoken c stand stage then Some (own_post c (posts_before_stage c stand stage) stage) else None

-- the posts that the member keeps: of a slot of its own its own post, and of another the other's
unfoldable pub post_settled : Configuration → Others → Stand → Slot → Option Post
post_settled c others stand slot = if slot.sender == c.number then own_post_at c stand slot.stage else others slot

-- the log that it keeps
unfoldable pub settled_log : Configuration → Others → Log
settled_log c others = record {
  shape = shape_in c;
  posts = map (post_settled c others (course_of c others)) (slots_of (shape_in c));
}

-- its own posts, by stage
unfoldable pub own_posts : Configuration → Stand → List Post
own_posts c stand = filter_map (own_post_at c stand) (range_with_len 0 (stage_count (shape_in c)))
