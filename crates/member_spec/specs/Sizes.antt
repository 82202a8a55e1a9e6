-- How much a member keeps of a round, at most.
use Rattle.std.specs.Prelude.{◌≡◌, ℕ, ◌+◌, ◌*◌, length, Option}
use Rattle.std.specs.List.{sum_by}
use Rattle.std.specs.Option.{option_map_or}
use Rattle.phase_message.specs.declared.post.Post.{Post}
use Rattle.phase_message.specs.declared.post.TheConstants.{LEAST_CONTENT, POST_LIMIT}
use Rattle.phase_message.specs.declared.stage.StageKind.{StageKind}
use Rattle.phase_message.specs.declared.stage.StageKind.TheVariants.{Shuffle, Final, Pad, Confirm}
use Rattle.phase_message.specs.Body.{length_rule, level}
use Rattle.phase_message.specs.Post.{post_spelling}
use Rattle.phase_message.specs.Shape.{Shape}
use Rattle.phase_message.specs.Slots.{senders_of}
use Rattle.phase_message.specs.Stages.{stages}
use Rattle.signed_post.specs.declared.post.TheConstants.{LONGEST_SIGNATURE}
use Rattle.stage_log.specs.Table.{Log}

-- how many bytes the greatest body has at a stage of a kind that is not a closing one
abbrev pub greatest_body : Shape → StageKind → ℕ
greatest_body shape (Shuffle shuffle k) = shape.members * level shape.members shuffle k
greatest_body shape Pad = shape.members * (4 + 65536)
greatest_body shape kind = length_rule shape kind

-- how many bytes the greatest post has at a stage of a kind: the limit of a post at a closing stage, and else the length,
-- the head, the greatest body and the longest signature
abbrev pub greatest_post : Shape → StageKind → ℕ
greatest_post shape (Final shuffle) = POST_LIMIT
greatest_post shape Confirm = POST_LIMIT
greatest_post shape kind = 4 + LEAST_CONTENT + greatest_body shape kind + LONGEST_SIGNATURE

-- how many bytes the posts of a round have at most, one for each slot
unfoldable pub greatest_log : Shape → ℕ
greatest_log shape = sum_by (λ kind. senders_of shape kind * greatest_post shape kind) (stages shape)

-- how many bytes a place of a log has, as its post is written
abbrev pub bytes_at : Option Post → ℕ
bytes_at place = option_map_or (λ post. length (post_spelling post)) place 0

-- how many bytes a log keeps
unfoldable pub bytes_kept : Log → ℕ
bytes_kept log = sum_by bytes_at log.posts

-- with eight members that is at most 412,837,544 bytes
abbrev pub GreatestOfEight : Type 0
GreatestOfEight = greatest_log (record { version = 1; members = 8 }) ≡ 412837544
