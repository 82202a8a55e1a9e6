-- The log that a member keeps, in its own words: which own posts are in it.
use Rattle.std.specs.Prelude.{◌≡◌, ◌↔◌, ℕ, ◌<◌, ◌≤◌, ◌^◌, IsTrue, Some}
use Rattle.phase_message.specs.declared.post.Post.{Post}
use Rattle.phase_message.specs.Stages.{is_slot}
use Rattle.stage_log.specs.Table.{kept_in}
use Rattle.round_spec.specs.Say.{Configuration, shape_in}
use Rattle.round_spec.specs.Course.{Others, settled_log}
use Rattle.round_spec.specs.Reached.{NameSlots}
use Rattle.round_spec.specs.Runs.{IsOwnPost, Run, own_slot}

-- the run of a member to which these posts of others have come
abbrev pub settled_run : Configuration → Others → Run
settled_run c others = record { config = c; log = settled_log c others }

-- the member's own post at a stage is there exactly where all stages before are complete and no closing stage before has
-- a verdict that ends the round, and it is what the member has to say by the posts before
abbrev pub OwnPostsSettled : Type 0
OwnPostsSettled = (c : Configuration) (others : Others) (stage : ℕ) (post : Post) → c.round < 2 ^ 64 → 1 ≤ (shape_in c).members →
    NameSlots c others → IsTrue (is_slot (shape_in c) stage c.number) →
    (kept_in (settled_log c others) (own_slot (settled_run c others) stage) ≡ Some post) ↔ IsOwnPost (settled_run c others) stage post
