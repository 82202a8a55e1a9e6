-- That the run which deliveries make is honest, and what it is that nothing was forged.
use Rattle.std.specs.Prelude.{◌≡◌, ℕ, List, All, IsTrue, Some}
use Rattle.wire_core.specs.Bytes.{IsBytes}
use Rattle.phase_message.specs.declared.post.Post.{Post}
use Rattle.phase_message.specs.declared.stage.Slot.{Slot}
use Rattle.phase_message.specs.Stages.{is_slot}
use Rattle.group_roster.specs.Roster.{Roster}
use Rattle.round_spec.specs.Say.{Configuration, shape_in}
use Rattle.stage_log.specs.Table.{IsLog, kept_in}
use Rattle.round_spec.specs.Course.{Others, settled_log}
use Rattle.round_spec.specs.Runs.{CanEnter, ChecksIn, HasNumber, HonestRun, IsConfiguration, IsOwnPost, NoForgery, ReadsIn, Run, SaidBy, own_slot, run_after}
use Rattle.round_spec.specs.Settled.{settled_run}

-- the others' posts check and stand in their slots
abbrev pub OthersCheck : Configuration → Others → Type 0
OthersCheck c others = (slot : Slot) (post : Post) → others slot ≡ Some post → ChecksIn c slot post

-- then all that a member keeps in such a course reads in its slot, whether its key is the roster's or not
abbrev pub SettledPostsRead : Type 0
SettledPostsRead = (c : Configuration) (others : Others) → CanEnter c → OthersCheck c others → (slot : Slot) (post : Post) →
    kept_in (settled_log c others) slot ≡ Some post → ReadsIn c slot post

-- so does what it has to say
abbrev pub OwnPostsRead : Type 0
OwnPostsRead = (c : Configuration) (others : Others) → CanEnter c → OthersCheck c others → (stage : ℕ) (post : Post) →
    IsTrue (is_slot (shape_in c) stage c.number) → IsOwnPost (settled_run c others) stage post →
    ReadsIn c (own_slot (settled_run c others) stage) post

-- and that checks, where its key is the roster's
abbrev pub OwnPostsCheck : Type 0
OwnPostsCheck = (c : Configuration) (others : Others) → IsConfiguration c → OthersCheck c others → (stage : ℕ) (post : Post) →
    IsTrue (is_slot (shape_in c) stage c.number) → IsOwnPost (settled_run c others) stage post →
    ChecksIn c (own_slot (settled_run c others) stage) post

-- its log is one of the round
abbrev pub SettledIsLog : Type 0
SettledIsLog = (c : Configuration) (others : Others) → CanEnter c → OthersCheck c others → IsLog (settled_log c others)

-- and its run is honest
abbrev pub SettledRunIsHonest : Type 0
SettledRunIsHonest = (c : Configuration) (others : Others) → IsConfiguration c → OthersCheck c others → HonestRun (settled_run c others)

-- so the run after any deliveries is
abbrev pub RunAfterIsHonest : Type 0
RunAfterIsHonest = (c : Configuration) (delivered : List (List ℕ)) → IsConfiguration c → All IsBytes delivered →
    HonestRun (run_after c delivered)

-- where nothing was forged, what is listed of a member with a run was said by it
abbrev pub UnforgedIsSaid : Type 0
UnforgedIsSaid = (roster : Roster) (runs : List Run) (number round : ℕ) (posts : List (List ℕ)) → NoForgery roster posts runs →
    HasNumber runs number → SaidBy roster runs number round posts
