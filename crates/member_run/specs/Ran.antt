-- What a run of a member over a link comes to.
use Rattle.std.specs.Prelude.{◌≡◌, ◌⊎◌, ℕ, zero, suc, ◌<◌, ◌≤◌, List, [], ◌++◌, length, map, drop, slice_get, Some, None, IfSome, IsSomeAnd}
use Rattle.outside.specs.Faults.{Rose, counted}
use Rattle.phase_message.specs.Post.{post_spelling}
use Rattle.round_spec.specs.Result.{posts_of}
use Rattle.round_spec.specs.Say.{Configuration}
use Rattle.member_spec.specs.Replies.{Replies}
use Rattle.member_parts.specs.Endings.{HasEnded, IsOpen, IsOutOfMemory}
use Rattle.member_core.specs.Membership.{Holdings, Membership}
use Rattle.member_core.specs.Promises.{IsPlainMember}
use Rattle.round_link.specs.declared.link_call.LinkCall.{LinkCall}
use Rattle.round_link.specs.declared.link_call.LinkCall.TheVariants.{Received}
use Rattle.round_link.specs.Traffic.{AtEachRecv, Shown, Traffic, frames_in, posts_in}
use Rattle.member_run.specs.declared.run_end.RunEnd.{RunEnd}
use Rattle.member_run.specs.declared.run_end.RunEnd.TheVariants.{Ended, Waiting, LinkFault, Flooded, OutOfMemory}
use Rattle.member_run.specs.declared.run_end.TheConstants.{FRAME_LIMIT}

-- ---- the posts

-- the posts that some deliveries ask for, as they are written, without the first of them, which were handed out before
abbrev pub posts_due : Configuration → (delivered : List (List ℕ)) → (handed : ℕ) → List (List ℕ)
posts_due c delivered handed = drop handed (map post_spelling (posts_of c delivered))

-- a list begins with another
abbrev pub BeginsWith : List (List ℕ) → List (List ℕ) → Type 0
BeginsWith all front = (rest : List (List ℕ)) × (all ≡ front ++ rest)

-- a `recv` that took no frame is the last of some calls
abbrev pub StopsAtNone : List LinkCall → Type 0
StopsAtNone calls = (place : ℕ) → slice_get calls place ≡ Some (Received None) → suc place ≡ length calls

-- the traffic of a run: its calls came behind the earlier ones; these frames were taken of those that were left; at each
-- `recv` just those posts were made that the frames before it asked for; and behind one that took none there is no call
pub record Exchange (c : Configuration) (delivered : List (List ℕ)) (handed : ℕ) (frames : List (List ℕ)) (before now : Traffic) : Type 0
  where
    pub calls : List LinkCall
    pub made : now.calls ≡ before.calls ++ calls
    pub taken : frames_in calls ≡ frames
    pub left : before.left ≡ frames ++ now.left
    pub at_recv : AtEachRecv calls (λ earlier. posts_in earlier ≡ posts_due c (delivered ++ frames_in earlier) handed)
    pub last : StopsAtNone calls

-- what holds of the traffic of a run, where the link tells it
abbrev pub IfTold : Shown → Shown → (Traffic → Traffic → Type 0) → Type 0
IfTold before now P = IfSome before.traffic (λ earlier. IsSomeAnd now.traffic (P earlier))

-- behind a fault, and out of memory, the posts that were made are the first of those that are due; else they are all
abbrev pub MakesDue : RunEnd → (made due : List (List ℕ)) → Type 0
MakesDue LinkFault made due = BeginsWith due made
MakesDue OutOfMemory made due = BeginsWith due made
MakesDue end made due = made ≡ due

-- ---- how it ends

-- a count behind so many more
abbrev pub count_after : (more : ℕ) → ℕ → ℕ
count_after zero count = count
count_after (suc more) count = counted (count_after more count)

-- a count is as it was, or went on by one
abbrev pub RoseOnceAtMost : (before now : ℕ) → Type 0
RoseOnceAtMost before now = (now ≡ before) ⊎ (now ≡ counted before)

-- no frame is left, where the link tells it
abbrev pub IsAllTaken : Shown → Type 0
IsAllTaken now = IfSome now.traffic (λ (traffic : Traffic). traffic.left ≡ [])

-- an end is right, by what the member holds, how many frames were taken, and what the link shows before and now
abbrev pub EndsSo : Holdings → (frames : ℕ) → Shown → Shown → RunEnd → Type 0
EndsSo h frames before now Ended = HasEnded h.ending
EndsSo h frames before now Waiting = IsOpen h.ending × (frames < FRAME_LIMIT) × Rose before.ends now.ends × IsAllTaken now
EndsSo h frames before now Flooded = IsOpen h.ending × (frames ≡ FRAME_LIMIT)
EndsSo h frames before now LinkFault = Rose before.faults now.faults
EndsSo h frames before now OutOfMemory = Unit {0}

-- a run of a member that stood for this and for these byte strings: it stands for the frames behind them, or is stopped,
-- where the run is out of memory; and the traffic is that of these frames, with all posts that are due
pub record RanFrom {A : Type 0} (replies_of : A → Replies) (c : Configuration) (delivered frames : List (List ℕ)) (old new : Membership A)
    (before now : Shown) (end : RunEnd) : Type 0
  where
    pub member : IsPlainMember replies_of c (delivered ++ frames) new ⊎ ((end ≡ OutOfMemory) × IsOutOfMemory new.holds.ending)
    pub traffic : IfTold before now (λ earlier later. (exchange : Exchange c delivered old.holds.handed frames earlier later)
        × MakesDue end (posts_in exchange.calls) (posts_due c (delivered ++ frames) old.holds.handed))

-- a run: these frames were taken, at most 1,000,000; it ended so; where the link answered End, which it did once at most, it
-- waits; and so it is for whatever the member stood before
pub record Ran {A : Type 0} (replies_of : A → Replies) (old new : Membership A) (before now : Shown) (end : RunEnd) : Type 0 where
  pub frames : List (List ℕ)
  pub counted : now.frames ≡ count_after (length frames) before.frames
  pub at_most : length frames ≤ FRAME_LIMIT
  pub ends : EndsSo new.holds (length frames) before now end
  pub at_end : before.ends < now.ends → end ≡ Waiting
  pub one_end : RoseOnceAtMost before.ends now.ends
  pub faults : before.faults ≤ now.faults
  pub plain : (c : Configuration) (delivered : List (List ℕ)) → IsPlainMember replies_of c delivered old →
      RanFrom replies_of c delivered frames old new before now end
