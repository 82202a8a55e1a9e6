-- A run that has begun and goes on.
use Rattle.std.specs.Prelude.{◌≡◌, ◌≢◌, ℕ, ◌≤◌, ◌-◌, List, ◌++◌, length, slice_get, Some, None}
use Rattle.round_spec.specs.Say.{Configuration}
use Rattle.member_spec.specs.Replies.{Replies}
use Rattle.member_core.specs.Membership.{Membership, posts_made}
use Rattle.member_core.specs.Promises.{IsPlainMember}
use Rattle.round_link.specs.declared.link_call.LinkCall.{LinkCall}
use Rattle.round_link.specs.declared.link_call.LinkCall.TheVariants.{Received}
use Rattle.round_link.specs.Traffic.{Shown, posts_in}
use Rattle.member_run.specs.Ran.{Exchange, IfTold, count_after, posts_due}

-- the member and the link where the run began
pub record Begun (A : Type 0) : Type 0 where
  pub member : Membership A
  pub link : Shown

-- each `recv` of some calls took a frame
abbrev pub EachTakes : List LinkCall → Type 0
EachTakes calls = (place : ℕ) → slice_get calls place ≢ Some (Received None)

-- of a member that stood for this where the run began: it stands for the frames that were taken behind what it stood for;
-- the posts that were made, with those that are due now, are those that were due; and each `recv` took a frame
pub record GoingFrom {A : Type 0} (replies_of : A → Replies) (c : Configuration) (delivered frames : List (List ℕ)) (begun : Begun A)
    (m : Membership A) (now : Shown) : Type 0
  where
    pub member : IsPlainMember replies_of c (delivered ++ frames) m
    pub traffic : IfTold begun.link now (λ earlier later. (exchange : Exchange c delivered begun.member.holds.handed frames earlier later)
        × (posts_in exchange.calls ++ posts_due c (delivered ++ frames) m.holds.handed
        ≡ posts_due c (delivered ++ frames) begun.member.holds.handed)
        × EachTakes exchange.calls)

-- a run goes on: these frames were taken, and nothing failed or ended
pub record Going {A : Type 0} (replies_of : A → Replies) (begun : Begun A) (frames : List (List ℕ)) (m : Membership A) (now : Shown) : Type 0
  where
    pub counted : now.frames ≡ count_after (length frames) begun.link.frames
    pub ends : now.ends ≡ begun.link.ends
    pub faults : begun.link.faults ≤ now.faults
    pub handed : begun.member.holds.handed ≤ m.holds.handed
    pub plain : (c : Configuration) (delivered : List (List ℕ)) → IsPlainMember replies_of c delivered begun.member →
        GoingFrom replies_of c delivered frames begun m now

-- all posts were handed out
abbrev pub IsHandedOut : {A : Type 0} → Membership A → Type 0
IsHandedOut m = m.holds.handed ≡ length (posts_made m.holds)

-- how many were not
abbrev pub posts_left : {A : Type 0} → Membership A → ℕ
posts_left m = length (posts_made m.holds) - m.holds.handed
