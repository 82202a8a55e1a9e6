-- A run that has gone on ends: with all posts made, with none made any more, or behind a frame that was not delivered.
use Rattle.std.proofs.Common.{◌≡◌, ◌⊎◌, inl, inr, ℕ, ◌<◌, ◌≤◌, List, [], ◌∷◌, ◌++◌, length, Option, Some, None, refl, sym, ap, ◌∙◌, subst, arith, append-nil}
use Rattle.std.specs.Prelude.{IfSome}
use Rattle.outside.specs.Faults.{Rose, counted}
use Rattle.wire_core.specs.Bytes.{IsBytes}
use Rattle.round_spec.specs.Say.{Configuration}
use Rattle.member_spec.specs.Replies.{Replies}
use Rattle.member_parts.specs.Endings.{IsOutOfMemory}
use Rattle.member_core.specs.Membership.{Membership}
use Rattle.member_core.specs.Promises.{IsPlainMember}
use Rattle.round_link.specs.declared.link.LinkAnswer.TheVariants.{Failed as PostFailed, OutOfMemory as PostOutOfMemory}
use Rattle.round_link.specs.declared.link_call.LinkCall.TheVariants.{Received}
use Rattle.round_link.specs.Traffic.{IsExhausted, Makes, Shown, TakesFirst, TakesNone, Traffic, posts_in, with_call}
use Rattle.round_link.proofs.Calls.{posts_in-append}
use Rattle.member_run.specs.declared.run_end.RunEnd.{RunEnd}
use Rattle.member_run.specs.declared.run_end.RunEnd.TheVariants.{Ended, Waiting, LinkFault, Flooded, OutOfMemory}
use Rattle.member_run.specs.declared.run_end.TheConstants.{FRAME_LIMIT}
use Rattle.member_run.specs.Begun.{Begun, Going, IsHandedOut}
use Rattle.member_run.specs.Ran.{BeginsWith, EndsSo, Exchange, IfTold, MakesDue, Ran, RoseOnceAtMost, posts_due}
use Rattle.member_run.proofs.Exchanges.{with_frame, with_none}
use Rattle.member_run.proofs.Going.{OnWay, all-made, count-more, due-more, none-due, one-more, told-on}

-- the traffic of a run that ended so
abbrev EndsWay : RunEnd → Configuration → (delivered frames : List (List ℕ)) → (handed : ℕ) → Traffic → Traffic → Type 0
EndsWay end c delivered frames handed earlier later =
    (exchange : Exchange c delivered handed frames earlier later)
    × MakesDue end (posts_in exchange.calls) (posts_due c (delivered ++ frames) handed)

-- what the member came to where the run ended
abbrev Comes : {A : Type 0} → (A → Replies) → Membership A → Membership A → RunEnd → Type 0
Comes replies_of m m' end = (c : Configuration) (delivered : List (List ℕ)) → IsPlainMember replies_of c delivered m →
    IsPlainMember replies_of c delivered m' ⊎ ((end ≡ OutOfMemory) × IsOutOfMemory m'.holds.ending)

-- the posts that were made on the way are the first of those that are due
way-begins : (c : Configuration) (delivered frames : List (List ℕ)) (handed now : ℕ) (t u : Traffic)
    → (way : OnWay c delivered frames handed now t u) → BeginsWith (posts_due c (delivered ++ frames) handed) (posts_in way.0.calls)
way-begins c delivered frames handed now t u way = (posts_due c (delivered ++ frames) now, sym way.1)

-- one End was answered
pub one-end : (begun before now : ℕ) → before ≡ begun → now ≡ counted before → RoseOnceAtMost begun now
one-end begun before now same is = inr (is ∙ ap counted same)

-- ---- with no frame more

no-less : (begun before now : ℕ) → begun ≤ before → before ≤ now → begun ≤ now
no-less begun before now le more = omega (arith, le, more)

ends-with : {A : Type 0} (replies_of : A → Replies) (b : Begun A) (frames : List (List ℕ)) (m m' : Membership A) (s s' : Shown) (end : RunEnd)
    → Going replies_of b frames m s → length frames ≤ FRAME_LIMIT → s'.frames ≡ s.frames → s.faults ≤ s'.faults
    → EndsSo m'.holds (length frames) b.link s' end → (b.link.ends < s'.ends → end ≡ Waiting) → RoseOnceAtMost b.link.ends s'.ends
    → Comes replies_of m m' end
    → ((c : Configuration) (delivered : List (List ℕ)) → IsPlainMember replies_of c (delivered ++ frames) m
    → IfTold b.link s (OnWay c delivered frames b.member.holds.handed m.holds.handed)
    → IfTold b.link s' (EndsWay end c delivered frames b.member.holds.handed))
    → Ran replies_of b.member m' b.link s' end
ends-with replies_of b frames m m' s s' end g most counts rises so at_end one comes told = record {
  frames = frames;
  counted = counts ∙ g.counted;
  at_most = most;
  ends = so;
  at_end = at_end;
  one_end = one;
  faults = no-less b.link.faults s.faults s'.faults g.faults rises;
  plain = λ c delivered is. (let from = g.plain c delivered is in
      record { member = comes c (delivered ++ frames) from.member; traffic = told c delivered from.member from.traffic });
}

-- an end of which no more is asked than that the first of the posts were made
abbrev pub IsHindered : RunEnd → Type 0
IsHindered LinkFault = Unit {0}
IsHindered OutOfMemory = Unit {0}
IsHindered end = ⊥

begins-is-enough : (end : RunEnd) (made due : List (List ℕ)) → IsHindered end → BeginsWith due made → MakesDue end made due
begins-is-enough LinkFault made due is begins = begins
begins-is-enough OutOfMemory made due is begins = begins
begins-is-enough Ended made due is begins = absurd is
begins-is-enough Waiting made due is begins = absurd is
begins-is-enough Flooded made due is begins = absurd is

all-is-enough : (end : RunEnd) (made due : List (List ℕ)) → made ≡ due → MakesDue end made due
all-is-enough LinkFault made due is = ([], sym is ∙ sym (append-nil made))
all-is-enough OutOfMemory made due is = ([], sym is ∙ sym (append-nil made))
all-is-enough Ended made due is = is
all-is-enough Waiting made due is = is
all-is-enough Flooded made due is = is

pub no-rise : (before now : ℕ) (end : RunEnd) → now ≡ before → before < now → end ≡ Waiting
no-rise before now end same lt = absurd (omega (arith, same, lt))

-- a post that was not made
pub failed-unmade : (old now : Option Traffic) (bytes : List ℕ) → Makes old now bytes PostFailed → now ≡ old
failed-unmade None now bytes made = made
failed-unmade (Some t) now bytes made = made

pub memory-unmade : (old now : Option Traffic) (bytes : List ℕ) → Makes old now bytes PostOutOfMemory → now ≡ old
memory-unmade None now bytes made = made
memory-unmade (Some t) now bytes made = made

-- a count of faults that rose in a call rose since the run began
pub rose-since : (begun before now : ℕ) → begun ≤ before → Rose before now → Rose begun now
rose-since begun before now le rose = omega (arith, le, rose)

-- a count that was as where the run began, and went on by one, rose since
pub end-rose : (begun before now : ℕ) → before ≡ begun → now ≡ counted before → Rose begun now
end-rose begun before now same is = omega (arith, same, is)

-- a call failed, or memory ran out, and nothing more was told
pub hindered : {A : Type 0} (replies_of : A → Replies) (b : Begun A) (frames : List (List ℕ)) (m m' : Membership A) (s s' : Shown) (end : RunEnd)
    → Going replies_of b frames m s → length frames ≤ FRAME_LIMIT → s'.frames ≡ s.frames → s'.ends ≡ s.ends → s.faults ≤ s'.faults
    → s'.traffic ≡ s.traffic
    → IsHindered end → EndsSo m'.holds (length frames) b.link s' end → Comes replies_of m m' end
    → Ran replies_of b.member m' b.link s' end
hindered replies_of b frames m m' s s' end g most counts ends rises same is so comes =
    ends-with replies_of b frames m m' s s' end g most counts rises so (no-rise b.link.ends s'.ends end (ends ∙ g.ends))
    (inl (ends ∙ g.ends)) comes
    (λ c delivered plain told. told-on (OnWay c delivered frames b.member.holds.handed m.holds.handed)
    (EndsWay end c delivered frames b.member.holds.handed) b.link.traffic s.traffic s'.traffic
    (λ u e. (u, same ∙ e, λ t way. (way.0, begins-is-enough end _ _ is (way-begins c delivered frames b.member.holds.handed m.holds.handed t u way)))) told)

-- all posts were handed out, and nothing more was called
pub stops : {A : Type 0} (replies_of : A → Replies) (b : Begun A) (frames : List (List ℕ)) (m : Membership A) (s : Shown) (end : RunEnd)
    → Going replies_of b frames m s → length frames ≤ FRAME_LIMIT → IsHandedOut m
    → EndsSo m.holds (length frames) b.link s end → Ran replies_of b.member m b.link s end
stops replies_of b frames m s end g most all so =
    ends-with replies_of b frames m m s s end g most refl (omega arith) so (no-rise b.link.ends s.ends end g.ends) (inl g.ends)
    (λ c delivered is. inl is)
    (λ c delivered plain told. told-on (OnWay c delivered frames b.member.holds.handed m.holds.handed)
    (EndsWay end c delivered frames b.member.holds.handed) b.link.traffic s.traffic s.traffic
    (λ u e. (
      u,
      e,
      λ t way. (
        way.0,
        all-is-enough end _ _ (all-made c delivered frames b.member.holds.handed m.holds.handed t u
            (none-due replies_of c (delivered ++ frames) m plain all) way),
      ),
    )) told)

-- all posts were handed out, and a `recv` took no frame; it may be untold only where it is one that the link need not tell
pub received-none : {A : Type 0} (replies_of : A → Replies) (b : Begun A) (frames : List (List ℕ)) (m : Membership A) (s s' : Shown) (end : RunEnd)
    → Going replies_of b frames m s → length frames ≤ FRAME_LIMIT → IsHandedOut m → s'.frames ≡ s.frames → s.faults ≤ s'.faults
    → TakesNone s.traffic s'.traffic ⊎ (s'.traffic ≡ s.traffic)
    → EndsSo m.holds (length frames) b.link s' end → (b.link.ends < s'.ends → end ≡ Waiting) → RoseOnceAtMost b.link.ends s'.ends
    → Ran replies_of b.member m b.link s' end
received-none replies_of b frames m s s' end g most all counts rises takes so at_end one =
    ends-with replies_of b frames m m s s' end g most counts rises so at_end one (λ c delivered is. inl is)
    (λ c delivered plain told. told-on (OnWay c delivered frames b.member.holds.handed m.holds.handed)
    (EndsWay end c delivered frames b.member.holds.handed) b.link.traffic s.traffic s'.traffic
    (λ u e. step c delivered (none-due replies_of c (delivered ++ frames) m plain all) u e takes) told)
  where
    handed : ℕ
    handed = b.member.holds.handed

    step : (c : Configuration) (delivered : List (List ℕ)) → posts_due c (delivered ++ frames) m.holds.handed ≡ [] → (u : Traffic)
        → s.traffic ≡ Some u → TakesNone s.traffic s'.traffic ⊎ (s'.traffic ≡ s.traffic)
        → (u' : Traffic) × (s'.traffic ≡ Some u') × ((t : Traffic) → OnWay c delivered frames b.member.holds.handed m.holds.handed t u → EndsWay end c delivered frames b.member.holds.handed t u')
    step c delivered none u e (inl takes) = (
      with_call u (Received None),
      subst (λ (o : Option Traffic). TakesNone o s'.traffic) e takes,
      λ t way. (let made = all-made c delivered frames b.member.holds.handed m.holds.handed t u none way in (
        with_none c delivered b.member.holds.handed frames t u way.0 made way.2,
        all-is-enough end _ _ (posts_in-append way.0.calls (Received None ∷ []) ∙ append-nil (posts_in way.0.calls) ∙ made),
      )),
    )
    step c delivered none u e (inr same) = (
      u,
      same ∙ e,
      λ t way. (way.0, all-is-enough end _ _ (all-made c delivered frames b.member.holds.handed m.holds.handed t u none way)),
    )

-- where the link had nothing left, nothing is left behind a `recv` that took none
pub none-left-now : (old now : Option Traffic) → IsExhausted old → TakesNone old now ⊎ (now ≡ old)
    → IfSome now (λ (traffic : Traffic). traffic.left ≡ [])
none-left-now None now none (inl is) = subst (λ (o : Option Traffic). IfSome o (λ (traffic : Traffic). traffic.left ≡ [])) (sym is) tt
none-left-now None now none (inr is) = subst (λ (o : Option Traffic). IfSome o (λ (traffic : Traffic). traffic.left ≡ [])) (sym is) tt
none-left-now (Some t) now none (inl is) = subst (λ (o : Option Traffic). IfSome o (λ (traffic : Traffic). traffic.left ≡ [])) (sym is) none
none-left-now (Some t) now none (inr is) = subst (λ (o : Option Traffic). IfSome o (λ (traffic : Traffic). traffic.left ≡ [])) (sym is) none

-- ---- with a frame that the member could not take

pub not-delivered : {A : Type 0} (replies_of : A → Replies) (b : Begun A) (frames : List (List ℕ)) (frame : List ℕ) (m m' : Membership A) (s s' : Shown)
    → Going replies_of b frames m s → length frames < FRAME_LIMIT → IsHandedOut m
    → TakesFirst s.traffic s'.traffic frame → s'.frames ≡ counted s.frames → s'.ends ≡ s.ends → s.faults ≤ s'.faults → IsBytes frame
    → IsOutOfMemory m'.holds.ending
    → Ran replies_of b.member m' b.link s' OutOfMemory
not-delivered replies_of b frames frame m m' s s' g less all takes counts ends rises are stopped = record {
  frames = frames ++ frame ∷ [];
  counted = count-more frames frame b.link.frames s.frames s'.frames g.counted counts;
  at_most = omega (arith, one-more frames frame, less);
  ends = tt;
  at_end = no-rise b.link.ends s'.ends OutOfMemory (ends ∙ g.ends);
  one_end = inl (ends ∙ g.ends);
  faults = no-less b.link.faults s.faults s'.faults g.faults rises;
  plain = λ c delivered is. (let from = g.plain c delivered is in record {
    member = inr (refl, stopped);
    traffic = told-on (OnWay c delivered frames b.member.holds.handed m.holds.handed)
        (EndsWay OutOfMemory c delivered (frames ++ frame ∷ []) b.member.holds.handed)
        b.link.traffic s.traffic s'.traffic
        (λ u e. (let first = subst (λ (o : Option Traffic). TakesFirst o s'.traffic frame) e takes in (
          record { left = first.0; calls = u.calls ++ Received (Some frame) ∷ [] },
          first.2,
          λ t way. ends-way c delivered from.member t u first.0 first.1 way,
        ))) from.traffic;
  });
}
  where
    ends-way : (c : Configuration) (delivered : List (List ℕ)) → IsPlainMember replies_of c (delivered ++ frames) m → (t u : Traffic)
        (rest : List (List ℕ)) → u.left ≡ frame ∷ rest → OnWay c delivered frames b.member.holds.handed m.holds.handed t u
        → EndsWay OutOfMemory c delivered (frames ++ frame ∷ []) b.member.holds.handed t
        (record { left = rest; calls = u.calls ++ Received (Some frame) ∷ [] })
    ends-way c delivered is t u rest first way =
        let made = all-made c delivered frames b.member.holds.handed m.holds.handed t u (none-due replies_of c (delivered ++ frames) m is all) way in
        let more = due-more replies_of c delivered frames frame m is are in (
          with_frame c delivered b.member.holds.handed frames t u frame rest way.0 made way.2 first,
          (
            more.0,
            more.1 b.member.holds.handed (let before = g.handed in omega arith)
                ∙ ap (λ (l : List (List ℕ)). l ++ more.0)
                (sym (posts_in-append way.0.calls (Received (Some frame) ∷ []) ∙ append-nil (posts_in way.0.calls) ∙ made)),
          ),
        )
