-- A run goes on: from where it begins, with a post more, and with a frame more.
use Rattle.std.proofs.Common.{◌≡◌, ℕ, suc, ◌+◌, ◌≤◌, List, [], ◌∷◌, ◌++◌, length, map, drop, Option, Some, None, refl, sym, ap, ◌∙◌, subst, arith, add-one, append_assoc, append-nil, length-append}
use Rattle.std.proofs.Math.Seq.{drop-length}
use Rattle.std.specs.Prelude.{IfSome, IsSomeAnd, slice_get}
use Rattle.std.proofs.lemmas.List.{length-map}
use Rattle.std.proofs.lemmas.Option.{get_or_from_slice_get, slice_get_within}
use Rattle.outside.specs.Faults.{counted}
use Rattle.wire_core.specs.Bytes.{IsBytes}
use Rattle.phase_message.specs.declared.post.Post.{Post}
use Rattle.phase_message.specs.Post.{post_spelling}
use Rattle.round_spec.specs.Result.{posts_of}
use Rattle.round_spec.specs.Say.{Configuration}
use Rattle.member_spec.specs.Replies.{Replies}
use Rattle.member_core.specs.Membership.{Membership, posts_made}
use Rattle.member_core.specs.Promises.{IsPlainMember}
use Rattle.member_core.proofs.Shown.{plain-made}
use Rattle.round_link.specs.declared.link.LinkAnswer.TheVariants.{Done}
use Rattle.round_link.specs.declared.link_call.LinkCall.TheVariants.{Received, Posted}
use Rattle.round_link.specs.Traffic.{Makes, Shown, TakesFirst, Traffic, posts_in, with_call}
use Rattle.round_link.proofs.Calls.{posts_in-append}
use Rattle.round_link.proofs.Fronts.{drop-front}
use Rattle.member_run.specs.Begun.{Begun, EachTakes, Going, IsHandedOut}
use Rattle.member_run.specs.Ran.{Exchange, count_after, posts_due}
use Rattle.member_run.proofs.Exchanges.{frame-takes, no_call, no_exchange, post-takes, takes-push, with_frame, with_post}
use Rattle.member_run.proofs.Growing.{due-grow}

-- the traffic of a run that goes on: with these that are due now, the posts that were made are those that were due, and each
-- `recv` took a frame
abbrev pub OnWay : Configuration → (delivered frames : List (List ℕ)) → (handed now : ℕ) → Traffic → Traffic → Type 0
OnWay c delivered frames handed now earlier later =
    (exchange : Exchange c delivered handed frames earlier later)
    × (posts_in exchange.calls ++ posts_due c (delivered ++ frames) now ≡ posts_due c (delivered ++ frames) handed)
    × EachTakes exchange.calls

-- what is told goes on
pub told-on : (P Q : Traffic → Traffic → Type 0) (before now next : Option Traffic)
    → ((u : Traffic) → now ≡ Some u → (u' : Traffic) × (next ≡ Some u') × ((t : Traffic) → P t u → Q t u'))
    → IfSome before (λ t. IsSomeAnd now (P t)) → IfSome before (λ t. IsSomeAnd next (Q t))
told-on P Q None now next step is = tt
told-on P Q (Some t) None next step is = absurd is
told-on P Q (Some t) (Some u) next step is =
    let s = step u refl in subst (λ (o : Option Traffic). IsSomeAnd o (Q t)) (sym s.1) (s.2 t is)

-- ---- the start

pub begins : {A : Type 0} (replies_of : A → Replies) (m : Membership A) (now : Shown)
    → Going replies_of (record { member = m; link = now }) [] m now
begins replies_of m now = record {
  counted = refl;
  ends = refl;
  faults = omega arith;
  handed = omega arith;
  plain = λ c delivered is. record {
    member = subst (λ (d : List (List ℕ)). IsPlainMember replies_of c d m) (sym (append-nil delivered)) is;
    traffic = told c delivered now.traffic;
  };
}
  where
    told : (c : Configuration) (delivered : List (List ℕ)) (o : Option Traffic)
        → IfSome o (λ t. IsSomeAnd o (OnWay c delivered [] m.holds.handed m.holds.handed t))
    told c delivered None = tt
    told c delivered (Some t) = (no_exchange c delivered m.holds.handed t, refl, no_call)

-- ---- a post

drop-next : (posts : List (List ℕ)) (n : ℕ) (post : List ℕ) → slice_get posts n ≡ Some post → drop n posts ≡ post ∷ drop (n + 1) posts
drop-next posts n post is =
    drop-front posts n post (slice_get_within posts n post is) (sym (get_or_from_slice_get posts n post post is))

pub way-posted : (c : Configuration) (delivered frames : List (List ℕ)) (handed now next : ℕ) (t u : Traffic) (bytes : List ℕ)
    → next ≡ now + 1 → slice_get (map post_spelling (posts_of c (delivered ++ frames))) now ≡ Some bytes
    → OnWay c delivered frames handed now t u → OnWay c delivered frames handed next t (with_call u (Posted bytes))
way-posted c delivered frames handed now next t u bytes e is way = (
  with_post c delivered handed frames t u bytes way.0 way.2,
  ap (λ (l : List (List ℕ)). l ++ due next) (posts_in-append way.0.calls (Posted bytes ∷ []))
      ∙ append_assoc (posts_in way.0.calls) (bytes ∷ []) (due next)
      ∙ ap (λ (l : List (List ℕ)). posts_in way.0.calls ++ l) (ap (λ (n : ℕ). bytes ∷ due n) e ∙ sym (drop-next (map post_spelling (posts_of c (delivered ++ frames))) now bytes is))
      ∙ way.1,
  takes-push way.0.calls (Posted bytes) way.2 (post-takes bytes),
)
  where
    due : ℕ → List (List ℕ)
    due n = posts_due c (delivered ++ frames) n

-- a post was handed out, and made
pub posted : {A : Type 0} (replies_of : A → Replies) (b : Begun A) (frames : List (List ℕ)) (m m' : Membership A) (s s' : Shown) (bytes : List ℕ)
    → Going replies_of b frames m s
    → Makes s.traffic s'.traffic bytes Done → s'.frames ≡ s.frames → s'.ends ≡ s.ends → s.faults ≤ s'.faults
    → m'.holds.handed ≡ m.holds.handed + 1
    → ((c : Configuration) (delivered : List (List ℕ)) → IsPlainMember replies_of c delivered m → IsPlainMember replies_of c delivered m')
    → ((c : Configuration) (delivered : List (List ℕ)) → IsPlainMember replies_of c delivered m
    → slice_get (map post_spelling (posts_of c delivered)) m.holds.handed ≡ Some bytes)
    → Going replies_of b frames m' s'
posted replies_of b frames m m' s s' bytes g made counted_same ends_same faults handed stays next = record {
  counted = counted_same ∙ g.counted;
  ends = ends_same ∙ g.ends;
  faults = (let before = g.faults in omega arith);
  handed = (let before = g.handed in omega arith);
  plain = λ c delivered is. (let from = g.plain c delivered is in record {
    member = stays c (delivered ++ frames) from.member;
    traffic = told-on (OnWay c delivered frames b.member.holds.handed m.holds.handed) (OnWay c delivered frames b.member.holds.handed m'.holds.handed)
        b.link.traffic s.traffic s'.traffic
        (λ u e. (
          with_call u (Posted bytes),
          subst (λ (o : Option Traffic). Makes o s'.traffic bytes Done) e made,
          λ t way. way-posted c delivered frames b.member.holds.handed m.holds.handed m'.holds.handed t u bytes handed
              (next c (delivered ++ frames) from.member) way,
        )) from.traffic;
  });
}

-- ---- a frame

-- where all were handed out, none is due
pub none-due : {A : Type 0} (replies_of : A → Replies) (c : Configuration) (delivered : List (List ℕ)) (m : Membership A)
    → IsPlainMember replies_of c delivered m → IsHandedOut m → posts_due c delivered m.holds.handed ≡ []
none-due replies_of c delivered m is all =
    ap (λ (n : ℕ). drop n (map post_spelling (posts_of c delivered)))
    (all ∙ ap length (plain-made replies_of is.start c delivered m is.stands is.plain) ∙ sym (length-map (posts_of c delivered) post_spelling))
    ∙ drop-length (map post_spelling (posts_of c delivered))

-- and all that were due were made
pub all-made : (c : Configuration) (delivered frames : List (List ℕ)) (handed now : ℕ) (t u : Traffic)
    → posts_due c (delivered ++ frames) now ≡ [] → (way : OnWay c delivered frames handed now t u)
    → posts_in way.0.calls ≡ posts_due c (delivered ++ frames) handed
all-made c delivered frames handed now t u none way =
    sym (append-nil (posts_in way.0.calls)) ∙ ap (λ (l : List (List ℕ)). posts_in way.0.calls ++ l) (sym none) ∙ way.1

-- the number of frames, with one more
pub one-more : (frames : List (List ℕ)) (frame : List ℕ) → length (frames ++ frame ∷ []) ≡ suc (length frames)
one-more frames frame = length-append frames (frame ∷ []) ∙ add-one (length frames)

pub count-more : (frames : List (List ℕ)) (frame : List ℕ) (before now next : ℕ) → now ≡ count_after (length frames) before → next ≡ counted now
    → next ≡ count_after (length (frames ++ frame ∷ [])) before
count-more frames frame before now next was is =
    is ∙ ap counted was ∙ sym (ap (λ (n : ℕ). count_after n before) (one-more frames frame))

-- what is due behind one frame more
pub due-more : {A : Type 0} (replies_of : A → Replies) (c : Configuration) (delivered frames : List (List ℕ)) (frame : List ℕ) (m : Membership A)
    → IsPlainMember replies_of c (delivered ++ frames) m → IsBytes frame
    → (more : List (List ℕ)) × ((handed : ℕ) → handed ≤ length (posts_made m.holds)
    → posts_due c (delivered ++ (frames ++ frame ∷ [])) handed ≡ posts_due c (delivered ++ frames) handed ++ more)
due-more replies_of c delivered frames frame m is are =
    let grown = due-grow replies_of c (delivered ++ frames) frame m is are in (
      grown.0,
      λ handed within.
          ap (λ (d : List (List ℕ)). posts_due c d handed) (sym (append_assoc delivered frames (frame ∷ [])))
          ∙ grown.1 handed (subst (λ (posts : List Post). handed ≤ length posts) (plain-made replies_of is.start c (delivered ++ frames) m is.stands is.plain) within),
    )

-- all posts were handed out; a frame was taken, and delivered
pub taken : {A : Type 0} (replies_of : A → Replies) (b : Begun A) (frames : List (List ℕ)) (frame : List ℕ) (m m' : Membership A) (s s' : Shown)
    → Going replies_of b frames m s → IsHandedOut m
    → TakesFirst s.traffic s'.traffic frame → s'.frames ≡ counted s.frames → s'.ends ≡ s.ends → s.faults ≤ s'.faults → IsBytes frame
    → m'.holds.handed ≡ m.holds.handed
    → ((c : Configuration) (delivered : List (List ℕ)) → IsPlainMember replies_of c delivered m
    → IsPlainMember replies_of c (delivered ++ frame ∷ []) m')
    → Going replies_of b (frames ++ frame ∷ []) m' s'
taken replies_of b frames frame m m' s s' g all takes counts ends_same faults are handed stands = record {
  counted = count-more frames frame b.link.frames s.frames s'.frames g.counted counts;
  ends = ends_same ∙ g.ends;
  faults = (let before = g.faults in omega arith);
  handed = (let before = g.handed in omega arith);
  plain = λ c delivered is. (let from = g.plain c delivered is in record {
    member = subst (λ (d : List (List ℕ)). IsPlainMember replies_of c d m') (append_assoc delivered frames (frame ∷ []))
        (stands c (delivered ++ frames) from.member);
    traffic = told-on (OnWay c delivered frames b.member.holds.handed m.holds.handed)
        (OnWay c delivered (frames ++ frame ∷ []) b.member.holds.handed m'.holds.handed)
        b.link.traffic s.traffic s'.traffic
        (λ u e. (let first = subst (λ (o : Option Traffic). TakesFirst o s'.traffic frame) e takes in (
          record { left = first.0; calls = u.calls ++ Received (Some frame) ∷ [] },
          first.2,
          λ t way. on c delivered from.member t u first.0 first.1 way,
        ))) from.traffic;
  });
}
  where
    on : (c : Configuration) (delivered : List (List ℕ)) → IsPlainMember replies_of c (delivered ++ frames) m → (t u : Traffic)
        (rest : List (List ℕ)) → u.left ≡ frame ∷ rest → OnWay c delivered frames b.member.holds.handed m.holds.handed t u
        → OnWay c delivered (frames ++ frame ∷ []) b.member.holds.handed m'.holds.handed t (record { left = rest; calls = u.calls ++ Received (Some frame) ∷ [] })
    on c delivered is t u rest first way =
        let none = none-due replies_of c (delivered ++ frames) m is all in
        let made = all-made c delivered frames b.member.holds.handed m.holds.handed t u none way in
        let more = due-more replies_of c delivered frames frame m is are in
        let now : posts_due c (delivered ++ (frames ++ frame ∷ [])) m'.holds.handed ≡ more.0 =
        ap (λ (n : ℕ). posts_due c (delivered ++ (frames ++ frame ∷ [])) n) handed ∙ more.1 m.holds.handed (omega arith)
        ∙ ap (λ (l : List (List ℕ)). l ++ more.0) none in (
          with_frame c delivered b.member.holds.handed frames t u frame rest way.0 made way.2 first,
          ap (λ (l : List (List ℕ)). l ++ posts_due c (delivered ++ (frames ++ frame ∷ [])) m'.holds.handed)
              (posts_in-append way.0.calls (Received (Some frame) ∷ []) ∙ append-nil (posts_in way.0.calls) ∙ made)
              ∙ ap (λ (l : List (List ℕ)). posts_due c (delivered ++ frames) b.member.holds.handed ++ l) now
              ∙ sym (more.1 b.member.holds.handed (let before = g.handed in omega arith)),
          takes-push way.0.calls (Received (Some frame)) way.2 (frame-takes frame),
        )
