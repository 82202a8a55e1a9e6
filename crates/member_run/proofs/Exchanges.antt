-- The traffic of a run, with one call more.
use Rattle.std.proofs.Common.{◌≡◌, ◌≢◌, ℕ, zero, suc, length, List, [], ◌∷◌, ◌++◌, Option, Some, None, refl, sym, ap, ◌∙◌, append_assoc, append-nil}
use Rattle.std.specs.Prelude.{slice_get}
use Rattle.round_spec.specs.Say.{Configuration}
use Rattle.round_link.specs.declared.link_call.LinkCall.{LinkCall}
use Rattle.round_link.specs.declared.link_call.LinkCall.TheVariants.{Received, Posted}
use Rattle.round_link.specs.Traffic.{Traffic, frames_in, posts_in, with_call}
use Rattle.round_link.proofs.Calls.{frames_in-append}
use Rattle.member_run.specs.Begun.{EachTakes}
use Rattle.member_run.specs.Ran.{Exchange, StopsAtNone, posts_due}
use Rattle.round_link.proofs.Recvs.{no_recv, recv-push}

-- just the posts that the frames ask for were made in some calls
abbrev pub MadeAll : Configuration → List (List ℕ) → ℕ → List LinkCall → Type 0
MadeAll c delivered handed calls = posts_in calls ≡ posts_due c (delivered ++ frames_in calls) handed

-- with one call more behind calls that each take a frame, only that call may have taken none
only-last : (calls : List LinkCall) (call : LinkCall) (place : ℕ) → EachTakes calls → slice_get (calls ++ call ∷ []) place ≡ Some (Received None)
    → (suc place ≡ length (calls ++ call ∷ [])) × (call ≡ Received None)
only-last [] call zero each is = (refl, cc)
only-last [] call (suc place) each is = absurd cc
only-last (x ∷ calls) call zero each is = absurd (each zero is)
only-last (x ∷ calls) call (suc place) each is = let rest = only-last calls call place (λ p. each (suc p)) is in (ap suc rest.0, rest.1)

pub no_call : EachTakes []
no_call place is = cc

pub takes-push : (calls : List LinkCall) (call : LinkCall) → EachTakes calls → call ≢ Received None → EachTakes (calls ++ call ∷ [])
takes-push calls call each other place is = other (only-last calls call place each is).1

pub none-stops : StopsAtNone []
none-stops place is = absurd (no_call place is)

pub stops-push : (calls : List LinkCall) (call : LinkCall) → EachTakes calls → StopsAtNone (calls ++ call ∷ [])
stops-push calls call each place is = (only-last calls call place each is).0

pub post-takes : (bytes : List ℕ) → Posted bytes ≢ Received None
post-takes bytes is = cc

pub frame-takes : (frame : List ℕ) → Received (Some frame) ≢ Received None
frame-takes frame is = cc

abbrev pub no_exchange : (c : Configuration) (delivered : List (List ℕ)) (handed : ℕ) (t : Traffic) → Exchange c delivered handed [] t t
no_exchange c delivered handed t = record {
  calls = [];
  made = sym (append-nil t.calls);
  taken = refl;
  left = refl;
  at_recv = no_recv (MadeAll c delivered handed);
  last = none-stops;
}

pub post-is-no-recv : (bytes : List ℕ) (frame : Option (List ℕ)) → Posted bytes ≡ Received frame → ⊥
post-is-no-recv bytes frame is = cc

-- of a post
abbrev pub with_post : (c : Configuration) (delivered : List (List ℕ)) (handed : ℕ) (frames : List (List ℕ)) (before now : Traffic)
    (bytes : List ℕ)
    → (x : Exchange c delivered handed frames before now) → EachTakes x.calls
    → Exchange c delivered handed frames before (with_call now (Posted bytes))
with_post c delivered handed frames before now bytes x each = record {
  calls = x.calls ++ Posted bytes ∷ [];
  made = ap (λ (l : List LinkCall). l ++ Posted bytes ∷ []) x.made ∙ append_assoc before.calls x.calls (Posted bytes ∷ []);
  taken = frames_in-append x.calls (Posted bytes ∷ []) ∙ append-nil (frames_in x.calls) ∙ x.taken;
  left = x.left;
  at_recv = recv-push (MadeAll c delivered handed) x.calls (Posted bytes) x.at_recv (λ frame is. absurd (post-is-no-recv bytes frame is));
  last = stops-push x.calls (Posted bytes) each;
}

-- of a `recv` that takes none
abbrev pub with_none : (c : Configuration) (delivered : List (List ℕ)) (handed : ℕ) (frames : List (List ℕ)) (before now : Traffic)
    → (x : Exchange c delivered handed frames before now) → posts_in x.calls ≡ posts_due c (delivered ++ frames) handed → EachTakes x.calls
    → Exchange c delivered handed frames before (with_call now (Received None))
with_none c delivered handed frames before now x all each = record {
  calls = x.calls ++ Received None ∷ [];
  made = ap (λ (l : List LinkCall). l ++ Received None ∷ []) x.made ∙ append_assoc before.calls x.calls (Received None ∷ []);
  taken = frames_in-append x.calls (Received None ∷ []) ∙ append-nil (frames_in x.calls) ∙ x.taken;
  left = x.left;
  at_recv = recv-push (MadeAll c delivered handed) x.calls (Received None) x.at_recv (λ frame is. rw x.taken all);
  last = stops-push x.calls (Received None) each;
}

-- and of one that takes a frame
abbrev pub with_frame : (c : Configuration) (delivered : List (List ℕ)) (handed : ℕ) (frames : List (List ℕ)) (before now : Traffic)
    (frame : List ℕ) (rest : List (List ℕ))
    → (x : Exchange c delivered handed frames before now) → posts_in x.calls ≡ posts_due c (delivered ++ frames) handed → EachTakes x.calls
    → now.left ≡ frame ∷ rest
    → Exchange c delivered handed (frames ++ frame ∷ []) before (record { left = rest; calls = now.calls ++ Received (Some frame) ∷ [] })
with_frame c delivered handed frames before now frame rest x all each first = record {
  calls = x.calls ++ Received (Some frame) ∷ [];
  made = ap (λ (l : List LinkCall). l ++ Received (Some frame) ∷ []) x.made ∙ append_assoc before.calls x.calls (Received (Some frame) ∷ []);
  taken = frames_in-append x.calls (Received (Some frame) ∷ []) ∙ ap (λ (l : List (List ℕ)). l ++ frame ∷ []) x.taken;
  left = x.left ∙ ap (λ (l : List (List ℕ)). frames ++ l) first ∙ sym (append_assoc frames (frame ∷ []) rest);
  at_recv = recv-push (MadeAll c delivered handed) x.calls (Received (Some frame)) x.at_recv (λ other is. rw x.taken all);
  last = stops-push x.calls (Received (Some frame)) each;
}
