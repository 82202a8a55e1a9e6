-- What happens to a key file over time.
use Rattle.std.proofs.Common.{ℕ, ◌<◌, ◌≤◌, List, [], ◌∷◌, Option, Some, None, sym, subst, arith}
use Rattle.std.specs.Prelude.{All, AllPairs}
use Rattle.std.proofs.lemmas.List.Elements.{All-cons, All-nil}
use Rattle.std.proofs.lemmas.List.Kept.{AllPairs-cons}
use Rattle.key_store.specs.declared.layout.KeyContent.{KeyContent}
use Rattle.crash_disk.specs.Disk.{Every}
use Rattle.key_store.specs.Crashes.{KeepsFront}
use Rattle.key_store.specs.History.{Event, Handed, Happened, IsBefore, IsLeft, IsRaised, IsUsedOnce, all_handed, disk_after, raised_to, raised_to_last}
use Rattle.key_store.specs.History.Event.{returned, cut_off, crashed}

-- leaves beyond what a file stands for
abbrev IsBeyond : KeyContent → Handed → Type 0
IsBeyond least h = (least.kept.round < h.round) × (least.kept.next ≤ h.first)

module _ {D : Type 0} (told : D → Option (List ℕ)) (may_leave : D → List ℕ → Type 0) (moment : D → ℕ) (left_since : D → ℕ → List ℕ → Type 0)
  where
    record Goes (least : KeyContent) (start : D) (events : List (Event D)) : Type 0 where
      pub beyond : All (IsBeyond least) (all_handed events)
      pub pairs : AllPairs IsBefore (all_handed events)
      pub kept : Every (may_leave (disk_after start events)) (KeepsFront (raised_to_last least (all_handed events)))

    left_keeps : (least : KeyContent) (images : List ℕ → Type 0) (left : D) → Every images (KeepsFront least)
        → IsLeft told may_leave images left
        → Every (may_leave left) (KeepsFront least)
    left_keeps least images left keeps is = λ image may. subst (KeepsFront least) (sym (is.3 image may)) (keeps is.0 is.1)

    goes : (least : KeyContent) (start : D) (events : List (Event D)) → Every (may_leave start) (KeepsFront least)
        → Happened told may_leave moment left_since start events
        → Goes least start events
    goes least start [] keeps happened = record {
      beyond = All-nil (IsBeyond least);
      pairs = λ i j d lt within. absurd (omega arith);
      kept =
          keeps;
    }
    goes least start (returned new None ∷ events) keeps happened =
        let rest = goes least new events (happened.0 least keeps).now happened.1 in
        record { beyond = rest.beyond; pairs = rest.pairs; kept = rest.kept }
    goes least start (returned new (Some h) ∷ events) keeps happened =
        let raised : IsRaised least h (may_leave new) = (happened.0 least keeps).hands in
        let rest = goes (raised_to least h) new events raised.kept happened.1 in
        record {
          beyond = All-cons (IsBeyond least) h (all_handed events) (raised.later, raised.behind)
              (further least h (all_handed events) raised.later raised.behind rest.beyond);
          pairs = AllPairs-cons IsBefore h (all_handed events) rest.beyond rest.pairs;
          kept = rest.kept;
        }
      where
        further : (least : KeyContent) (h : Handed) (handed : List Handed) → least.kept.round < h.round → least.kept.next ≤ h.first
            → All (IsBeyond (raised_to least h)) handed → All (IsBeyond least) handed
        further least h handed later behind beyond = λ k d within. let b = beyond k d within in
            (omega (arith, b.0, later), omega (arith, b.1, behind))
    goes least start (cut_off new left ∷ events) keeps happened =
        let rest = goes least left events (left_keeps least (left_since new (moment start)) left (happened.1 least keeps).moments happened.2)
        happened.3 in
        record { beyond = rest.beyond; pairs = rest.pairs; kept = rest.kept }
    goes least start (crashed left ∷ events) keeps happened =
        let rest = goes least left events (left_keeps least (may_leave start) left keeps happened.0) happened.1 in
        record { beyond = rest.beyond; pairs = rest.pairs; kept = rest.kept }

    pub is_used_once : IsUsedOnce told may_leave moment left_since
    is_used_once = λ least start events keeps happened. let all = goes least start events keeps happened in (all.pairs, all.kept)
