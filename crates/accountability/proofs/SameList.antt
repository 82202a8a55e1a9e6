-- Two members that are done have one list of slots.
use Rattle.std.proofs.Common.{arith, List, Option, Some, ap, sym, take, ◌≡◌, ◌∙◌, ◌<◌, ◌+◌, ◌-◌, ℕ}
use Rattle.std.proofs.lemmas.List.{take-take, take-map}
use Rattle.stage_log.specs.Log.{before, contents_of}
use Rattle.accountability.specs.Agreed.{HasSamePast, IsAgreedEnd}
use Rattle.accountability.proofs.Messages.{IsDoneEnd, done-end, work-late}
use Rattle.phase_message.specs.declared.post.Post.{Post}
use Rattle.group_roster.specs.Roster.{Roster, shape_of_roster}
use Rattle.round_spec.specs.Runs.{Run, run_after}
use Rattle.accountability.specs.SameList.{SameList}
use Rattle.phase_message.specs.Shape.{Shape}
use Rattle.stage_log.proofs.Fronts.{before-front}
use Rattle.round_spec.specs.Course.{closing_of}
use Rattle.conviction.proofs.OwnFronts.{front, slots-front}
use Rattle.conviction.proofs.Posts.{run-roster}
use Rattle.accountability.proofs.Rows.{same_past}
use Rattle.round_spec.specs.Say.{shape_in}
use Rattle.phase_message.specs.Slots.{slots_before}
use Rattle.phase_message.proofs.SlotLists.{slots_before-rises}
use Rattle.round_spec.specs.Slots.{slots_of_past}

some-posts : (x y : List Post) → (let told : List Post → Option (List Post) = λ z. Some z in told x ≡ told y) → x ≡ y
some-posts x y e = cc

pub same_list : SameList
same_list c other delivered others_delivered runs slots others_slots among is distinct e others_e =
    end.slots_are ∙ sym (slots-front shape (contents_of end.posts) (shape.members + 5) (omega arith))
    ∙ ap (slots_of_past shape) (sym mine_front ∙ ap contents_of fronts ∙ its_front)
    ∙ slots-front shape (contents_of its.posts) (shape.members + 5) (omega arith)
    ∙ ap (λ (s : Shape). slots_of_past s (contents_of its.posts)) (sym shape_is) ∙ sym its.slots_are
  where
    shape : Shape
    shape = shape_in c

    end : IsDoneEnd c delivered slots
    end = done-end c delivered slots among.config among.bytes e

    its : IsDoneEnd other others_delivered others_slots
    its = done-end other others_delivered others_slots is.config is.bytes others_e

    agreed : IsAgreedEnd c delivered runs end.stage end.posts
    agreed = record { among = among; distinct = distinct; kept = end.kept; agree = end.agree }

    late : shape.members + 5 < end.stage
    late = work-late (closing_of c end.posts end.stage) end.work

    its_late : (shape_in other).members + 5 < its.stage
    its_late = work-late (closing_of other its.posts its.stage) its.work

    run : Run
    run = run_after other others_delivered

    shape_is : shape_in other ≡ shape_in c
    shape_is = ap (λ (r : Roster). shape_of_roster r) (run-roster c.roster runs run among.honest is.own)

    members_are : (shape_in other).members ≡ shape.members
    members_are = ap (λ (s : Shape). s.members) shape_is

    same : HasSamePast c (end.stage - 1) end.posts run
    same = same_past c delivered runs end.stage end.posts run agreed is.own is.round

    log_shape : run.log.shape ≡ shape
    log_shape = its.kept.honest.shape ∙ shape_is

    n : ℕ
    n = slots_before shape (shape.members + 5)

    -- what the other kept before the checks, by either way
    first_way : before run.log (shape.members + 5) ≡ Some (take n same.past)
    first_way = before-front run.log (shape.members + 5) (end.stage - 1) same.past (omega (arith, late)) same.kept
        ∙ ap (λ (s : Shape). Some (take (slots_before s (shape.members + 5)) same.past)) log_shape

    second_way : before run.log (shape.members + 5) ≡ Some (take n its.posts)
    second_way = before-front run.log (shape.members + 5) (its.stage + 1) its.posts (omega (arith, its_late, members_are)) its.kept.kept
        ∙ ap (λ (s : Shape). Some (take (slots_before s (shape.members + 5)) its.posts)) log_shape

    fronts : take n same.past ≡ take n its.posts
    fronts = some-posts (take n same.past) (take n its.posts) (sym first_way ∙ second_way)

    mine_front : contents_of (take n same.past) ≡ front shape (contents_of end.posts) (shape.members + 5)
    mine_front =
        sym (take-map (λ (p : Post). p.content) n same.past) ∙ ap (take n) same.same
        ∙ take-take n (slots_before shape (end.stage - 1)) (contents_of end.posts)
        (slots_before-rises shape (shape.members + 5) (end.stage - 1) (omega (arith, late)))

    its_front : contents_of (take n its.posts) ≡ front shape (contents_of its.posts) (shape.members + 5)
    its_front = sym (take-map (λ (p : Post). p.content) n its.posts)
