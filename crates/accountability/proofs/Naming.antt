-- An open round names whom it misses.
use Rattle.std.proofs.Common.{◌≡◌, ◌≢◌, ℕ, ◌≤◌, true, false, List, [], ◌∷◌, map, Option, Some, None, ap, sym, ◌∙◌, refl, subst, arith, inl, inr, eq-eqb, rules, slice_get, take}
use Rattle.std.specs.Prelude.{◌&&◌, ◌==◌, ◌<◌, All, AllPairs, Bool, Contains, IsSome, filter, is_none, not, option_and_then}
use Rattle.std.proofs.lemmas.Bool.{and_from, and_parts, cases_Bool, cond-false, cond-true, eqb-true, false_from_ne_true}
use Rattle.std.proofs.lemmas.Option.{none-some, slice_get-get_or}
use Rattle.wire_core.specs.Bytes.{IsBytes}
use Rattle.phase_message.specs.declared.stage.StageKind.{StageKind}
use Rattle.phase_message.specs.declared.stage.StageKind.TheVariants.{Keys, Submit, Shuffle, Go, Final, Pad, Check, Confirm}
use Rattle.phase_message.specs.Shape.{Shape}
use Rattle.phase_message.specs.Slots.{senders_in}
use Rattle.phase_message.specs.Stages.{is_member, is_sender, is_slot, kind_of_stage, speaks}
use Rattle.phase_message.proofs.SlotLists.{slot_at-is, slot_at-place}
use Rattle.stage_log.specs.Log.{all_some}
use Rattle.round_spec.specs.Say.{Configuration, shape_in}
use Rattle.round_spec.specs.Course.{Others, Stand, course_of, is_open, post_of, posts_of_kind, settled_log, stage_filled}
use Rattle.round_spec.specs.Result.{Outcome, Waiting, counted_part, first_posts, is_awaited, least_ending, log_after, outcome_ended, senders_at, stand_after, waiting_outcome}
use Rattle.round_spec.specs.Runs.{CanEnter}
use Rattle.round_spec.specs.Verdict.{Convicts, Done, Goes, Verdict}
use Rattle.round_spec.proofs.Contained.{contains-filter, contains-filter-from, contains-here, contains-later}
use Rattle.round_spec.proofs.Given.{first_posts_name}
use Rattle.round_spec.proofs.Stopping.{course_stops}
use Rattle.round_spec.proofs.Waiting.{open_rounds_wait}
use Rattle.conviction.proofs.OwnRows.{in-range}
use Rattle.accountability.specs.Naming.{IsMissed, NamesMissed, OpenNames}
use Rattle.accountability.proofs.Endings.{outcome-cases}
use Rattle.accountability.proofs.Unheard.{missing-unheard, unheard-missing}
use Rattle.round_spec.specs.Reached.{IsStopped}
use Rattle.round_spec.specs.Waiting.{WaitsAtFirst}
use Rattle.phase_message.specs.declared.post.Post.{Post}
use Rattle.phase_message.specs.declared.stage.Slot.{Slot}
use Rattle.std.proofs.lemmas.List.FromFn.{get_or-range_with_len, length-range_with_len}
use Rattle.std.proofs.lemmas.List.Kept.{AllPairs-filter}
use Rattle.stage_log.specs.Table.{Log, first_incomplete_of, is_missing, kept_in}
use Rattle.std.specs.Option.{option_map_or}
use Rattle.std.specs.List.{range_with_len}

-- ---- who speaks at a stage

member-within : (n s : ℕ) → is_member n s ≡ true → (1 ≤ s) × (s ≤ n)
member-within n s e = search rules

all-contain : (n s : ℕ) → is_member n s ≡ true → Contains (range_with_len 1 n) s
all-contain n s e = (let within = member-within n s e in let least = within.0 in let most = within.1 in in-range 1 n s least (omega arith))

senders-contain : (shape : Shape) (kind : StageKind) (s : ℕ) → is_sender shape kind s ≡ true → Contains (senders_in shape kind) s
senders-contain shape (Shuffle shuffle k) s e = subst (λ (x : ℕ). Contains (k ∷ []) x) (sym (eqb-true s k e)) (contains-here k [])
senders-contain shape Keys s e = all-contain shape.members s e
senders-contain shape (Submit shuffle) s e = all-contain shape.members s e
senders-contain shape (Go shuffle) s e = all-contain shape.members s e
senders-contain shape (Final shuffle) s e = all-contain shape.members s e
senders-contain shape Pad s e = all-contain shape.members s e
senders-contain shape Check s e = all-contain shape.members s e
senders-contain shape Confirm s e = all-contain shape.members s e

contained-at : (xs : List ℕ) (x : ℕ) → Contains xs x → (place : ℕ) × (slice_get xs place ≡ Some x)
contained-at xs x (i, lt, same) = (i, slice_get-get_or xs i x lt ∙ ap (λ (y : ℕ). Some y) same)

sender-speaks : (shape : Shape) (stage s : ℕ) (kind : StageKind) → kind_of_stage shape stage ≡ Some kind
    → Contains (senders_in shape kind) s
    → is_slot shape stage s ≡ true
sender-speaks shape stage s kind at listed =
    let place = contained-at (senders_in shape kind) s listed in
    (slot_at-is shape _ (record { stage = stage; sender = s }) (slot_at-place shape stage place.0 s kind at place.1)).0

range-ascends : (a n : ℕ) → AllPairs (λ member later. member < later) (range_with_len a n)
range-ascends a n i j d lt within =
    let long = length-range_with_len a n in
    let first = get_or-range_with_len a n i d (omega (arith, long, within, lt)) in
    let second = get_or-range_with_len a n j d (omega (arith, long, within)) in
    omega (arith, first, second, lt)

one-ascends : (x : ℕ) → AllPairs (λ member later. member < later) (x ∷ [])
one-ascends x i j d lt within = absurd (omega (arith, lt, within))

senders-ascend : (shape : Shape) (kind : StageKind) → AllPairs (λ member later. member < later) (senders_in shape kind)
senders-ascend shape (Shuffle shuffle k) = one-ascends k
senders-ascend shape Keys = range-ascends 1 shape.members
senders-ascend shape (Submit shuffle) = range-ascends 1 shape.members
senders-ascend shape (Go shuffle) = range-ascends 1 shape.members
senders-ascend shape (Final shuffle) = range-ascends 1 shape.members
senders-ascend shape Pad = range-ascends 1 shape.members
senders-ascend shape Check = range-ascends 1 shape.members
senders-ascend shape Confirm = range-ascends 1 shape.members

-- ---- somebody is missing

none-of : {A : Type 0} (f : ℕ → Option A) (xs : List ℕ) → all_some (map f xs) ≡ None → (x : ℕ) × Contains xs x × (f x ≡ None)
none-of f [] e = absurd cc
none-of {A} f (x ∷ xs) e = by_first (λ rest. none-of f xs rest) (f x) refl
  where
    all-there : (y : A) (ys : List A) → f x ≡ Some y → all_some (map f xs) ≡ Some ys → all_some (f x ∷ map f xs) ≡ Some (y ∷ ys)
    all-there y ys here rest = rw (here, rest) refl

    by_others : (all_some (map f xs) ≡ None → (z : ℕ) × Contains xs z × (f z ≡ None)) → (y : A) → f x ≡ Some y → (o : Option (List A))
        → all_some (map f xs) ≡ o
        → (z : ℕ) × Contains (x ∷ xs) z × (f z ≡ None)
    by_others later y here None rest = (let more = later rest in (more.0, contains-later x xs more.0 more.1, more.2))
    by_others later y here (Some ys) rest = absurd (none-some (y ∷ ys) (sym e ∙ all-there y ys here rest))

    by_first : (all_some (map f xs) ≡ None → (z : ℕ) × Contains xs z × (f z ≡ None)) → (o : Option A) → f x ≡ o → (z : ℕ)
        × Contains (x ∷ xs) z × (f z ≡ None)
    by_first later None here = (x, contains-here x xs, here)
    by_first later (Some y) here = by_others later y here (all_some (map f xs)) refl

unfilled-by : (c : Configuration) (others : Others) (stand : Stand) (kind : StageKind) → kind_of_stage (shape_in c) stand.at ≡ Some kind
    → stage_filled c others stand ≡ None → (sender : ℕ) × Contains (senders_in (shape_in c) kind) sender
    × (post_of c others stand sender ≡ None)
unfolding stage_filled
unfilled-by c others stand kind at e =
    none-of (post_of c others stand) (senders_in (shape_in c) kind) (sym (ap (option_and_then (posts_of_kind c others stand)) at) ∙ e)

none-is : {A : Type 0} (o : Option A) → is_none o ≡ true → o ≡ None
none-is None e = refl
none-is (Some x) e = absurd cc

is-none : {A : Type 0} (o : Option A) → o ≡ None → is_none o ≡ true
is-none o e = ap is_none e

not-other : (a b : ℕ) → not (a == b) ≡ true → a ≢ b
not-other a b e same = (let equal = eq-eqb a b same in let both = ap not equal in cc)

other-not : (a b : ℕ) → a ≢ b → not (a == b) ≡ true
other-not a b e = ap not (false_from_ne_true (a == b) (λ same. e (eqb-true a b same)))

post-missing : (c : Configuration) (others : Others) (stand : Stand) (sender : ℕ) → post_of c others stand sender ≡ None
    → (sender ≢ c.number) × (others (record { stage = stand.at; sender = sender }) ≡ None)
post-missing c others stand sender e = elim (cases_Bool (sender == c.number)) [
  | inl own ↦ absurd (none-some _ (sym e ∙ cond-true (sender == c.number) _ (others (record { stage = stand.at; sender = sender })) own))
  | inr other ↦ (
    λ same. (let equal = eq-eqb sender c.number same in let both = sym equal ∙ other in cc),
    sym (cond-false (sender == c.number) _ (others (record { stage = stand.at; sender = sender })) other) ∙ e,
  )
]

-- ---- the own post

some-there : (o : Option Post) → is_none o ≡ false → IsSome o
some-there None e = absurd cc
some-there (Some post) e = refl

-- what the member has to say is there, since it waits for others alone
own-there : (c : Configuration) (others : Others) (stage : ℕ) → is_slot (shape_in c) stage c.number ≡ true
    → is_missing (settled_log c others) stage c.number ≡ is_awaited c others stage c.number
    → IsSome (kept_in (settled_log c others) (record { stage = stage; sender = c.number }))
unfolding settled_log
own-there c others stage speaks same =
    let slot : Slot = record { stage = stage; sender = c.number } in
    let other : not (c.number == c.number) ≡ false = ap not (eq-eqb c.number c.number refl) in
    let awaited : is_awaited c others stage c.number ≡ false = ap
    (λ (b : Bool). b && is_none (others (record { stage = stage; sender = c.number }))) other in
    some-there (kept_in (settled_log c others) (record { stage = stage; sender = c.number }))
    (false_from_ne_true _ (λ none. (let missing = and_from _ _ speaks none in let both = sym missing ∙ same ∙ awaited in cc)))

-- ---- an open result

pub waits-names : (c : Configuration) (delivered : List (List ℕ)) → CanEnter c → All IsBytes delivered → least_ending c delivered ≡ None
    → is_open (stand_after c delivered).verdict ≡ true
    → NamesMissed c delivered (stand_after c delivered).at (filter (is_awaited c (first_posts c delivered) (stand_after c delivered).at)
    (senders_at c (stand_after c delivered).at))
unfolding log_after
waits-names c delivered is all least still = record {
  first = ap (λ (o : Option (ℕ × Verdict)). first_incomplete_of (settled_log c (first_posts c (counted_part delivered o)))) least
      ∙ waits.stage;
  missed = λ member. (named-missed member, missed-named member);
  ascending = AllPairs-filter (λ member later. member < later) (is_awaited c others stand.at) (senders_at c stand.at)
      (subst (AllPairs (λ (member later : ℕ). member < later)) (sym senders) (senders-ascend (shape_in c) kind.0));
  somebody = somebody;
  own = λ speaks. subst (λ (log : Log). IsSome (kept_in log (record { stage = stand.at; sender = c.number })))
      (sym (ap (λ (o : Option (ℕ × Verdict)). settled_log c (first_posts c (counted_part delivered o))) least))
      (own-there c others stand.at speaks (waits.missing c.number speaks));
}
  where
    others : Others
    others = first_posts c delivered

    stand : Stand
    stand = stand_after c delivered

    members : 1 ≤ (shape_in c).members
    members = (let least = is.roster.least in omega arith)

    waits : WaitsAtFirst c others
    waits = open_rounds_wait c others is.round members (first_posts_name c delivered all) still

    stops : IsStopped c others stand
    stops = course_stops c others is.round members (first_posts_name c delivered all)

    kind : (kind : StageKind) × (kind_of_stage (shape_in c) stand.at ≡ Some kind)
    kind = stops.stage still

    senders : senders_at c stand.at ≡ senders_in (shape_in c) kind.0
    senders = ap (λ (o : Option StageKind). option_map_or (senders_in (shape_in c)) o []) kind.1

    named : List ℕ
    named = filter (is_awaited c others stand.at) (senders_at c stand.at)

    named-missed : (member : ℕ) → Contains named member → IsMissed c delivered stand.at member
    named-missed member listed =
        let parts = contains-filter (is_awaited c others stand.at) (senders_at c stand.at) member listed in
        let both = and_parts (not (member == c.number)) (is_none (others (record { stage = stand.at; sender = member }))) parts.1 in
        let other = not-other member c.number both.0 in
        record {
          speaks = sender-speaks (shape_in c) stand.at member kind.0 kind.1 (subst (λ (xs : List ℕ). Contains xs member) senders parts.0);
          other = other;
          unheard = missing-unheard c delivered (record { stage = stand.at; sender = member }) least (none-is _ both.1);
        }

    missed-named : (member : ℕ) → IsMissed c delivered stand.at member → Contains named member
    missed-named member missed =
        let speaks_there : is_sender (shape_in c) kind.0 member ≡ true = sym
        (ap (λ (o : Option StageKind). speaks (shape_in c) o member) kind.1) ∙ missed.speaks in
        let none = unheard-missing c delivered (record { stage = stand.at; sender = member }) missed.unheard in
        contains-filter-from (is_awaited c others stand.at) (senders_at c stand.at) member
        (subst (λ (xs : List ℕ). Contains xs member) (sym senders) (senders-contain (shape_in c) kind.0 member speaks_there))
        (and_from _ _ (other-not member c.number missed.other) (is-none _ none))

    somebody : (member : ℕ) × Contains named member
    somebody =
        let found = unfilled-by c others stand kind.0 kind.1 (stops.unfilled still) in
        let missing = post-missing c others stand found.0 found.2 in (
          found.0,
          contains-filter-from (is_awaited c others stand.at) (senders_at c stand.at) found.0
              (subst (λ (xs : List ℕ). Contains xs found.0) (sym senders) found.1)
              (and_from _ _ (other-not found.0 c.number missing.0) (is-none _ missing.1)),
        )

waiting-at : Outcome → ℕ
waiting-at (Waiting stage named) = stage
waiting-at _ = 0

waiting-for : Outcome → List ℕ
waiting-for (Waiting stage named) = named
waiting-for _ = []

pub open_names : OpenNames
unfolding waiting-at course_of waiting-for
open_names c delivered stage named is all e = elim (outcome-cases c delivered) [
  | inl open_end ↦
      let same : waiting_outcome c (first_posts c delivered) (stand_after c delivered) ≡ Waiting stage named = sym open_end.outcome_is
      ∙ e in
      subst (λ (o : Outcome). NamesMissed c delivered (waiting-at o) (waiting-for o)) same
      (waits-names c delivered is all open_end.least open_end.goes_on)
  | inr ended ↦ absurd (closed ended.verdict (stand_after c (take ended.count delivered)) ended.closed (sym ended.outcome_is ∙ e))
]
  where
    closed : (verdict : Verdict) (stand : Stand) → is_open verdict ≡ false → outcome_ended c stand verdict ≡ Waiting stage named → ⊥
    closed Goes stand still w = absurd cc
    closed Done stand still w = absurd cc
    closed (Convicts t) stand still w = absurd cc
