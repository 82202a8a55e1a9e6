-- The honest members of a script's group stand among their runs, so each that is done has every honest message.
use Rattle.std.proofs.Common.{◌≡◌, ℕ, zero, suc, ◌+◌, ◌<◌, Bool, true, false, List, [], ◌∷◌, Option, Some, length, map, ap, sym, ◌∙◌, refl, subst, arith}
use Rattle.std.specs.Prelude.{All, AllPairs, Contains, IfSome, filter, not, slice_index_or}
use Rattle.std.specs.List.{range_with_len}
use Rattle.std.proofs.lemmas.Bool.{false≢true}
use Rattle.std.proofs.lemmas.List.Elements.{All-cons, All-map}
use Rattle.std.proofs.lemmas.List.Kept.{AllPairs-cons, AllPairs-filter}
use Rattle.std.proofs.lemmas.Option.{none-some}
use Rattle.bulk_descriptor.specs.declared.slot_state.SlotState.{SlotState}
use Rattle.transcript_form.specs.declared.claim.Claim.{Claim}
use Rattle.round_spec.specs.Result.{Outcome, Waiting as WaitingFor, Blamed as BlamedBy, DoneWith, result_of}
use Rattle.round_spec.specs.Runs.{AreApart, HonestRun, IsFaulty, Run}
use Rattle.round_spec.proofs.Contained.{contains-filter, contains-filter-from, contains-here, contains-later, contains-map, contains-map-from}
use Rattle.round_spec.proofs.Honesty.{run_after_is_honest}
use Rattle.member_spec.specs.declared.state.State.TheVariants.{Blamed}
use Rattle.member_spec.specs.Outcomes.{slots_shown}
use Rattle.member_core.specs.Promises.{HoldsMessages, IsEvidence, IsOneList}
use Rattle.round_script.specs.declared.script.Script.{Script}
use Rattle.round_script.specs.Script.{IsScript}
use Rattle.group_spec.specs.Driver.{MemberShown, group_end, shown_of}
use Rattle.group_spec.specs.Scripts.{script_end, script_members, script_roster, script_seat}
use Rattle.group_spec.specs.World.{Seat}
use Rattle.group_laws.specs.Forging.{BlamedAreFaulty, DoneMembersAgree, HonestMembersAreServed, HonestStandAmong, RunsAreHonest, honest_runs, run_shown}
use Rattle.group_laws.specs.Promises.{IsHonestIn, config_shown}
use Rattle.group_laws.proofs.Entering.{configured}
use Rattle.group_laws.proofs.Forging.{nothing_is_forged}
use Rattle.group_laws.proofs.Kept.{members_keep_their_promise}
use Rattle.group_laws.proofs.Worlds.{emptied, last-steady, last_seats, mapped-mapped}

-- ---- pairs

pub all-contained : {A : Type 0} (P : A → Type 0) (xs : List A) → ((x : A) → Contains xs x → P x) → All P xs
all-contained P [] each = λ k d lt. absurd (omega (arith, lt))
all-contained P (x ∷ xs) each = All-cons P x xs (each x (contains-here x xs)) (all-contained P xs (λ y there. each y (contains-later x xs y there)))

pairs-map : {X Y : Type 0} (R : Y → Y → Type 0) (f : X → Y) (xs : List X) → AllPairs (λ a b. R (f a) (f b)) xs → AllPairs R (map f xs)
pairs-map R f [] pairs = λ i j d lt within. absurd (omega (arith, lt, within))
pairs-map R f (x ∷ xs) pairs =
    AllPairs-cons R (f x) (map f xs)
    (All-map (R (f x)) f xs (λ k d lt. pairs 0 (suc k) d (omega arith) (omega (arith, lt))))
    (pairs-map R f xs (λ i j d lt within. pairs (suc i) (suc j) d (omega (arith, lt)) (omega (arith, within))))

get-map : {X Y : Type 0} (f : X → Y) (xs : List X) (i : ℕ) (d : X) → slice_index_or (map f xs) i (f d) ≡ f (slice_index_or xs i d)
get-map f [] i d = refl
get-map f (x ∷ xs) zero d = refl
get-map f (x ∷ xs) (suc i) d = get-map f xs i d

length-same : {X Y : Type 0} (f : X → Y) (xs : List X) → length (map f xs) ≡ length xs
length-same f [] = refl
length-same f (x ∷ xs) = ap suc (length-same f xs)

below-all : (a b n : ℕ) → a < b → All (λ x. a < x) (range_with_len b n)
below-all a b zero lt = λ k d within. absurd (omega (arith, within))
below-all a b (suc n) lt = All-cons (λ x. a < x) b (range_with_len (b + 1) n) lt (below-all a (b + 1) n (omega (arith, lt)))

range-rises : (a n : ℕ) → AllPairs (λ x y. x < y) (range_with_len a n)
range-rises a zero = λ i j d lt within. absurd (omega (arith, lt, within))
range-rises a (suc n) = AllPairs-cons (λ x y. x < y) a (range_with_len (a + 1) n) (below-all a (a + 1) n (omega arith)) (range-rises (a + 1) n)

map-same : (xs : List ℕ) → map (λ x. x) xs ≡ xs
map-same [] = refl
map-same (x ∷ xs) = ap (λ ys. x ∷ ys) (map-same xs)

-- ---- the runs

-- the numbers of the members rise
pub numbers-are : (script : Script) → IsScript script → map (λ (s : Seat). s.config.number) (last_seats script) ≡ script_members script
numbers-are script is =
    let number : Seat → ℕ = λ s. s.config.number in
    sym (mapped-mapped (λ (s : Seat). s.config.number) emptied (λ (s : Seat). s.config.number) (last_seats script) (λ s. refl))
    ∙ ap (map number) (last-steady script is).same
    ∙ mapped-mapped (λ (s : Seat). s.config.number) (script_seat script) (λ m. m) (script_members script) (λ m. refl)
    ∙ map-same (script_members script)

numbers-rise : (script : Script) → IsScript script → AllPairs (λ (a b : Seat). a.config.number < b.config.number) (last_seats script)
numbers-rise script is i j d lt within =
    let seats : List Seat = last_seats script in
    let number : Seat → ℕ = λ s. s.config.number in
    let rise = subst (λ (ns : List ℕ). AllPairs (λ x y. x < y) ns) (sym (numbers-are script is)) (range-rises 1 (length script.messages)) in
    let long = length-same number seats in
    let pair : slice_index_or (map number (last_seats script)) i (number d) < slice_index_or (map number (last_seats script)) j (number d)
    = rise i j (number d) lt (omega (arith, within, long)) in
    let first = get-map number seats i d in
    let second = get-map number seats j d in
    omega (arith, pair, first, second)

seats-apart : (script : Script) (a b : Seat) → a.config.number < b.config.number → AreApart (run_shown script (shown_of a)) (run_shown script (shown_of b))
unfolding shown_of
seats-apart script a b lt = λ same. absurd (omega (arith, lt, same))

honest-flag : (b : Bool) → not b ≡ true → b ≡ false
honest-flag false e = refl
honest-flag true e = absurd (false≢true e)

-- the run of an honest member is honest
run-honest : (script : Script) (shown : MemberShown) → IsScript script → IsHonestIn script shown → HonestRun (run_shown script shown)
run-honest script shown is in_it =
    let keeps = members_keep_their_promise script shown is in_it in
    run_after_is_honest (config_shown script shown) shown.delivered (configured script shown.number is keeps.member) keeps.bytes

-- a listed run is that of an honest member
run-of : (script : Script) (run : Run) → Contains (honest_runs script) run → (shown : MemberShown) × IsHonestIn script shown
    × (run_shown script shown ≡ run)
unfolding honest_runs
run-of script run there =
    let found = contains-map (run_shown script) (filter (λ (s : MemberShown). not s.faulty) (script_end script)) run there in
    let kept = contains-filter (λ (s : MemberShown). not s.faulty) (script_end script) found.0 found.1 in
    (found.0, record { listed = kept.0; honest = honest-flag found.0.faulty kept.1 }, found.2)

runs-apart : (script : Script) → IsScript script → AllPairs AreApart (honest_runs script)
unfolding honest_runs script_end group_end
runs-apart script is =
    let seats : List Seat = last_seats script in
    let apart : AllPairs (λ (a b : MemberShown). AreApart (run_shown script a) (run_shown script b)) (map shown_of (last_seats script))
    = pairs-map (λ (a b : MemberShown). AreApart (run_shown script a) (run_shown script b)) shown_of (last_seats script)
    (λ i j d lt within. seats-apart script (slice_index_or seats i d) (slice_index_or seats j d) (numbers-rise script is i j d lt within)) in
    pairs-map AreApart (run_shown script) (filter (λ (s : MemberShown). not s.faulty) (map shown_of (last_seats script)))
    (AllPairs-filter (λ (a b : MemberShown). AreApart (run_shown script a) (run_shown script b)) (λ (s : MemberShown). not s.faulty)
    (map shown_of (last_seats script)) apart)

pub runs_are_honest : RunsAreHonest
runs_are_honest script is = record {
  honest = all-contained HonestRun (honest_runs script) (λ run there. (
      let of = run-of script run there in subst HonestRun of.2 (run-honest script of.0 is of.1)));
  one_roster = all-contained (λ (run : Run). run.config.roster ≡ script_roster script) (honest_runs script) (λ run there. (
      let of = run-of script run there in ap (λ (r : Run). r.config.roster) (sym of.2)));
  apart = runs-apart script is;
}

own-there : (script : Script) (shown : MemberShown) → IsHonestIn script shown → Contains (honest_runs script) (run_shown script shown)
unfolding honest_runs
own-there script shown in_it = contains-map-from (run_shown script) (filter (λ (s : MemberShown). not s.faulty) (script_end script)) shown
    (contains-filter-from (λ (s : MemberShown). not s.faulty) (script_end script) shown in_it.listed (ap not in_it.honest))

pub honest_stand_among : HonestStandAmong
honest_stand_among script shown is in_it =
    let keeps = members_keep_their_promise script shown is in_it in
    record {
      config = configured script shown.number is keeps.member;
      bytes = keeps.bytes;
      honest = runs_are_honest script is;
      own = own-there script shown in_it;
      unforged = nothing_is_forged script shown is in_it.listed;
    }

-- ---- what they are served

if-some : {X : Type 0} (o : Option X) (x : X) (P : X → Type 0) → o ≡ Some x → IfSome o P → P x
if-some o x P e holds = subst (λ (q : Option _). IfSome q P) e holds

pub honest_members_are_served : HonestMembersAreServed
honest_members_are_served script shown slots is distinct in_it e =
    let keeps = members_keep_their_promise script shown is in_it in
    if-some shown.slots slots (HoldsMessages (config_shown script shown) shown.delivered) e keeps.messages (honest_runs script)
    (honest_stand_among script shown is in_it) distinct

slots-same : (a b : List SlotState) → (let told : List SlotState → Option (List SlotState) = λ x. Some x in told a ≡ told b) → a ≡ b
slots-same a b e = cc

done-with : (o : Outcome) (slots : List SlotState) → Some slots ≡ slots_shown o → o ≡ DoneWith slots
done-with (DoneWith others) slots e = ap (λ (x : List SlotState). DoneWith x) (sym (slots-same slots others e))
done-with (WaitingFor stage named) slots e = absurd (none-some slots (sym e))
done-with (BlamedBy t) slots e = absurd (none-some slots (sym e))

pub done_members_agree : DoneMembersAgree
done_members_agree script shown other slots others_slots is distinct in_it other_in e others_e =
    let keeps = members_keep_their_promise script shown is in_it in
    let others_keep = members_keep_their_promise script other is other_in in
    if-some shown.slots slots (IsOneList (config_shown script shown) shown.delivered) e keeps.one_list (config_shown script other) other.delivered
    (honest_runs script) others_slots (honest_stand_among script shown is in_it)
    (record {
      config = configured script other.number is others_keep.member;
      bytes = others_keep.bytes;
      own = own-there script other other_in;
      round = refl;
    })
    distinct (done-with (result_of (config_shown script other) other.delivered) others_slots (sym others_e ∙ others_keep.slots_are))

accused-same : (a b : ℕ) (claim other : Claim) → Blamed a claim ≡ Blamed b other → a ≡ b
accused-same a b claim other e = cc

pub blamed_are_faulty : BlamedAreFaulty
blamed_are_faulty script shown bytes accused claim is distinct in_it e blames =
    let keeps = members_keep_their_promise script shown is in_it in
    let evidence = if-some shown.evidence bytes (IsEvidence (config_shown script shown) shown.delivered shown.state) e keeps.convicts in
    subst (λ (a : ℕ). IsFaulty (honest_runs script) script.round a)
    (accused-same evidence.accused accused evidence.claim claim (sym evidence.blames ∙ blames))
    (evidence.convicts.faulty (honest_runs script) (honest_stand_among script shown is in_it) distinct)
